use Rattle.deck_definitions.proofs.CardTexts.{fixed-lawful}
use Rattle.deck_fields.proofs.CardNames.{is_reading, fixed_columns}
use Rattle.deck_fields.proofs.card_reading.read_fixed_card.Goals as goal

pub card_with-requires-clause-reading : goal.card_with-requires-clause-reading
card_with-requires-clause-reading c = is_reading c.in-Some.f _ c.in-Some.ensures.some.1 (fixed-lawful c.args.card.bytes.now c.args.card.printable)

pub card_with-requires-clause-column1 : goal.card_with-requires-clause-column1
card_with-requires-clause-column1 c = (fixed_columns c.in-Some.f c.args.card.bytes.now c.in-Some.ensures.some.1).0

pub card_with-requires-clause-column2 : goal.card_with-requires-clause-column2
card_with-requires-clause-column2 c = (fixed_columns c.in-Some.f c.args.card.bytes.now c.in-Some.ensures.some.1).1
