use Rattle.deck_definitions.specs.declared.Style.TheVariants.{FreeFields}
use Rattle.deck_definitions.proofs.CardTexts.{reading-lawful}
use Rattle.deck_fields.proofs.CardNames.{is_reading}
use Rattle.deck_fields.proofs.card_reading.read_data_card.Goals as goal

pub card_with-requires-clause-reading : goal.card_with-requires-clause-reading
card_with-requires-clause-reading c =
    is_reading c.in_ok-f-in-FreeFields.f _ c.in_ok-f-in-FreeFields.ensures.reading
    (reading-lawful c.args.section c.args.deletes c.args.card.bytes.now FreeFields c.args.card.printable c.in_ok-f-in-FreeFields.ensures.no_fault)
