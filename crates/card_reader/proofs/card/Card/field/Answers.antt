use Rattle.std.proofs.Common.{◌∙◌, ◌+◌, ◌-◌, ap, arith}
use Rattle.card_definitions.specs.Cards.{is_blank}
use Rattle.card_definitions.specs.Words.{without_trailing}
use Rattle.card_reader.proofs.FieldLemmas.{columns_of}
use Rattle.card_reader.proofs.card.Card.field.Goals as goal

pub returns : goal.returns
returns c =
    let before = c.args.from - 1 in
    let width = c.args.to + 1 - c.args.from in
    c.without_blanks.ensures ∙ ap (without_trailing is_blank) (columns_of c.args.self.now.bytes.now before width c.min-end.result c.min-start.result
    (omega arith) (omega arith))
