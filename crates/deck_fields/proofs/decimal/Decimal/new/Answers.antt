use Rattle.std.proofs.Common.{◌≡◌, length, refl, ap, ◌∙◌}
use Rattle.card_definitions.specs.Places.{text_in}
use Rattle.card_definitions.proofs.Places.{length-padded}
use Rattle.deck_fields.proofs.Decimals.{decimal_in_places}
use Rattle.deck_fields.proofs.decimal.Decimal.new.Goals as goal

pub invariant_of-result : goal.invariant_of-result
invariant_of-result c =
    let held : text_in c.padded.result ≡ c.args.text.now = ap text_in c.padded.ensures ∙ decimal_in_places _ c.requires in
    (ap length c.padded.ensures ∙ length-padded 12 c.args.text.now c.requires.short, rw held c.requires)

pub returns : goal.returns
returns c =
    let held : text_in c.padded.result ≡ c.args.text.now = ap text_in c.padded.ensures ∙ decimal_in_places _ c.requires in
    rw held refl
