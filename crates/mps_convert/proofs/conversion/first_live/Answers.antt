use Rattle.std.proofs.Common.{◌≤◌, ap, sym, ◌∙◌, arith}
use Rattle.card_definitions.specs.Cards.{live}
use Rattle.deck_fields.proofs.Between.{nothing_yet}
use Rattle.mps_convert.proofs.Whole.{still_none, name_at_first}
use Rattle.mps_convert.proofs.conversion.first_live.Goals as goal

pub loop-number-init : goal.loop-number-init
loop-number-init c = ap live (nothing_yet c.args.first c.args.cards.now)

pub loop-number-preserved : goal.loop-number-preserved
loop-number-preserved c =
    still_none c.args.first c.loop-number.number c.args.cards.now c.card-card.result.bytes.now c.requires.from_one c.loop-number.auto.number
    c.card-card.ensures c.loop-number.invariant
    (sym c.is_skipped.ensures ∙ c.if-not-is_skipped.false)

pub returns-then-not-is_skipped-clause-name : goal.returns-then-not-is_skipped-clause-name
returns-then-not-is_skipped-clause-name c =
    let below : c.loop-number.number ≤ c.args.last = omega (arith, c.min-end.ensures) in
    name_at_first c.args.first c.loop-number.number c.args.cards.now c.card-card.result.bytes.now c.requires.from_one c.loop-number.auto.number
    c.card-card.ensures c.loop-number.invariant c.args.last below
    (sym c.is_skipped.ensures ∙ c.if-not-is_skipped.true)
