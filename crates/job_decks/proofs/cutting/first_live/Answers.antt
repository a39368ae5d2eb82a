use Rattle.std.proofs.Common.{◌<◌, ◌≤◌, length, ◌∙◌, sym, arith}
use Rattle.job_decks.proofs.Places.{skip_card, no_deck}
use Rattle.job_decks.proofs.cutting.first_live.Goals as goal

pub loop-number-preserved : goal.loop-number-preserved
loop-number-preserved c =
    let from_one : 1 ≤ c.loop-number.number = omega arith in
    c.loop-number.invariant
    ∙ skip_card c.loop-number.number c.args.cards.now c.card.result.bytes.now from_one c.card.ensures (sym c.is_skipped.ensures ∙ c.if-not-is_skipped.false)

pub returns-clause-decks : goal.returns-clause-decks
returns-clause-decks c =
    let past : length c.args.cards.now < c.loop-number.number = omega arith in
    c.loop-number.invariant ∙ no_deck c.loop-number.number c.args.cards.now past
