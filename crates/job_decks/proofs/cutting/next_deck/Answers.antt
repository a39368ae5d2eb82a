use Rattle.std.proofs.Common.{◌≤◌, ◌∙◌, arith}
use Rattle.job_decks.proofs.Places.{deck_at}
use Rattle.job_decks.proofs.cutting.next_deck.Goals as goal

pub returns-clause-deck : goal.returns-clause-deck
returns-clause-deck c =
    let first = c.in_ok-first.first in
    let from_one : 1 ≤ first = omega (arith, c.in_ok-first.ensures.later) in
    c.in_ok-first.ensures.decks
    ∙ deck_at first c.deck_end-last.result c.args.cards.now from_one c.in_ok-first.ensures.within c.in_ok-first.ensures.live c.deck_end-last.ensures.end
