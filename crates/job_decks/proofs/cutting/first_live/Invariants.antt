use Rattle.std.proofs.Common.{◌≡◌}
use Rattle.deck_definitions.specs.Decks.{decks_of}
use Rattle.job_decks.specs.Positions.{cards_from}
use Rattle.job_decks.proofs.cutting.first_live.Given as goal

abbrev pub invariant-loop-number : goal.invariant-loop-number
invariant-loop-number l = decks_of (cards_from l.from l.cards) ≡ decks_of (cards_from l.number l.cards)
