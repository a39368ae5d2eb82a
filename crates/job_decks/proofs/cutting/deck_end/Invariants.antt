use Rattle.std.proofs.Common.{◌≡◌, ◌+◌}
use Rattle.std.specs.List.{position_or_len}
use Rattle.deck_definitions.specs.Sections.{begins}
use Rattle.deck_definitions.specs.declared.Section.TheVariants.{Endata}
use Rattle.job_decks.specs.Positions.{cards_from}
use Rattle.job_decks.proofs.cutting.deck_end.Given as goal

abbrev pub invariant-loop-number : goal.invariant-loop-number
invariant-loop-number l =
    l.first + position_or_len (begins Endata) (cards_from l.first l.cards) ≡ l.number + position_or_len (begins Endata) (cards_from l.number l.cards)
