use Rattle.std.proofs.Common.{◌≡◌, ◌≤◌, ◌+◌, ◌-◌, length}
use Rattle.deck_definitions.specs.Decks.{decks_of, deck_taken}
use Rattle.job_decks.specs.Positions.{cards_from}
use Rattle.job_decks.proofs.cutting.take_deck.Given as goal

abbrev pub invariant-loop-deck : goal.invariant-loop-deck
invariant-loop-deck l = record {
  taken : deck_taken l.wanted (decks_of (cards_from l.from l.cards)) ≡ deck_taken l.wanted (decks_of (cards_from l.next l.cards));
  later : l.from ≤ l.next;
  within : l.next ≤ length l.cards + 1;
}

abbrev pub decreases-loop-deck : goal.decreases-loop-deck
decreases-loop-deck l = length l.cards + 1 - l.next
