use Rattle.std.proofs.Common.{◌≡◌, ◌+◌, ◌-◌, ◌≤◌, ◌++◌, length, drop, All}
use Rattle.card_definitions.specs.Cards.{cards_of}
use Rattle.card_reader.specs.Spans.{cards_at, IsWithin}
use Rattle.card_reader.proofs.FaultLemmas.{fault_of_cards}
use Rattle.card_reader.proofs.cut.cut_cards.Given as goal
use Rattle.card_definitions.specs.declared.TheConstants.{MAX_JOB_CARDS}

abbrev pub invariant-loop-start : goal.invariant-loop-start
invariant-loop-start l = record {
  cards : cards_at l.bytes l.spans.items ++ cards_of (drop l.start l.bytes) ≡ cards_of l.bytes;
  within : All (IsWithin (length l.bytes)) l.spans.items;
  few : length l.spans.items ≤ MAX_JOB_CARDS;
  fault : l.fault ≡ fault_of_cards (cards_at l.bytes l.spans.items);
  in_range : l.start ≤ length l.bytes + 1;
}

abbrev pub decreases-loop-start : goal.decreases-loop-start
decreases-loop-start l = length l.bytes + 1 - l.start
