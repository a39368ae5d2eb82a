-- All cards up to the number are skipped.
use Rattle.std.proofs.Common.{◌≡◌, ◌-◌, length}
use Rattle.control_compiler.specs.Jobs.{live_cards, live_after}
use Rattle.control_compiler.proofs.reading.first_live.Given as goal

abbrev pub invariant-loop-number : goal.invariant-loop-number
invariant-loop-number l = live_cards l.cards ≡ live_after l.number l.cards

abbrev pub decreases-loop-number : goal.decreases-loop-number
decreases-loop-number l = length l.cards - l.number
