-- The cards up to the number are read.
use Rattle.std.proofs.Common.{◌-◌, length}
use Rattle.control_compiler.specs.Underway.{IsUnderway}
use Rattle.control_compiler.proofs.reading.Reading.after.Given as goal

abbrev pub invariant-loop-number : goal.invariant-loop-number
invariant-loop-number l = IsUnderway l.cards l.number l.draft

abbrev pub decreases-loop-number : goal.decreases-loop-number
decreases-loop-number l = length l.cards - l.number
