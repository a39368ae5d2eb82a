-- A walker is reached.
use Rattle.std.proofs.Common.{◌-◌}
use Rattle.listing_walk.proofs.Stepping.{IsUnderway}
use Rattle.listing_walk.proofs.course.walk.Given as goal

abbrev pub invariant-loop-position : goal.invariant-loop-position
invariant-loop-position g l = IsUnderway g.T.Checks.checker l.program l.cards l.listing l.last l.machine l.place l.position l.executed

abbrev pub decreases-loop-position : goal.decreases-loop-position
decreases-loop-position g l = 100000 - l.executed
