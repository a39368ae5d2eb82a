use Rattle.std.proofs.Common.{◌≡◌, length}
use Rattle.lp_definitions.specs.LinearProgram.{value_at}
use Rattle.ranging.proofs.Distances.{AreMetTo}
use Rattle.ranging.proofs.limit_ends.meet_limits.Given as goal

abbrev pub invariant-loop-k : goal.invariant-loop-k
invariant-loop-k l = record {
  met : AreMetTo l.lp l.basis (value_at l.point l.i) (value_at l.row) l.i l.k l.initial.ends l.ends;
  places : length l.ends ≡ length l.initial.ends;
}
