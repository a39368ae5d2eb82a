use Rattle.std.proofs.Common.{◌≡◌, drop}
use Rattle.std.specs.Prelude.{IsTrue}
use Rattle.lp_definitions.specs.LinearProgram.{value_at}
use Rattle.bounded_primal.specs.KeptPoints.{all_kept, all_needed}
use Rattle.bounded_primal.proofs.LookedAt.{IsDoneUpTo, IsMovedUpTo}
use Rattle.bounded_primal.proofs.step.move_point.Given as goal

abbrev pub invariant-loop-k : goal.invariant-loop-k
invariant-loop-k l = record {
  done : IsDoneUpTo l.direction (IsMovedUpTo l.lp l.step.by.now.step (value_at l.direction) (value_at l.initial.point) (value_at l.point) (all_kept l.still))
      (drop l.k-index l.moving);
  kept : IsTrue (all_kept l.still) → IsTrue (all_kept l.kept);
  needed : IsTrue (all_needed l.kept) → IsTrue (all_kept l.still);
  scaled : l.scaled ≡ l.step.by.now.step;
}
