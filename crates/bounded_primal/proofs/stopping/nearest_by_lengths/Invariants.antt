use Rattle.std.proofs.Common.{drop}
use Rattle.lp_definitions.specs.LinearProgram.{value_at}
use Rattle.bounded_primal.proofs.LookedAt.{IsDoneUpTo, NearestUpTo}
use Rattle.bounded_primal.proofs.stopping.nearest_by_lengths.Given as goal

abbrev pub invariant-loop-k : goal.invariant-loop-k
invariant-loop-k l = IsDoneUpTo l.values (NearestUpTo l.lp (value_at l.point) (value_at l.values) l.up l.nearest) (drop l.k-index l.moving)
