use Rattle.std.specs.Prelude.{IfSome}
use Rattle.lp_definitions.specs.LinearProgram.{value_at, size}
use Rattle.simplex_definitions.specs.Moves.{step_length}
use Rattle.basis_values.specs.Motions.{motion}
use Rattle.basis_values.specs.Reach.{Reaches}
use Rattle.bounded_primal.proofs.stopping.nearest_computed.Given as goal

abbrev pub invariant-loop-k : goal.invariant-loop-k
invariant-loop-k l = IfSome l.nearest (Reaches (step_length l.lp (value_at l.point) (motion (value_at l.direction) l.up)) (size l.lp.matrix))
