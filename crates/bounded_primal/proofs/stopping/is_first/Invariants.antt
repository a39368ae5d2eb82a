use Rattle.std.specs.Prelude.{ℕ, ◌≤◌}
use Rattle.lp_definitions.specs.LinearProgram.{value_at}
use Rattle.simplex_definitions.specs.Moves.{step_length}
use Rattle.basis_values.specs.Motions.{motion}
use Rattle.basis_values.specs.Reach.{Yields}
use Rattle.bounded_primal.proofs.stopping.is_first.Given as goal

abbrev pub invariant-loop-k : goal.invariant-loop-k
invariant-loop-k l = (i : ℕ) → 1 ≤ i → i ≤ l.k → Yields (step_length l.lp (value_at l.point) (motion (value_at l.direction) l.up)) l.first i
