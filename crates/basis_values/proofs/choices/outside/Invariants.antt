use Rattle.std.proofs.Common.{◌≡◌, ℕ, ◌≤◌, false}
use Rattle.std.specs.Prelude.{◌&&◌}
use Rattle.lp_definitions.specs.LinearProgram.{value_at}
use Rattle.lp_definitions.specs.Basis.{basics_of, is_in}
use Rattle.simplex_definitions.specs.Moves.{is_outside}
use Rattle.basis_values.proofs.choices.outside.Given as goal

abbrev pub invariant-loop-k : goal.invariant-loop-k
invariant-loop-k l = (j : ℕ) → 1 ≤ j → j ≤ l.k → (is_in (basics_of l.basis) j && is_outside l.lp (value_at l.point) j) ≡ false
