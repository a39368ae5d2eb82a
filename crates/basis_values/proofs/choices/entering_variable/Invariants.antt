use Rattle.std.proofs.Common.{◌≡◌, ℕ, ◌≤◌, false}
use Rattle.lp_definitions.specs.LinearProgram.{value_at}
use Rattle.simplex_definitions.specs.Moves.{lowers}
use Rattle.basis_values.specs.Motions.{motion}
use Rattle.basis_values.proofs.choices.entering_variable.Given as goal

abbrev pub invariant-loop-k : goal.invariant-loop-k
invariant-loop-k l = (j : ℕ) → 1 ≤ j → j ≤ l.k → lowers l.lp l.basis (motion (value_at l.rates) l.up) j ≡ false
