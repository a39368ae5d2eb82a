use Rattle.std.proofs.Common.{◌≡◌, ℕ, ◌≤◌, false}
use Rattle.simplex_definitions.specs.Moves.{is_crossed}
use Rattle.basis_values.proofs.choices.crossed.Given as goal

abbrev pub invariant-loop-k : goal.invariant-loop-k
invariant-loop-k l = (j : ℕ) → 1 ≤ j → j ≤ l.k → is_crossed l.lp j ≡ false
