use Rattle.std.proofs.Common.{◌≡◌, ◌≤◌, ℕ, vec_len}
use Rattle.lp_definitions.specs.LinearProgram.{value_at}
use Rattle.lp_laws.specs.Points.{standing}
use Rattle.basis_values.proofs.point.places.Given as goal

abbrev pub invariant-loop-k : goal.invariant-loop-k
invariant-loop-k l = record { places : vec_len l.values ≡ l.k; stand : (j : ℕ) → 1 ≤ j → j ≤ l.k → value_at l.values.items j ≡ standing l.lp l.basis j }
