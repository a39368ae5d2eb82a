use Rattle.std.proofs.Common.{◌≡◌, ◌≤◌, ℕ, List, length}
use Rattle.exact_values.specs.Rational.{ℚ, whole, neg_ℚ, ◌*ℚ◌}
use Rattle.lp_definitions.specs.LinearProgram.{value_at}
use Rattle.long_vectors.specs.Vectors.{IsOver}
use Rattle.long_points.proofs.rows.opposites.Given as goal

-- the opposites so far
abbrev pub invariant-loop-i : goal.invariant-loop-i
invariant-loop-i l =
    (length l.sums.items ≡ l.i) ×
    ((values : List ℚ) → IsOver values l.column → (k : ℕ) → 1 ≤ k → k ≤ l.i → value_at l.sums.items k ≡ neg_ℚ (value_at values k *ℚ whole l.column.bottom))
