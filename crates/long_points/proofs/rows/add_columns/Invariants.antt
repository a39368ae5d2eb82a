use Rattle.std.proofs.Common.{◌≡◌, ◌≤◌, ℕ, List, length}
use Rattle.exact_values.specs.Rational.{ℚ, whole, ◌+ℚ◌, ◌*ℚ◌}
use Rattle.exact_values.specs.Sums.{sum_up_to}
use Rattle.lp_definitions.specs.LinearProgram.{value_at}
use Rattle.long_vectors.specs.Vectors.{IsOver}
use Rattle.long_points.proofs.Sums.{terms}
use Rattle.long_points.proofs.rows.add_columns.Given as goal

-- the products of the columns so far are added
abbrev pub invariant-loop-j : goal.invariant-loop-j
invariant-loop-j l =
    (length l.sums ≡ length l.fn.sums)
    × ((values : List ℚ) → IsOver values l.column → (i : ℕ) → 1 ≤ i →
    value_at l.sums i ≡ value_at l.fn.sums i +ℚ sum_up_to l.j (terms l.lp (value_at values) i) *ℚ whole l.column.bottom)
