use Rattle.std.proofs.Common.{◌≡◌, ◌≤◌, ℕ, length, drop}
use Rattle.exact_values.specs.Rational.{whole, ◌+ℚ◌, ◌*ℚ◌}
use Rattle.lp_definitions.specs.LinearProgram.{value_at}
use Rattle.long_points.specs.Tests.{rates_on}
use Rattle.long_points.proofs.rows.add_numbers.Given as goal

-- the numbers that are left are to be added
abbrev pub invariant-loop-entry : goal.invariant-loop-entry
invariant-loop-entry l =
    (length l.sums ≡ length l.fn.sums) ×
    ((i : ℕ) → 1 ≤ i →
    value_at l.sums i +ℚ rates_on (drop l.entry-index l.entries) i *ℚ whole l.top ≡ value_at l.fn.sums i +ℚ rates_on l.entries i *ℚ whole l.top)
