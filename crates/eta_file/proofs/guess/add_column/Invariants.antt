use Rattle.std.proofs.Common.{◌≡◌, ℕ, ◌≤◌, length, take}
use Rattle.exact_values.specs.Rational.{whole, ◌+ℚ◌, ◌*ℚ◌}
use Rattle.lp_definitions.specs.LinearProgram.{value_at, on_row}
use Rattle.eta_file.proofs.guess.add_column.Given as goal

-- the numbers so far are added
abbrev pub invariant-loop-entry : goal.invariant-loop-entry
invariant-loop-entry l = record {
  places : length l.sums ≡ length l.fn.sums;
  rows : (k : ℕ) → 1 ≤ k → value_at l.sums k ≡ value_at l.fn.sums k +ℚ whole l.number *ℚ on_row (take l.entry-index l.column) k;
}
