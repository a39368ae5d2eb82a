use Rattle.std.proofs.Common.{◌≡◌, ◌≤◌, ℕ, length, take}
use Rattle.exact_values.specs.Rational.{◌+ℚ◌}
use Rattle.exact_values.specs.Sums.{sum_over}
use Rattle.lp_definitions.specs.LinearProgram.{value_at}
use Rattle.eta_file.specs.ColumnSums.{column_part}
use Rattle.eta_file.proofs.guess.add_listed.Given as goal

-- the variables so far are added
abbrev pub invariant-loop-k : goal.invariant-loop-k
invariant-loop-k l = record {
  places : length l.sums ≡ length l.fn.sums;
  added : (i : ℕ) → 1 ≤ i → value_at l.sums i ≡
      value_at l.fn.sums i +ℚ sum_over (take l.k-index l.listed) (column_part l.file.matrix (value_at l.numbers) i);
}
