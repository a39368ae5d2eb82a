use Rattle.std.proofs.Common.{◌≢◌}
use Rattle.exact_values.specs.Rational.{zero_ℚ}
use Rattle.price_row.proofs.column_numbers.common_denominator.Given as goal

abbrev pub invariant-loop-entry : goal.invariant-loop-entry
invariant-loop-entry l = l.denominator ≢ zero_ℚ
