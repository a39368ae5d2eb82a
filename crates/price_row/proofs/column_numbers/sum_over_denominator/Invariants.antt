use Rattle.std.proofs.Common.{◌≡◌, take}
use Rattle.exact_values.specs.Rational.{whole, zero_ℚ, ◌*ℚ◌}
use Rattle.frac128.specs.Terms.{Fits}
use Rattle.lp_definitions.specs.RatesEvidence.{sum_from}
use Rattle.price_row.specs.NumbersOver.{AreNumbersOver}
use Rattle.price_row.specs.Sums.{products}
use Rattle.price_row.proofs.column_numbers.sum_over_denominator.Given as goal

-- the sum so far, as a number over the denominator
abbrev pub invariant-loop-entry : goal.invariant-loop-entry
invariant-loop-entry l = record {
  sum : whole l.total ≡ sum_from zero_ℚ (products l.values (take l.entry-index l.column)) *ℚ l.denominator;
  fits : Fits l.total;
  over : AreNumbersOver l.denominator l.values l.numbers;
}
