use Rattle.std.proofs.Common.{◌≡◌, take, map}
use Rattle.exact_values.specs.Rational.{zero_ℚ}
use Rattle.lp_definitions.specs.RatesEvidence.{sum_from}
use Rattle.price_row.specs.Sums.{products}
use Rattle.price_row.proofs.numbers.sum_of_column.Given as goal

-- the sum so far
abbrev pub invariant-loop-entry : goal.invariant-loop-entry
invariant-loop-entry g l = record {
  total : g.N.Numbers.fraction l.sum ≡ sum_from zero_ℚ (products (map g.N.Numbers.fraction l.numbers) (take l.entry-index l.column));
  sound : g.N.Numbers.is_sound l.sum;
}
