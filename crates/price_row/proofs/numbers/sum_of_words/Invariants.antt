use Rattle.std.proofs.Common.{◌≡◌, take, map}
use Rattle.exact_values.specs.Rational.{zero_ℚ}
use Rattle.lp_definitions.specs.RatesEvidence.{sum_from}
use Rattle.eta_file.specs.WordColumns.{fraction_entry}
use Rattle.price_row.specs.Sums.{products}
use Rattle.price_row.proofs.numbers.sum_of_words.Given as goal

-- the sum so far
abbrev pub invariant-loop-entry : goal.invariant-loop-entry
invariant-loop-entry g l = record {
  total : g.N.Numbers.fraction l.sum ≡ sum_from zero_ℚ (products (map g.N.Numbers.fraction l.numbers) (map fraction_entry (take l.entry-index l.words)));
  sound : g.N.Numbers.is_sound l.sum;
}
