use Rattle.std.proofs.Common.{◌≡◌, ℕ, take, map}
use Rattle.exact_values.specs.Rational.{zero_ℚ}
use Rattle.lp_definitions.specs.LinearProgram.{value_at}
use Rattle.lp_definitions.specs.RatesEvidence.{sum_from}
use Rattle.price_row.specs.Sums.{weighted}
use Rattle.price_row.proofs.numbers.sum_of_entries.Given as goal

-- the sum so far, whichever variable with 0 is left out
abbrev pub invariant-loop-entry : goal.invariant-loop-entry
invariant-loop-entry g l = record {
  total : (p : ℕ) → value_at (map g.N.Numbers.fraction l.numbers) p ≡ zero_ℚ
      → g.N.Numbers.fraction l.sum ≡ sum_from (g.N.Numbers.fraction l.fn.first)
      (weighted p (map g.N.Numbers.fraction l.numbers) (take l.entry-index l.entries));
  sound : g.N.Numbers.is_sound l.sum;
}
