use Rattle.std.proofs.Common.{◌≡◌, ℕ, ◌<◌, ◌≤◌, ◌+◌, get_or}
use Rattle.exact_values.specs.Rational.{zero_ℚ}
use Rattle.rates_dense.specs.Lines.{quotient_at}
use Rattle.rates_dense.proofs.Changes.{ListedTo}
use Rattle.rates_dense.proofs.line.fill_quotients.Given as goal

-- the places so far are filled, and the variables so far are listed
abbrev pub invariant-loop-k : goal.invariant-loop-k
invariant-loop-k l = record {
  filled : (k : ℕ) → k < l.k → get_or l.quotients k zero_ℚ ≡ quotient_at l.exchange.p l.exchange.q l.rates (k + 1);
  within : l.count ≤ l.k;
  listed : ListedTo l.changed (quotient_at l.exchange.p l.exchange.q l.rates) l.k l.count;
}
