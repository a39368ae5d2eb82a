use Rattle.std.proofs.Common.{ℕ}
use Rattle.exact_values.specs.Rational.{ℚ}
use Rattle.rates_dense.specs.Lines.{basics_of, HaveRatesAt}
use Rattle.rates_dense.proofs.Changes.{TakenTo}
use Rattle.rates_dense.proofs.take_rates.Given as goal

-- the rates of the lines so far are taken over
abbrev pub invariant-loop-line : goal.invariant-loop-line
invariant-loop-line l = (f : ℕ → ℚ) → HaveRatesAt l.j l.lines f → TakenTo (basics_of l.lines) l.fn.out l.out f l.line-index
