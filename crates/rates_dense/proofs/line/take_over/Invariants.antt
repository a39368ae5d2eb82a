use Rattle.std.proofs.Common.{ℕ}
use Rattle.exact_values.specs.Rational.{ℚ}
use Rattle.rates_dense.specs.Lines.{IsFilledAt}
use Rattle.rates_dense.proofs.Changes.{TakenTo}
use Rattle.rates_dense.proofs.line.take_over.Given as goal

-- the places so far are taken over
abbrev pub invariant-loop-place : goal.invariant-loop-place
invariant-loop-place l = (f : ℕ → ℚ) → IsFilledAt l.changed l.next f → TakenTo l.changed l.fn.rates l.rates f l.place
