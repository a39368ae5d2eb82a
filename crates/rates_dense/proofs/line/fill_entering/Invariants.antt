use Rattle.std.proofs.Common.{◌≡◌, ℕ, ◌<◌, get_or}
use Rattle.exact_values.specs.Rational.{zero_ℚ}
use Rattle.rates_dense.specs.Lines.{entering_rate}
use Rattle.rates_dense.proofs.line.fill_entering.Given as goal

-- the places so far are filled
abbrev pub invariant-loop-place : goal.invariant-loop-place
invariant-loop-place l =
    (place : ℕ) → place < l.place → get_or l.next place zero_ℚ ≡ entering_rate l.exchange.p l.exchange.q l.quotients (get_or l.changed place 0)
