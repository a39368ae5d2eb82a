use Rattle.std.proofs.Common.{◌≡◌, ℕ, ◌<◌, get_or}
use Rattle.exact_values.specs.Rational.{zero_ℚ}
use Rattle.price_row.proofs.begin.Given as goal

-- the places so far are 0
abbrev pub invariant-loop-place : goal.invariant-loop-place
invariant-loop-place l = (k : ℕ) → k < l.place-index → get_or l.out k zero_ℚ ≡ zero_ℚ
