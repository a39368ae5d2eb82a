-- Opposites, on the other side of 0.
use Rattle.std.proofs.Common.{◌≡◌, ◌⊎◌, inl, inr, sym, ◌∙◌, subst}
use Rattle.exact_values.specs.Rational.{ℚ, zero_ℚ, neg_ℚ, ◌≤ℚ◌, ◌<ℚ◌}
use Rattle.exact_values.specs.Tests.{lt_ℚ}
use Rattle.exact_values.proofs.Order.{lt_or_le, neg-lt-neg, neg-le-neg}
use Rattle.exact_values.proofs.RingLaws.{zero-add, add-neg}
use Rattle.exact_values.proofs.TestsLaws.{test_from_lt, lt_fails_from_le}

opposite_zero : neg_ℚ zero_ℚ ≡ zero_ℚ
opposite_zero = sym (zero-add (neg_ℚ zero_ℚ)) ∙ add-neg zero_ℚ

-- x is above 0 where its opposite is below
pub opposite_below : (x : ℚ) → lt_ℚ (neg_ℚ x) zero_ℚ ≡ lt_ℚ zero_ℚ x
opposite_below x = by_side (lt_or_le zero_ℚ x)
  where
    by_side : (zero_ℚ <ℚ x) ⊎ (x ≤ℚ zero_ℚ) → lt_ℚ (neg_ℚ x) zero_ℚ ≡ lt_ℚ zero_ℚ x
    by_side (inl above) = test_from_lt (neg_ℚ x) zero_ℚ (subst (λ (z : ℚ). neg_ℚ x <ℚ z) opposite_zero (neg-lt-neg above)) ∙ sym (test_from_lt zero_ℚ x above)
    by_side (inr below) =
        lt_fails_from_le (neg_ℚ x) zero_ℚ (subst (λ (z : ℚ). z ≤ℚ neg_ℚ x) opposite_zero (neg-le-neg below)) ∙ sym (lt_fails_from_le zero_ℚ x below)
