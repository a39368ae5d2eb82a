-- Worked conditions: 3 - x, 1 + 2x, 5 - 2x and 0 - 0x all hold at 0.
use Rattle.std.proofs.Common.{◌≡◌, List, [], ◌∷◌, refl, pos, negsuc}
use Rattle.exact_values.specs.Gcd.{gcd}
use Rattle.exact_values.specs.Rational.{fraction, whole, zero_ℚ, ◌+ℚ◌, ◌*ℚ◌, neg_ℚ, inverse_ℚ, reciprocal, compare_ℚ}
use Rattle.affine_laws.specs.Conditions.{Condition, reach_of}

abbrev four : List Condition
four =
    record { constant = whole (pos 3); slope = whole (negsuc 0) }
    ∷ record { constant = whole (pos 1); slope = whole (pos 2) }
    ∷ record { constant = whole (pos 5); slope = whole (negsuc 1) }
    ∷ record { constant = zero_ℚ; slope = zero_ℚ } ∷ []

-- together they hold up to 5/2, or up to an earlier number that was asked for
numerator-of_four : (reach_of (whole (pos 10)) four).numerator ≡ pos 5
unfolding fraction whole ◌+ℚ◌ ◌*ℚ◌ neg_ℚ inverse_ℚ reciprocal compare_ℚ gcd
numerator-of_four = refl

denominator-of_four : (reach_of (whole (pos 10)) four).denominator ≡ 2
unfolding fraction whole ◌+ℚ◌ ◌*ℚ◌ neg_ℚ inverse_ℚ reciprocal compare_ℚ gcd
denominator-of_four = refl

up_to_two : (reach_of (whole (pos 2)) four).numerator ≡ pos 2
unfolding fraction whole ◌+ℚ◌ ◌*ℚ◌ neg_ℚ inverse_ℚ reciprocal compare_ℚ gcd
up_to_two = refl
