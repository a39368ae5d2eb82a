-- Worked rows: the definitions at closed numbers. Equal numbers hold equal terms, and terms compute.
use Rattle.std.proofs.Common.{◌≡◌, ℕ, ℤ, pos, negsuc, true, false, refl, Less}
use Rattle.exact_values.specs.Gcd.{gcd}
use Rattle.exact_values.specs.Rational.{ℚ, whole, fraction, zero_ℚ, one_ℚ, neg_ℚ, inverse_ℚ, reciprocal, ◌+ℚ◌, ◌-ℚ◌, ◌*ℚ◌, ◌/ℚ◌, compare_ℚ, sign_ℚ}
use Rattle.exact_values.specs.Tests.{lt_ℚ, le_ℚ, eq_ℚ}
use Rattle.exact_values.specs.Sums.{sum_to, sum_up_to}

-- the two terms of a number
Terms : ℚ → ℤ → ℕ → Type 0
Terms x n d = (x.numerator ≡ n) × (x.denominator ≡ d)

-- -6/4 is -3/2
lowest_terms : Terms (fraction (negsuc 5) 4) (negsuc 2) 2
unfolding Terms fraction gcd
lowest_terms = (refl, refl)

-- 0/7 is 0/1
nought : Terms (fraction (pos 0) 7) (pos 0) 1
unfolding Terms fraction gcd
nought = (refl, refl)

-- 1/3 + 1/6 is 1/2
thirds_and_sixths : Terms (fraction (pos 1) 3 +ℚ fraction (pos 1) 6) (pos 1) 2
unfolding Terms ◌+ℚ◌ fraction gcd
thirds_and_sixths = (refl, refl)

-- 1/3 - 1/2 is -1/6
less_a_half : Terms (fraction (pos 1) 3 -ℚ fraction (pos 1) 2) (negsuc 0) 6
unfolding Terms ◌+ℚ◌ neg_ℚ fraction gcd
less_a_half = (refl, refl)

-- 2^100/3 times 3/2^100 is 1
cancelling : Terms (fraction (pos 1267650600228229401496703205376) 3 *ℚ fraction (pos 3) 1267650600228229401496703205376) (pos 1) 1
unfolding Terms ◌*ℚ◌ fraction gcd
cancelling = (refl, refl)

-- 1/6 over -1/3 is -1/2
quotient : Terms (fraction (pos 1) 6 /ℚ fraction (negsuc 0) 3) (negsuc 0) 2
unfolding Terms ◌*ℚ◌ inverse_ℚ reciprocal fraction gcd
quotient = (refl, refl)

-- -1/2 is below 1/3, -3/2 below -1, and 2/4 is 3/6
below_across_zero : compare_ℚ (fraction (negsuc 0) 2) (fraction (pos 1) 3) ≡ Less
unfolding compare_ℚ fraction gcd
below_across_zero = refl

below_minus_one : lt_ℚ (fraction (negsuc 2) 2) (neg_ℚ one_ℚ) ≡ true
unfolding compare_ℚ neg_ℚ whole fraction gcd
below_minus_one = refl

not_below_itself : lt_ℚ (fraction (pos 2) 4) (fraction (pos 3) 6) ≡ false
unfolding compare_ℚ fraction gcd
not_below_itself = refl

at_most_itself : le_ℚ (fraction (pos 2) 4) (fraction (pos 3) 6) ≡ true
unfolding compare_ℚ fraction gcd
at_most_itself = refl

one_number : eq_ℚ (fraction (pos 2) 4) (fraction (pos 3) 6) ≡ true
unfolding compare_ℚ fraction gcd
one_number = refl

signs : (sign_ℚ (fraction (negsuc 2) 7) ≡ negsuc 0) × (sign_ℚ zero_ℚ ≡ pos 0) × (sign_ℚ (fraction (pos 3) 7) ≡ pos 1)
unfolding compare_ℚ whole fraction gcd
signs = (refl, refl, refl)

-- 1/1 + 1/2 + 1/3 + 1/4 is 25/12
harmonic : Terms (sum_up_to 4 (fraction (pos 1))) (pos 25) 12
unfolding Terms sum_to whole ◌+ℚ◌ fraction gcd
harmonic = (refl, refl)
