-- Worked rows: which sums, products and quotients are refused. M is 2^127 - 1, the largest magnitude that fits.
use Rattle.std.proofs.Common.{◌≡◌, ◌^◌, ◌-◌, ℕ, ℤ, pos, Bool, true, false, refl}
use Rattle.std.specs.Prelude.{neg_ℤ}
use Rattle.exact_values.specs.Gcd.{gcd}
use Rattle.exact_values.specs.Rational.{fraction, neg_ℚ, inverse_ℚ, reciprocal, ◌*ℚ◌}
use Rattle.frac128.specs.Operations.{refuses, shared_factor, raised_numerator, raised_sum, sum_denominator}
use Rattle.frac128.specs.declared.Op.{Op}
use Rattle.frac128.specs.declared.Op.TheVariants.{Add, Sub, Mul, Div}

abbrev M : ℕ
M = 2 ^ 127 - 1

-- whether the operation on a/b and c/d is refused
row : Op → ℤ → ℕ → ℤ → ℕ → Bool
row op a b c d = refuses op (fraction a b) (fraction c d)

-- 1/2^126 + 1/2^126 is 1/2^125: the denominators are cancelled before they are multiplied
halves_of_a_small_number : row Add (pos 1) (2 ^ 126) (pos 1) (2 ^ 126) ≡ false
unfolding row refuses fraction gcd shared_factor raised_numerator raised_sum sum_denominator
halves_of_a_small_number = refl

-- 1/2^70 + 1/3^50: the numerators fit, the denominator doesn't
far_denominators : row Add (pos 1) (2 ^ 70) (pos 1) (3 ^ 50) ≡ true
unfolding row refuses fraction gcd shared_factor raised_numerator raised_sum sum_denominator
far_denominators = refl

-- M + 1 doesn't fit, and M - M does
past_the_largest : row Add (pos M) 1 (pos 1) 1 ≡ true
unfolding row refuses fraction gcd shared_factor raised_numerator raised_sum sum_denominator
past_the_largest = refl

largest_less_itself : row Sub (pos M) 1 (pos M) 1 ≡ false
unfolding row refuses neg_ℚ fraction gcd shared_factor raised_numerator raised_sum sum_denominator
largest_less_itself = refl

-- -M - 1 is -2^127, whose magnitude is one too large
past_the_least : row Sub (neg_ℤ (pos M)) 1 (pos 1) 1 ≡ true
unfolding row refuses neg_ℚ fraction gcd shared_factor raised_numerator raised_sum sum_denominator
past_the_least = refl

-- 2^126/3 + 2^126/3: each raised numerator is 2^126, and their sum 2^127 is one too large
doubled_third : row Add (pos (2 ^ 126)) 3 (pos (2 ^ 126)) 3 ≡ true
unfolding row refuses fraction gcd shared_factor raised_numerator raised_sum sum_denominator
doubled_third = refl

-- 2^126/3 + 2^126/5: the raised numerators 5 * 2^126 and 3 * 2^126 don't fit, although each operand does
raised_too_far : row Add (pos (2 ^ 126)) 3 (neg_ℤ (pos (2 ^ 126))) 5 ≡ true
unfolding row refuses fraction gcd shared_factor raised_numerator raised_sum sum_denominator
raised_too_far = refl

-- 2^126 * 2 doesn't fit; (2^100/3) * (3/2^100) is 1
doubled : row Mul (pos (2 ^ 126)) 1 (pos 2) 1 ≡ true
unfolding row refuses ◌*ℚ◌ fraction gcd
doubled = refl

cancelled_first : row Mul (pos (2 ^ 100)) 3 (pos 3) (2 ^ 100) ≡ false
unfolding row refuses ◌*ℚ◌ fraction gcd
cancelled_first = refl

-- 2 over 1/M is 2 M, and 1 over M is 1/M
over_a_small_number : row Div (pos 2) 1 (pos 1) M ≡ true
unfolding row refuses ◌*ℚ◌ inverse_ℚ reciprocal fraction gcd
over_a_small_number = refl

over_the_largest : row Div (pos 1) 1 (pos M) 1 ≡ false
unfolding row refuses ◌*ℚ◌ inverse_ℚ reciprocal fraction gcd
over_the_largest = refl
