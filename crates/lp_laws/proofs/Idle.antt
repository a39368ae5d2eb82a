-- What an operation gives that need not be made.
use Rattle.std.proofs.Common.{◌≡◌, sym, ◌∙◌, ap}
use Rattle.exact_values.specs.Rational.{ℚ, zero_ℚ, one_ℚ, neg_ℚ, ◌+ℚ◌, ◌-ℚ◌, ◌*ℚ◌, ◌/ℚ◌, inverse_ℚ}
use Rattle.exact_values.proofs.RingLaws.{zero-add, add-zero, zero-mul, mul-zero, one-mul, mul-one}
use Rattle.exact_values.proofs.Inverse.{div_is, one_apart}
use Rattle.lp_laws.proofs.Values.{sub-zero}

pub left_sum : (x y : ℚ) → x ≡ zero_ℚ → y ≡ x +ℚ y
left_sum x y e = sym (ap (λ u. u +ℚ y) e ∙ zero-add y)

pub right_sum : (x y : ℚ) → y ≡ zero_ℚ → x ≡ x +ℚ y
right_sum x y e = sym (ap (λ u. x +ℚ u) e ∙ add-zero x)

pub left_difference : (x y : ℚ) → x ≡ zero_ℚ → neg_ℚ y ≡ x -ℚ y
left_difference x y e = left_sum x (neg_ℚ y) e

pub right_difference : (x y : ℚ) → y ≡ zero_ℚ → x ≡ x -ℚ y
right_difference x y e = sym (ap (λ u. x -ℚ u) e ∙ sub-zero x)

pub left_nothing : (x y : ℚ) → x ≡ zero_ℚ → x ≡ x *ℚ y
left_nothing x y e = e ∙ sym (ap (λ u. u *ℚ y) e ∙ zero-mul y)

pub right_nothing : (x y : ℚ) → y ≡ zero_ℚ → y ≡ x *ℚ y
right_nothing x y e = e ∙ sym (ap (λ u. x *ℚ u) e ∙ mul-zero x)

pub left_once : (x y : ℚ) → x ≡ one_ℚ → y ≡ x *ℚ y
left_once x y e = sym (ap (λ u. u *ℚ y) e ∙ one-mul y)

pub right_once : (x y : ℚ) → y ≡ one_ℚ → x ≡ x *ℚ y
right_once x y e = sym (ap (λ u. x *ℚ u) e ∙ mul-one x)

pub over_once : (x y : ℚ) → y ≡ one_ℚ → x ≡ x /ℚ y
over_once x y e = sym (ap (λ u. x /ℚ u) e ∙ div_is x one_ℚ x one_apart (sym (mul-one x)))

pub left_nothing_over : (x y : ℚ) → x ≡ zero_ℚ → x ≡ x /ℚ y
left_nothing_over x y e = left_nothing x (inverse_ℚ y) e

pub zero_over : (x y : ℚ) → x ≡ zero_ℚ → x /ℚ y ≡ zero_ℚ
zero_over x y zero = ap (λ v. v *ℚ inverse_ℚ y) zero ∙ zero-mul (inverse_ℚ y)
