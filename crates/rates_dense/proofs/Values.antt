-- Operations that need not be made.
use Rattle.std.specs.Prelude.{Bool, Option, Some, None, IfSome}
use Rattle.std.specs.Cmp.{Equal-is}
use Rattle.std.proofs.Common.{refl, true, pos, negsuc, ◌≡◌, ◌≢◌, sym, ◌∙◌, ap}
use Rattle.exact_values.specs.Rational.{ℚ, whole, zero_ℚ, compare_ℚ, neg_ℚ, inverse_ℚ, ◌+ℚ◌, ◌-ℚ◌, ◌*ℚ◌, ◌/ℚ◌}
use Rattle.exact_values.proofs.Inverse.{inverse_apart, div_is, one_apart}
use Rattle.exact_values.proofs.Compare.{parts_equal, compare_ties, same_from_compare}
use Rattle.exact_values.proofs.Ring.{by_ring1, ◌≐◌, ◌⊗◌, number, opposite}
use Rattle.lp_laws.proofs.Values.{no_divisors}
use Rattle.exact_values.proofs.RingLaws.{mul_comm, zero-add, zero-mul, add-zero, add-neg}

pub neg_zero : neg_ℚ zero_ℚ ≡ zero_ℚ
neg_zero = sym (zero-add (neg_ℚ zero_ℚ)) ∙ add-neg zero_ℚ

-- a quotient is 0 only where the dividend is
pub zero_from_quotient : (x y : ℚ) → y ≢ zero_ℚ → x /ℚ y ≡ zero_ℚ → x ≡ zero_ℚ
zero_from_quotient x y apart none = no_divisors x (inverse_ℚ y) none (inverse_apart y apart)

pub less_zero : (x y z : ℚ) → y ≡ zero_ℚ → x ≡ x -ℚ y *ℚ z
less_zero x y z zero =
    sym (ap (λ v. x -ℚ v *ℚ z) zero ∙ ap (λ v. x -ℚ v) (zero-mul z) ∙ ap (λ v. x +ℚ v) neg_zero ∙ add-zero x)

-- ---- the factors 1 and -1

pub same_reported : (x y v : ℚ) (b : Bool) → b ≡ parts_equal x v → b ≡ true → v ≡ y → x ≡ y
same_reported x y v b is h e = same_from_compare ((Equal-is (compare_ℚ x v)).0 (sym (is ∙ compare_ties x v) ∙ h)) ∙ e

minus_one_apart : whole (negsuc 0) ≢ zero_ℚ
minus_one_apart e =
    one_apart (by_ring1 zero_ℚ (λ x. number (pos 1) ≐ number (negsuc 0) ⊗ number (negsuc 0)) refl ∙ ap (λ u. u *ℚ whole (negsuc 0)) e
    ∙ zero-mul (whole (negsuc 0)))

pub times_minus_one : (x f : ℚ) → f ≡ whole (negsuc 0) → neg_ℚ x ≡ x *ℚ f
times_minus_one x f e = by_ring1 x (λ x. opposite x ≐ x ⊗ number (negsuc 0)) refl ∙ ap (λ u. x *ℚ u) (sym e)

pub over_minus_one : (x f : ℚ) → f ≡ whole (negsuc 0) → neg_ℚ x ≡ x /ℚ f
over_minus_one x f e =
    sym (div_is x f (neg_ℚ x) (λ none. minus_one_apart (sym e ∙ none))
    (by_ring1 x (λ x. x ≐ opposite x ⊗ number (negsuc 0)) refl ∙ ap (λ u. neg_ℚ x *ℚ u) (sym e)))

pub product_turned : (x y : ℚ) (o : Option ℚ) → IfSome o (λ v. v ≡ y *ℚ x) → IfSome o (λ v. v ≡ x *ℚ y)
product_turned x y None h = tt
product_turned x y (Some v) h = h ∙ mul_comm y x
