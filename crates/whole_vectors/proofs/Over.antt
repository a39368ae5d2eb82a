-- Numbers over one denominator: what they are after all have been multiplied or divided.
use Rattle.std.proofs.Common.{◌≡◌, ◌≢◌, ℕ, zero, suc, ◌-◌, List, [], ◌∷◌, length, map, get_or, Bool, true, refl, sym, ◌∙◌, ap, ap₂, arith, ℤ, pos, negsuc}
use Rattle.std.proofs.Common.{subst, Option, Result, Ok, Err, IfOk}
use Rattle.std.specs.Cmp.{Equal-is}
use Rattle.std.specs.Prelude.{IfSome, ◌≤ℤ◌, unsigned_abs}
use Rattle.std.proofs.lemmas.Int.{ints}
use Rattle.whole_vectors.proofs.Words.{is_whole}
use Rattle.std.specs.Result.{result_ok}
use Rattle.frac128.specs.declared.Refused.{Refused}
use Rattle.exact_values.specs.Rational.{ℚ, whole, fraction, zero_ℚ, inverse_ℚ, compare_ℚ, ◌*ℚ◌, ◌/ℚ◌}
use Rattle.exact_values.proofs.Ring.{by_ring3, ◌⊗◌, ◌≐◌}
use Rattle.exact_values.proofs.Fractions.{is_ratio, mul_ratio, fraction_ratio, same_from_ratio}
use Rattle.exact_values.proofs.RingLaws.{zero-mul, whole_ratio}
use Rattle.exact_values.proofs.Inverse.{div_is, apart-mul, inverse_apart, same_quotients, whole_numerator, numerator_of_zero}
use Rattle.exact_values.proofs.Compare.{parts_equal, compare_ties, same_from_compare}
use Rattle.lp_definitions.specs.LinearProgram.{value_at}
use Rattle.whole_vectors.specs.Quotients.{quotients, AreQuotients, IsSameOver, Represent}

-- the value at k, and 0 past the end
pub value_at-quotients : (d : ℚ) (xs : List ℚ) (k : ℕ) → value_at (quotients d xs) k ≡ value_at xs k /ℚ d
value_at-quotients d xs k = at xs (k - 1)
  where
    at : (xs : List ℚ) (n : ℕ) → get_or (map (λ x. x /ℚ d) xs) n zero_ℚ ≡ get_or xs n zero_ℚ /ℚ d
    at [] n = sym (zero-mul (inverse_ℚ d))
    at (x ∷ xs) zero = refl
    at (x ∷ xs) (suc n) = at xs n

-- a factor goes out
pub same_factor : (x d by : ℚ) → d ≢ zero_ℚ → by ≢ zero_ℚ → (x *ℚ by) /ℚ (d *ℚ by) ≡ x /ℚ d
same_factor x d by apart some =
    same_quotients (x *ℚ by) (d *ℚ by) x d (apart-mul apart some) apart (by_ring3 x by d (λ x b d. (x ⊗ b) ⊗ d ≐ x ⊗ (d ⊗ b)) refl)

-- and a divisor
pub same_divisor : (x d by : ℚ) → d ≢ zero_ℚ → by ≢ zero_ℚ → (x /ℚ by) /ℚ (d /ℚ by) ≡ x /ℚ d
same_divisor x d by apart some = same_factor x d (inverse_ℚ by) apart (inverse_apart by some)

pub reduced : (d e by : ℚ) (old new : List ℚ) → d ≢ zero_ℚ → by ≢ zero_ℚ → e ≡ d /ℚ by → AreQuotients by old new → IsSameOver d old e new
reduced d e by old new apart some is h = record {
  apart = λ none. apart-mul apart (inverse_apart by some) (sym is ∙ none);
  each = λ k. ap₂ (λ x y. x /ℚ y) (h.each k) is ∙ same_divisor (value_at old k) d by apart some;
}

-- what the test of equality tells
pub same_reported : (x y v : ℚ) (b : Bool) → b ≡ parts_equal x v → b ≡ true → v ≡ y → x ≡ y
same_reported x y v b is h e = same_from_compare ((Equal-is (compare_ℚ x v)).0 (sym (is ∙ compare_ties x v) ∙ h)) ∙ e

-- a product of numbers that aren't 0 isn't
pub apart_product : (x y : ℚ) (n : ℤ) → x ≢ zero_ℚ → y ≡ whole n → n ≢ pos 0 → x *ℚ y ≢ zero_ℚ
apart_product x y n apart is some = apart-mul apart (λ none. some (sym (whole_numerator n) ∙ numerator_of_zero (whole n) (sym is ∙ none)))

-- what follows from a value that is kept where there is one
pub some_ok : (o : Option ℚ) (r : Result ℚ Refused) (P Q : ℚ → Type 0) → o ≡ result_ok r → ((v : ℚ) → P v → Q v) → IfOk r P → IfSome o Q
some_ok o (Ok v) P Q is step h = subst (λ x. IfSome x Q) (sym is) (step v h)
some_ok o (Err e) P Q is step h = subst (λ x. IfSome x Q) (sym is) tt

-- ---- what the numbers stand for

pub length-quotients : (d : ℚ) (xs : List ℚ) → length (quotients d xs) ≡ length xs
length-quotients d [] = refl
length-quotients d (x ∷ xs) = ap suc (length-quotients d xs)

pub stand_map : (P Q : List ℚ → Type 0) (d : ℚ) (xs : List ℚ) → (P (quotients d xs) → Q (quotients d xs)) → Represent P d xs → Represent Q d xs
stand_map P Q d xs f h = record { apart = h.apart; holds = f h.holds }

-- all divided by the denominator
pub made_values : (d : ℚ) (old new : List ℚ) → AreQuotients d old new → (k : ℕ) → value_at (quotients d old) k ≡ value_at new k
made_values d old new h k = value_at-quotients d old k ∙ sym (h.each k)

-- a fraction times its denominator
pub numerator_is : (x : ℚ) (n d : ℚ) → n ≡ whole x.numerator → d ≡ whole (pos x.denominator) → n ≡ x *ℚ d
numerator_is x n d is_n is_d =
    is_n ∙ same_from_ratio (whole_ratio x.numerator) (mul_ratio (is_ratio x) (whole_ratio (pos x.denominator))) (omega arith) ∙ ap (λ y. x *ℚ y) (sym is_d)

-- a whole number over another one
pub over_whole : (x by : ℚ) (d : ℤ) → x.denominator ≡ 1 → by.denominator ≡ 1 → pos 1 ≤ℤ d → by.numerator ≡ d → fraction x.numerator (unsigned_abs d) ≡ x /ℚ by
over_whole x by (pos zero) one also some is = absurd (omega (arith, ints, some))
over_whole x by (negsuc m) one also some is = absurd (omega (arith, ints, some))
over_whole x by (pos (suc m)) one also some is =
    sym (div_is x by (fraction x.numerator (suc m)) (λ none. absurd (omega (arith, ints, sym is ∙ numerator_of_zero by none)))
    (sym (is_whole x one)
    ∙ same_from_ratio (whole_ratio x.numerator) (mul_ratio (fraction_ratio x.numerator (suc m) (omega arith)) (whole_ratio (pos (suc m)))) (omega arith)
    ∙ ap (λ y. fraction x.numerator (suc m) *ℚ y) (ap whole (sym is) ∙ is_whole by also)))
