-- Numbers of at most 64 digits are written as std writes them.
use Rattle.std.proofs.Common.{◌≡◌, ℕ, zero, suc, ◌+◌, ◌/◌, ◌%◌, ◌^◌, ◌<◌, false, cond, if◌then◌else◌, [], ◌∷◌, ◌++◌, map, ℤ, pos, negsuc, refl, ap, ap₂, sym}
use Rattle.std.proofs.Common.{◌∙◌, arith, ◌==◌}
use Rattle.std.specs.Prelude.{unsigned_abs}
use Rattle.std.specs.Fmt.{decimal, signed_decimal}
use Rattle.std.specs.Int.Digits.{digits_with_fuel, digits_of}
use Rattle.std.proofs.lemmas.Fmt.{decimal_digit, decimal_by_steps_wide}
use Rattle.std.proofs.lemmas.Int.Digits.{digits_of_step}
use Rattle.std.proofs.lemmas.List.{map_push}
use Rattle.exact_values.specs.Rational.{ℚ}
use Rattle.frac128.specs.Operations.{TermsFit}
use Rattle.frac128.specs.Text.{fraction_text}
use Rattle.listing_definitions.specs.Numbers.{digits_within, digits, integer_text, rational_text}

-- of a number above 0
above_zero : (n : ℕ) → 0 < n → n < 10 ^ 64 → decimal n ≡ map (λ digit. 48 + digit) (digits_of 10 n)
above_zero n some small = decimal_by_steps_wide (λ m ds. 0 < m → ds ≡ map (λ digit. 48 + digit) (digits_of 10 m))
    (λ m l a. let z : m / 10 ≡ 0 = omega arith in let e : m % 10 ≡ m = omega arith in sym
    (ap (map (λ digit. 48 + digit)) (digits_of_step 10 m (omega arith) a ∙ (λ i. digits_of 10 (z i) ++ (e i ∷ [])))))
    (λ m ds l h a. ap (λ x. x ++ ((48 + m % 10) ∷ [])) (h (omega arith)) ∙ sym (map_push (λ digit. 48 + digit) (digits_of 10 (m / 10)) (m % 10))
    ∙ ap (map (λ digit. 48 + digit)) (sym (digits_of_step 10 m (omega arith) a)))
    n small some

no_end : (n : ℕ) → (suc n == 0) ≡ false
no_end n = grind arith

-- the digits are those of std's numbers of any size
pub digits_within_is : (room n : ℕ) → digits_within room n ≡ map (λ digit. 48 + digit) (digits_with_fuel 10 room n)
digits_within_is zero n = refl
digits_within_is (suc room) zero = refl
digits_within_is (suc room) (suc n) =
    ap (λ front. front ++ (48 + suc n % 10) ∷ []) (digits_within_is room (suc n / 10))
    ∙ sym (map_push (λ digit. 48 + digit) (digits_with_fuel 10 room (suc n / 10)) (suc n % 10))
    ∙ ap (λ ends. map (λ digit. 48 + digit) (cond ends [] (digits_with_fuel 10 room (suc n / 10) ++ suc n % 10 ∷ []))) (sym (no_end n))

pub decimal_is_digits : (n : ℕ) → n < 10 ^ 64 → decimal n ≡ digits n
unfolding digits
decimal_is_digits zero small = decimal_digit 0 (omega arith)
decimal_is_digits (suc n) small = above_zero (suc n) (omega arith) small ∙ sym (digits_within_is (suc n) (suc n))

pub signed_is_integer : (z : ℤ) → unsigned_abs z < 10 ^ 64 → signed_decimal z ≡ integer_text z
signed_is_integer (pos n) small = decimal_is_digits n small
signed_is_integer (negsuc n) small = ap (λ text. 45 ∷ text) (decimal_is_digits (suc n) small)

-- a fraction of 128 bits is written as its own crate writes it
pub fraction_is_rational : (x : ℚ) → TermsFit x → fraction_text x ≡ rational_text x
fraction_is_rational x fit =
    let top : unsigned_abs x.numerator < 10 ^ 64 = omega (arith, fit.numerator_fits) in
    let bottom : x.denominator < 10 ^ 64 = omega (arith, fit.denominator_fits) in
    ap₂ (λ above below. if x.denominator == 1 then above else above ++ 47 ∷ below) (signed_is_integer x.numerator top) (decimal_is_digits x.denominator bottom)
