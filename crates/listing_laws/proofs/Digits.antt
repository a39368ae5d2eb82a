-- What the digits of a number and the text of a fraction determine.
use Rattle.std.proofs.Common.{◌≡◌, ℕ, zero, suc, ◌+◌, ◌-◌, ◌/◌, ◌%◌, ◌<◌, Bool, true, false, not, ◌&&◌, ◌||◌, ◌==◌, if◌then◌else◌, List, [], ◌∷◌, ◌++◌, map, ℤ}
use Rattle.std.proofs.Common.{pos, negsuc, refl, ap, ap₂, sym, ◌∙◌, arith}
use Rattle.std.specs.List.{list_all, list_any}
use Rattle.std.specs.Int.Digits.{digits_of, number_from_digits}
use Rattle.std.proofs.lemmas.Int.Digits.{number_digits_of}
use Rattle.std.proofs.lemmas.List.Folds.{list_all-append, list_any-append}
use Rattle.std.proofs.lemmas.Bool.Decides.{nat_tests}
use Rattle.exact_values.specs.Rational.{ℚ}
use Rattle.exact_values.proofs.Fractions.{same_parts}
use Rattle.card_definitions.specs.Numbers.{is_digit}
use Rattle.listing_definitions.specs.Numbers.{digits_within, digits, integer_text, rational_text}
use Rattle.listing_definitions.proofs.Decimals.{digits_within_is}
use Rattle.listing_laws.proofs.Cutting.{weaker, heads, cut, none_within}

glyph_is_digit : (k : ℕ) → k < 10 → is_digit (48 + k) ≡ true
glyph_is_digit k small = grind (arith, nat_tests)

last_is_digit : (n : ℕ) → is_digit (48 + n % 10) ≡ true
last_is_digit n = glyph_is_digit (n % 10) (omega arith)

within_are : (room n : ℕ) → list_all is_digit (digits_within room n) ≡ true
within_are zero n = refl
within_are (suc room) zero = refl
within_are (suc room) (suc n) =
    list_all-append is_digit (digits_within room (suc n / 10)) ((48 + suc n % 10) ∷ [])
    ∙ ap₂ (λ a b. a && (b && true)) (within_are room (suc n / 10)) (last_is_digit (suc n))

pub digits_are : (n : ℕ) → list_all is_digit (digits n) ≡ true
unfolding digits
digits_are zero = refl
digits_are (suc n) = within_are (suc n) (suc n)

or_true : (a : Bool) → (a || true) ≡ true
or_true true = refl
or_true false = refl

pub digit_there : (n : ℕ) → list_any is_digit (digits n) ≡ true
unfolding digits
digit_there zero = refl
digit_there (suc n) =
    list_any-append is_digit (digits_within n (suc n / 10)) ((48 + suc n % 10) ∷ [])
    ∙ ap (λ b. list_any is_digit (digits_within n (suc n / 10)) || (b || false)) (last_is_digit (suc n))
    ∙ or_true (list_any is_digit (digits_within n (suc n / 10)))

-- the number that digits spell
number_of : List ℕ → ℕ
number_of glyphs = number_from_digits 10 (map (λ glyph. glyph - 48) glyphs)

without_glyphs : (ds : List ℕ) → map (λ glyph. glyph - 48) (map (λ digit. 48 + digit) ds) ≡ ds
without_glyphs [] = refl
without_glyphs (d ∷ ds) = ap₂ (λ x xs. x ∷ xs) (back d) (without_glyphs ds)
  where
    back : (d : ℕ) → 48 + d - 48 ≡ d
    back d = omega arith

spelled : (n : ℕ) → number_of (digits n) ≡ n
unfolding digits number_of
spelled zero = refl
spelled (suc n) =
    ap (λ glyphs. number_from_digits 10 (map (λ glyph. glyph - 48) glyphs)) (digits_within_is (suc n) (suc n))
    ∙ ap (number_from_digits 10) (without_glyphs (digits_of 10 (suc n))) ∙ number_digits_of 10 (suc n) (omega arith)

pub digits_tell : (m n : ℕ) → digits m ≡ digits n → m ≡ n
digits_tell m n e = sym (spelled m) ∙ ap number_of e ∙ spelled n

-- no minus stands among digits
no_minus : (n : ℕ) (rest : List ℕ) → digits n ≡ 45 ∷ rest → ⊥
no_minus n rest e =
    let whole : list_all is_digit (45 ∷ rest) ≡ true = ap (list_all is_digit) (sym e) ∙ digits_are n in
    cc whole

pub integer_tells : (y z : ℤ) → integer_text y ≡ integer_text z → y ≡ z
integer_tells (pos m) (pos n) e = ap pos (digits_tell m n e)
integer_tells (pos m) (negsuc n) e = absurd (no_minus m (digits (suc n)) e)
integer_tells (negsuc m) (pos n) e = absurd (no_minus n (digits (suc m)) (sym e))
integer_tells (negsuc m) (negsuc n) e =
    let same : suc m ≡ suc n = digits_tell (suc m) (suc n) (heads 45 45 (digits (suc m)) (digits (suc n)) e).1 in
    ap negsuc (omega (arith, same))

-- the bytes of a fraction's text: digits, a minus and a slash
abbrev pub is_slash : ℕ → Bool
is_slash byte = byte == 47

abbrev pub is_of_number : ℕ → Bool
is_of_number byte = is_digit byte || byte == 45 || byte == 47

digit_is_no_slash : (x : ℕ) → is_digit x ≡ true → not (is_slash x) ≡ true
digit_is_no_slash x e = grind (arith, nat_tests, e)

digit_is_of_number : (x : ℕ) → is_digit x ≡ true → is_of_number x ≡ true
digit_is_of_number x e = ap (λ b. b || x == 45 || x == 47) e

integer_without_slash : (z : ℤ) → list_all (λ x. not (is_slash x)) (integer_text z) ≡ true
integer_without_slash (pos n) = weaker is_digit (λ x. not (is_slash x)) (digits n) digit_is_no_slash (digits_are n)
integer_without_slash (negsuc n) = weaker is_digit (λ x. not (is_slash x)) (digits (suc n)) digit_is_no_slash (digits_are (suc n))

digits_of_number : (n : ℕ) → list_all is_of_number (digits n) ≡ true
digits_of_number n = weaker is_digit is_of_number (digits n) digit_is_of_number (digits_are n)

integer_of_number : (z : ℤ) → list_all is_of_number (integer_text z) ≡ true
integer_of_number (pos n) = digits_of_number n
integer_of_number (negsuc n) = digits_of_number (suc n)

pub rational_of_number : (x : ℚ) → list_all is_of_number (rational_text x) ≡ true
rational_of_number x = by (x.denominator == 1)
  where
    by : (b : Bool) → list_all is_of_number (if b then integer_text x.numerator else integer_text x.numerator ++ 47 ∷ digits x.denominator) ≡ true
    by true = integer_of_number x.numerator
    by false =
        list_all-append is_of_number (integer_text x.numerator) (47 ∷ digits x.denominator)
        ∙ ap₂ (λ a b. a && b) (integer_of_number x.numerator) (digits_of_number x.denominator)

integer_has_digit : (z : ℤ) → list_any is_digit (integer_text z) ≡ true
integer_has_digit (pos n) = digit_there n
integer_has_digit (negsuc n) = digit_there (suc n)

pub rational_has_digit : (x : ℚ) → list_any is_digit (rational_text x) ≡ true
rational_has_digit x = by (x.denominator == 1)
  where
    by : (b : Bool) → list_any is_digit (if b then integer_text x.numerator else integer_text x.numerator ++ 47 ∷ digits x.denominator) ≡ true
    by true = integer_has_digit x.numerator
    by false =
        list_any-append is_digit (integer_text x.numerator) (47 ∷ digits x.denominator)
        ∙ ap (λ b. b || list_any is_digit (47 ∷ digits x.denominator)) (integer_has_digit x.numerator)

one_is : (n : ℕ) → (n == 1) ≡ true → n ≡ 1
one_is n e = grind (arith, e)

pub rational_tells : (x y : ℚ) → rational_text x ≡ rational_text y → x ≡ y
rational_tells x y e = by (x.denominator == 1) (y.denominator == 1) refl refl e
  where
    by : (b c : Bool) → (x.denominator == 1) ≡ b → (y.denominator == 1) ≡ c
        → (if b then integer_text x.numerator else integer_text x.numerator ++ 47 ∷ digits x.denominator) ≡
        (if c then integer_text y.numerator else integer_text y.numerator ++ 47 ∷ digits y.denominator) → x ≡ y
    by true true x_whole y_whole e =
        same_parts x y (integer_tells x.numerator y.numerator e) (one_is x.denominator x_whole ∙ sym (one_is y.denominator y_whole))
    by true false x_whole y_parted e =
        absurd (none_within is_slash (integer_text x.numerator) (integer_text y.numerator) 47 (digits y.denominator) (integer_without_slash x.numerator) refl e)
    by false true x_parted y_whole e =
        absurd (none_within is_slash (integer_text y.numerator) (integer_text x.numerator) 47 (digits x.denominator) (integer_without_slash y.numerator) refl
        (sym e))
    by false false x_parted y_parted e =
        let parts =
        cut is_slash (integer_text x.numerator) (integer_text y.numerator) 47 47 (digits x.denominator) (digits y.denominator)
        (integer_without_slash x.numerator) (integer_without_slash y.numerator) refl refl e in
        same_parts x y (integer_tells x.numerator y.numerator parts.0)
        (digits_tell x.denominator y.denominator (heads 47 47 (digits x.denominator) (digits y.denominator) parts.1).1)
