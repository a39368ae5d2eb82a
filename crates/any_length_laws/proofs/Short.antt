-- A fraction of 128 bits has no more digits than the checker of any length reads.
use Rattle.std.proofs.Common.{◌≡◌, ℕ, zero, suc, ◌+◌, ◌*◌, ◌/◌, ◌^◌, ◌≤◌, ◌<◌, Bool, true, false, ◌&&◌, ◌||◌, ◌==◌, if◌then◌else◌, List, [], ◌∷◌, ◌++◌, length}
use Rattle.std.proofs.Common.{take, drop, ℤ, pos, negsuc, unsigned_abs, Some, None, refl, ap, ap₂, ◌∙◌, arith}
use Rattle.std.specs.Prelude.{nat_lt, bytes_eq, unwrap_or}
use Rattle.std.specs.List.{position_or_len, before_first, after_first}
use Rattle.std.proofs.lemmas.Bool.Decides.{nat_tests}
use Rattle.exact_values.specs.Rational.{ℚ}
use Rattle.frac128.specs.Operations.{TermsFit}
use Rattle.listing_definitions.specs.Numbers.{digits_within, digits, integer_text, rational_text}
use Rattle.walk_definitions.specs.Checkers.{checker_of_128_bits, checker_of_any_length}
use Rattle.walk_definitions.specs.Words.{is_slash, unsigned, has_number_form, is_longer, is_long, fraction_in}
use Rattle.walk_definitions.proofs.Numbers.{text_of_fraction, read_of_text}

-- ---- lengths

length_both : (xs ys : List ℕ) → length (xs ++ ys) ≡ length xs + length ys
length_both [] ys = omega arith
length_both (x ∷ xs) ys = let rest = length_both xs ys in omega (arith, rest)

take_shorter : (n : ℕ) (xs : List ℕ) → length (take n xs) ≤ length xs
take_shorter zero xs = omega arith
take_shorter (suc n) [] = omega arith
take_shorter (suc n) (x ∷ xs) = let rest = take_shorter n xs in omega (arith, rest)

drop_shorter : (n : ℕ) (xs : List ℕ) → length (drop n xs) ≤ length xs
drop_shorter zero xs = omega arith
drop_shorter (suc n) [] = omega arith
drop_shorter (suc n) (x ∷ xs) = let rest = drop_shorter n xs in omega (arith, rest)

-- ---- digits

-- a power of ten
abbrev tens : ℕ → ℕ
tens zero = 1
tens (suc k) = 10 * tens k

last_of : (xs : List ℕ) (x k : ℕ) → length xs ≤ k → length (xs ++ x ∷ []) ≤ suc k
last_of xs x k short = let whole = length_both xs (x ∷ []) in omega (arith, whole, short)

within_short : (room n k : ℕ) → n < tens k → length (digits_within room n) ≤ k
within_short zero n k below = omega arith
within_short (suc room) zero k below = omega arith
within_short (suc room) (suc n) zero below = absurd (omega (arith, below))
within_short (suc room) (suc n) (suc k) below =
    last_of (digits_within room (suc n / 10)) _ k (within_short room (suc n / 10) k (quotient (tens k) n below))
  where
    quotient : (p n : ℕ) → suc n < 10 * p → suc n / 10 < p
    quotient p n small = omega (arith, small)

digits_short : (n : ℕ) → n < 2 ^ 127 → length (digits n) ≤ 39
unfolding digits
digits_short zero below = omega arith
digits_short (suc n) below = within_short (suc n) (suc n) 39 (larger n below)
  where
    larger : (n : ℕ) → suc n < 2 ^ 127 → suc n < tens 39
    larger n small = omega (arith, small)

integer_short : (z : ℤ) → unsigned_abs z < 2 ^ 127 → length (integer_text z) ≤ 40
integer_short (pos n) small = let short = digits_short n small in omega (arith, short)
integer_short (negsuc n) small = let short = digits_short (suc n) small in omega (arith, short)

text_short : (x : ℚ) → TermsFit x → length (rational_text x) ≤ 80
text_short x fit = by (x.denominator == 1)
  where
    by : (b : Bool) → length (if b then integer_text x.numerator else integer_text x.numerator ++ 47 ∷ digits x.denominator) ≤ 80
    by true = let short = integer_short x.numerator fit.numerator_fits in omega (arith, short)
    by false =
        let top = integer_short x.numerator fit.numerator_fits in
        let bottom = digits_short x.denominator fit.denominator_fits in
        let whole = length_both (integer_text x.numerator) (47 ∷ digits x.denominator) in
        omega (arith, top, bottom, whole)

-- ---- words

not_more : (n : ℕ) → n ≤ 80 → nat_lt 100000 n ≡ false
not_more n small = grind (arith, nat_tests, small)

unsigned_shorter : (word : List ℕ) → length (unsigned word) ≤ length word
unsigned_shorter word = by (bytes_eq (take 1 word) (45 ∷ []))
  where
    by : (b : Bool) → length (unwrap_or (if b then Some (drop 1 word) else None) word) ≤ length word
    by true = drop_shorter 1 word
    by false = omega arith

size_is_short : (size : List ℕ) → length size ≤ 80 → is_longer 100000 size ≡ false
size_is_short size short =
    let top = take_shorter (position_or_len is_slash size) size in
    let bottom = drop_shorter (position_or_len is_slash size + 1) size in
    ap₂ (λ a b. has_number_form size && (a || b)) (not_more (length (before_first is_slash size)) (omega (arith, top, short)))
    (not_more (length (after_first is_slash size)) (omega (arith, bottom, short)))
    ∙ by (has_number_form size)
  where
    by : (b : Bool) → (b && (false || false)) ≡ false
    by true = refl
    by false = refl

word_is_short : (word : List ℕ) → length word ≤ 80 → is_long checker_of_any_length word ≡ false
word_is_short word short = let smaller = unsigned_shorter word in size_is_short (unsigned word) (omega (arith, smaller, short))

-- a word that is read in 128 bits is read alike
pub fraction_widens : (word : List ℕ) (x : ℚ) → fraction_in checker_of_128_bits word ≡ Some x → fraction_in checker_of_any_length word ≡ Some x
fraction_widens word x e =
    let is = text_of_fraction word x e in
    ap (fraction_in checker_of_any_length) is.0 ∙ read_of_text checker_of_any_length x (word_is_short (rational_text x) (text_short x is.1)) refl
