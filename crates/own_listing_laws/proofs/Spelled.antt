-- What was written is read back: a text, a word, a number, a check.
use Rattle.std.proofs.Common.{◌≡◌, ℕ, ◌≤◌, true, not, ◌&&◌, List, [], ◌∷◌, ◌++◌, Option, Some, None, codes, drop, length, if◌then◌else◌, refl, ap, ap₂, ◌∙◌}
use Rattle.std.proofs.Common.{arith, append_assoc, append-nil, le-leb}
use Rattle.std.specs.Prelude.{option_and_then, bytes_eq, nat_le}
use Rattle.std.specs.List.{list_all}
use Rattle.std.specs.Option.{option_or}
use Rattle.std.proofs.lemmas.Slice.Eq.{bytes_eq-Decides}
use Rattle.std.proofs.lemmas.Bool.Decides.{nat_tests}
use Rattle.exact_values.specs.Rational.{ℚ}
use Rattle.frac128.specs.declared.Op.{Op}
use Rattle.frac128.specs.declared.Op.TheVariants.{Add, Sub, Mul, Div}
use Rattle.frac128.specs.Operations.{TermsFit}
use Rattle.card_definitions.specs.Words.{named}
use Rattle.card_definitions.specs.Numbers.{is_digit}
use Rattle.listing_definitions.specs.Numbers.{digits, rational_text}
use Rattle.listing_definitions.specs.Report.{Check, Checked, Unchecked}
use Rattle.listing_definitions.specs.Text.{operation_text, check_text}
use Rattle.listing_laws.proofs.Cutting.{weaker}
use Rattle.listing_laws.proofs.Digits.{is_of_number, digits_are, rational_of_number}
use Rattle.walk_definitions.specs.Checkers.{checker_of_128_bits}
use Rattle.walk_definitions.specs.Words.{left_after, with_text, ends_word, word_in, with_word, fraction_in, count_in}
use Rattle.walk_definitions.specs.Forms.{all_operations}
use Rattle.walk_definitions.specs.Reading.{with_check}
use Rattle.walk_definitions.proofs.Texts.{drop_text, stands, cut_before}
use Rattle.walk_definitions.proofs.Numbers.{digits_spell, fraction_of_text}
use Rattle.fitting_answers.specs.Fitting.{CheckFits}

-- no blank and no line feed
abbrev pub IsWord : List ℕ → Type 0
IsWord word = list_all (λ byte. not (ends_word byte)) word ≡ true

-- this is read of a text
pub record Gives {X : Type 0} (reads : List ℕ → Option X) (rest : List ℕ) (got : Option X) : Type 0 where
  pub of : reads rest ≡ got

pub text_first : {X : Type 0} (text : List ℕ) (reads : List ℕ → Option X) (rest : List ℕ) (got : Option X) → Gives reads rest got →
    Gives (with_text text reads) (text ++ rest) got
text_first text reads rest got gives = record { of = ap (option_and_then reads) (stands text rest) ∙ gives.of }

pub word_is : (word : List ℕ) (byte : ℕ) (rest : List ℕ) → IsWord word → ends_word byte ≡ true → word_in (word ++ byte ∷ rest) ≡ word
word_is word byte rest is ends = cut_before ends_word word byte rest is ends

pub word_first : {X Y : Type 0} (of : List ℕ → Option X) (word : List ℕ) (x : X) (byte : ℕ) (rest : List ℕ) (reads : X → List ℕ → Option Y) (got : Option Y) →
    IsWord word → ends_word byte ≡ true → of word ≡ Some x → Gives (reads x) (byte ∷ rest) got → Gives (with_word of reads) (word ++ byte ∷ rest) got
word_first {X} of word x byte rest reads got is ends means gives = record {
  of =
      ap (λ w. option_and_then (λ y. reads y (drop (length w) (word ++ byte ∷ rest))) (of w)) (word_is word byte rest is ends)
      ∙ ap (option_and_then (λ (y : X). reads y (drop (length word) (word ++ byte ∷ rest)))) means
      ∙ ap (reads x) (drop_text word (byte ∷ rest)) ∙ gives.of;
}

-- the other one of two, where the first can't be read
pub or_else : {X : Type 0} (first second : List ℕ → Option X) (rest : List ℕ) (got : Option X) → first rest ≡ None → Gives second rest got →
    Gives (λ rest. option_or (first rest) (second rest)) rest got
or_else first second rest got none gives = record { of = ap (λ o. option_or o (second rest)) none ∙ gives.of }

pub or_first : {X : Type 0} (first second : List ℕ → Option X) (rest : List ℕ) (x : X) → Gives first rest (Some x) →
    Gives (λ rest. option_or (first rest) (second rest)) rest (Some x)
or_first first second rest x gives = record { of = ap (λ o. option_or o (second rest)) gives.of }

-- what begins with another text isn't read
pub not_there : {X : Type 0} (text : List ℕ) (reads : List ℕ → Option X) (rest : List ℕ) → left_after text rest ≡ None → with_text text reads rest ≡ None
not_there text reads rest none = ap (option_and_then reads) none

pub same_rest : {X : Type 0} (reads : List ℕ → Option X) (rest other : List ℕ) (got : Option X) → rest ≡ other → Gives reads other got → Gives reads rest got
same_rest reads rest other got same gives = record { of = ap reads same ∙ gives.of }

-- nothing is left to be read
pub done : {X : Type 0} (f : List ℕ → Option X) (rest : List ℕ) → Gives f rest (f rest)
done f rest = record { of = refl }

-- ---- numbers

digit_is_in_word : (x : ℕ) → is_digit x ≡ true → not (ends_word x) ≡ true
digit_is_in_word x e = grind (arith, nat_tests, e)

number_is_in_word : (x : ℕ) → is_of_number x ≡ true → not (ends_word x) ≡ true
number_is_in_word x e = grind (arith, nat_tests, e)

pub digits_word : (n : ℕ) → IsWord (digits n)
digits_word n = weaker is_digit (λ byte. not (ends_word byte)) (digits n) digit_is_in_word (digits_are n)

pub rational_word : (x : ℚ) → IsWord (rational_text x)
rational_word x = weaker is_of_number (λ byte. not (ends_word byte)) (rational_text x) number_is_in_word (rational_of_number x)

pub count_of_text : (most n : ℕ) → n ≤ most → count_in most (digits n) ≡ Some n
unfolding count_in
count_of_text most n small =
    ap (λ m. if nat_le m most && bytes_eq (digits m) (digits n) then Some m else None) (digits_spell n)
    ∙ ap₂ (λ a b. if a && b then Some n else None) (le-leb n most small) ((bytes_eq-Decides (digits n) (digits n)).1 refl)

-- the text of a fraction of 128 bits is read so
pub record ReadsFractions (of : List ℕ → Option ℚ) : Type 0 where
  pub means : (x : ℚ) → TermsFit x → of (rational_text x) ≡ Some x

pub in_128_bits : ReadsFractions (fraction_in checker_of_128_bits)
in_128_bits = record { means = fraction_of_text }

module _ {Y : Type 0} where
  pub fraction_first : (of : List ℕ → Option ℚ) → ReadsFractions of → (x : ℚ) (byte : ℕ) (rest : List ℕ) (reads : ℚ → List ℕ → Option Y) (got : Option Y) →
      TermsFit x → ends_word byte ≡ true → Gives (reads x) (byte ∷ rest) got → Gives (with_word of reads) (rational_text x ++ byte ∷ rest) got
  fraction_first of fractions x byte rest reads got fit ends gives =
      word_first of (rational_text x) x byte rest reads got (rational_word x) ends (fractions.means x fit) gives

  pub count_first : (most n byte : ℕ) (rest : List ℕ) (reads : ℕ → List ℕ → Option Y) (got : Option Y) → n ≤ most → ends_word byte ≡ true →
      Gives (reads n) (byte ∷ rest) got →
      Gives (with_word (count_in most) reads) (digits n ++ byte ∷ rest) got
  count_first most n byte rest reads got small ends gives =
      word_first (count_in most) (digits n) n byte rest reads got (digits_word n) ends (count_of_text most n small) gives

-- ---- checks

pub operation_word : (op : Op) → IsWord (operation_text op)
operation_word Add = refl
operation_word Sub = refl
operation_word Mul = refl
operation_word Div = refl

pub operation_named : (op : Op) → named all_operations (operation_text op) ≡ Some op
operation_named Add = refl
operation_named Sub = refl
operation_named Mul = refl
operation_named Div = refl

as_refused : (op left right rest : List ℕ) → (codes "UNCHECKED " ++ (op ++ (codes " " ++ (left ++ (codes " " ++ (right ++ [])))))) ++ (codes "\n" ++ rest) ≡
    codes "UNCHECKED " ++ (op ++ (32 ∷ (left ++ (32 ∷ (right ++ (10 ∷ rest))))))
as_refused op left right rest = simp (append_assoc, append-nil)

-- what is read where a check was refused: after its numbers, after its first number, and after its operation
module _ {X : Type 0} (reads : Check → List ℕ → Option X) where
  abbrev after_right : Op → ℚ → ℚ → List ℕ → Option X
  after_right op left right = with_text (codes "\n") (reads (Unchecked (record { op = op; left = left; right = right })))

  abbrev after_left : Op → ℚ → List ℕ → Option X
  after_left op left = with_text (codes " ") (with_word (fraction_in checker_of_128_bits) (after_right op left))

  abbrev after_operation : Op → List ℕ → Option X
  after_operation op = with_text (codes " ") (with_word (fraction_in checker_of_128_bits) (after_left op))

  abbrev unchecked_in : List ℕ → Option X
  unchecked_in = with_text (codes "UNCHECKED ") (with_word (named all_operations) after_operation)

pub check_first : {X : Type 0} (check : Check) (reads : Check → List ℕ → Option X) (rest : List ℕ) (x : X) → CheckFits check →
    Gives (reads check) rest (Some x) →
    Gives (with_check reads) (check_text check ++ (codes "\n" ++ rest)) (Some x)
check_first Checked reads rest x fit gives =
    or_first (with_text (codes "CHECKED\n") (reads Checked)) (unchecked_in reads) (codes "CHECKED\n" ++ rest) x
    (text_first (codes "CHECKED\n") (reads Checked) rest (Some x) gives)
check_first {X} (Unchecked refused) reads rest x fit gives =
    same_rest (with_check reads) _ (codes "UNCHECKED " ++ numbers) (Some x)
    (as_refused (operation_text refused.op) (rational_text refused.left) (rational_text refused.right) rest)
    (or_else (with_text (codes "CHECKED\n") (reads Checked)) (unchecked_in reads) (codes "UNCHECKED " ++ numbers) (Some x)
    (not_there (codes "CHECKED\n") (reads Checked) (codes "UNCHECKED " ++ numbers) refl)
    (text_first (codes "UNCHECKED ") _ numbers (Some x)
    (word_first (named all_operations) (operation_text refused.op) refused.op 32 _ (after_operation reads) (Some x) (operation_word refused.op) refl
    (operation_named refused.op)
    (text_first (codes " ") _ _ (Some x) (fraction_first (fraction_in checker_of_128_bits) in_128_bits refused.left 32 _
    (after_left reads refused.op) (Some x) fit.0 refl
    (text_first (codes " ") _ _ (Some x) (fraction_first (fraction_in checker_of_128_bits) in_128_bits refused.right 10 rest
    (after_right reads refused.op refused.left) (Some x) fit.1 refl
    (text_first (codes "\n") (reads (Unchecked (record { op = refused.op; left = refused.left; right = refused.right }))) rest (Some x) gives))))))))
  where
    numbers : List ℕ
    numbers = operation_text refused.op ++ (32 ∷ (rational_text refused.left ++ (32 ∷ (rational_text refused.right ++ (10 ∷ rest)))))
