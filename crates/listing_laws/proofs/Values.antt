-- What the texts of values determine.
use Rattle.std.proofs.Common.{◌≡◌, ℕ, Bool, true, false, not, ◌||◌, ◌==◌, List, [], ◌∷◌, ◌++◌, codes, refl, ap, ap₂, sym, ◌∙◌, arith, append_assoc}
use Rattle.std.specs.List.{list_all, list_any}
use Rattle.std.proofs.lemmas.Bool.Decides.{nat_tests}
use Rattle.exact_values.specs.Rational.{ℚ}
use Rattle.card_definitions.specs.Numbers.{is_digit}
use Rattle.listing_definitions.specs.declared.At.{At}
use Rattle.listing_definitions.specs.declared.At.TheVariants.{Basic, Outside, Equal, Lower, Upper, Free}
use Rattle.listing_definitions.specs.Numbers.{rational_text}
use Rattle.listing_definitions.specs.Report.{Value, Code, Number, Absent, Dash}
use Rattle.listing_definitions.specs.Text.{at_text, value_text, values_text}
use Rattle.listing_laws.proofs.Cutting.{differ, weaker, heads, cut}
use Rattle.listing_laws.proofs.Digits.{is_of_number, rational_of_number, rational_has_digit, rational_tells}

at_tells : (x y : At) → at_text x ≡ at_text y → x ≡ y
at_tells Basic Basic e = refl
at_tells Basic Outside e = absurd (differ (codes "BS") (codes "**") refl e)
at_tells Basic Equal e = absurd (differ (codes "BS") (codes "EQ") refl e)
at_tells Basic Lower e = absurd (differ (codes "BS") (codes "LL") refl e)
at_tells Basic Upper e = absurd (differ (codes "BS") (codes "UL") refl e)
at_tells Basic Free e = absurd (differ (codes "BS") (codes "FR") refl e)
at_tells Outside Basic e = absurd (differ (codes "**") (codes "BS") refl e)
at_tells Outside Outside e = refl
at_tells Outside Equal e = absurd (differ (codes "**") (codes "EQ") refl e)
at_tells Outside Lower e = absurd (differ (codes "**") (codes "LL") refl e)
at_tells Outside Upper e = absurd (differ (codes "**") (codes "UL") refl e)
at_tells Outside Free e = absurd (differ (codes "**") (codes "FR") refl e)
at_tells Equal Basic e = absurd (differ (codes "EQ") (codes "BS") refl e)
at_tells Equal Outside e = absurd (differ (codes "EQ") (codes "**") refl e)
at_tells Equal Equal e = refl
at_tells Equal Lower e = absurd (differ (codes "EQ") (codes "LL") refl e)
at_tells Equal Upper e = absurd (differ (codes "EQ") (codes "UL") refl e)
at_tells Equal Free e = absurd (differ (codes "EQ") (codes "FR") refl e)
at_tells Lower Basic e = absurd (differ (codes "LL") (codes "BS") refl e)
at_tells Lower Outside e = absurd (differ (codes "LL") (codes "**") refl e)
at_tells Lower Equal e = absurd (differ (codes "LL") (codes "EQ") refl e)
at_tells Lower Lower e = refl
at_tells Lower Upper e = absurd (differ (codes "LL") (codes "UL") refl e)
at_tells Lower Free e = absurd (differ (codes "LL") (codes "FR") refl e)
at_tells Upper Basic e = absurd (differ (codes "UL") (codes "BS") refl e)
at_tells Upper Outside e = absurd (differ (codes "UL") (codes "**") refl e)
at_tells Upper Equal e = absurd (differ (codes "UL") (codes "EQ") refl e)
at_tells Upper Lower e = absurd (differ (codes "UL") (codes "LL") refl e)
at_tells Upper Upper e = refl
at_tells Upper Free e = absurd (differ (codes "UL") (codes "FR") refl e)
at_tells Free Basic e = absurd (differ (codes "FR") (codes "BS") refl e)
at_tells Free Outside e = absurd (differ (codes "FR") (codes "**") refl e)
at_tells Free Equal e = absurd (differ (codes "FR") (codes "EQ") refl e)
at_tells Free Lower e = absurd (differ (codes "FR") (codes "LL") refl e)
at_tells Free Upper e = absurd (differ (codes "FR") (codes "UL") refl e)
at_tells Free Free e = refl

-- a word isn't the text of a number
no_word : (x : ℚ) (word : List ℕ) → list_all is_of_number word ≡ false → word ≡ rational_text x → ⊥
no_word x word other e =
    let passes : list_all is_of_number word ≡ true = ap (list_all is_of_number) e ∙ rational_of_number x in
    cc (other, passes)

at_is_word : (at : At) → list_all is_of_number (at_text at) ≡ false
at_is_word Basic = refl
at_is_word Outside = refl
at_is_word Equal = refl
at_is_word Lower = refl
at_is_word Upper = refl
at_is_word Free = refl

no_dash : (x : ℚ) → codes "-" ≡ rational_text x → ⊥
no_dash x e =
    let passes : list_any is_digit (codes "-") ≡ true = ap (list_any is_digit) e ∙ rational_has_digit x in
    cc passes

pub value_tells : (x y : Value) → value_text x ≡ value_text y → x ≡ y
value_tells (Code x) (Code y) e = ap Code (at_tells x y e)
value_tells (Code x) (Number y) e = absurd (no_word y (at_text x) (at_is_word x) e)
value_tells (Code Basic) Absent e = absurd (differ (codes "BS") (codes "NONE") refl e)
value_tells (Code Outside) Absent e = absurd (differ (codes "**") (codes "NONE") refl e)
value_tells (Code Equal) Absent e = absurd (differ (codes "EQ") (codes "NONE") refl e)
value_tells (Code Lower) Absent e = absurd (differ (codes "LL") (codes "NONE") refl e)
value_tells (Code Upper) Absent e = absurd (differ (codes "UL") (codes "NONE") refl e)
value_tells (Code Free) Absent e = absurd (differ (codes "FR") (codes "NONE") refl e)
value_tells (Code Basic) Dash e = absurd (differ (codes "BS") (codes "-") refl e)
value_tells (Code Outside) Dash e = absurd (differ (codes "**") (codes "-") refl e)
value_tells (Code Equal) Dash e = absurd (differ (codes "EQ") (codes "-") refl e)
value_tells (Code Lower) Dash e = absurd (differ (codes "LL") (codes "-") refl e)
value_tells (Code Upper) Dash e = absurd (differ (codes "UL") (codes "-") refl e)
value_tells (Code Free) Dash e = absurd (differ (codes "FR") (codes "-") refl e)
value_tells (Number x) (Code y) e = absurd (no_word x (at_text y) (at_is_word y) (sym e))
value_tells (Number x) (Number y) e = ap Number (rational_tells x y e)
value_tells (Number x) Absent e = absurd (no_word x (codes "NONE") refl (sym e))
value_tells (Number x) Dash e = absurd (no_dash x (sym e))
value_tells Absent (Code Basic) e = absurd (differ (codes "NONE") (codes "BS") refl e)
value_tells Absent (Code Outside) e = absurd (differ (codes "NONE") (codes "**") refl e)
value_tells Absent (Code Equal) e = absurd (differ (codes "NONE") (codes "EQ") refl e)
value_tells Absent (Code Lower) e = absurd (differ (codes "NONE") (codes "LL") refl e)
value_tells Absent (Code Upper) e = absurd (differ (codes "NONE") (codes "UL") refl e)
value_tells Absent (Code Free) e = absurd (differ (codes "NONE") (codes "FR") refl e)
value_tells Absent (Number y) e = absurd (no_word y (codes "NONE") refl e)
value_tells Absent Absent e = refl
value_tells Absent Dash e = absurd (differ (codes "NONE") (codes "-") refl e)
value_tells Dash (Code Basic) e = absurd (differ (codes "-") (codes "BS") refl e)
value_tells Dash (Code Outside) e = absurd (differ (codes "-") (codes "**") refl e)
value_tells Dash (Code Equal) e = absurd (differ (codes "-") (codes "EQ") refl e)
value_tells Dash (Code Lower) e = absurd (differ (codes "-") (codes "LL") refl e)
value_tells Dash (Code Upper) e = absurd (differ (codes "-") (codes "UL") refl e)
value_tells Dash (Code Free) e = absurd (differ (codes "-") (codes "FR") refl e)
value_tells Dash (Number y) e = absurd (no_dash y e)
value_tells Dash Absent e = absurd (differ (codes "-") (codes "NONE") refl e)
value_tells Dash Dash e = refl

-- a value ends at a blank or at the end of its line
abbrev pub ends_value : ℕ → Bool
ends_value byte = byte == 32 || byte == 10

of_number_goes_on : (x : ℕ) → is_of_number x ≡ true → not (ends_value x) ≡ true
of_number_goes_on x e = grind (arith, nat_tests, e)

value_goes_on : (x : Value) → list_all (λ byte. not (ends_value byte)) (value_text x) ≡ true
value_goes_on (Code Basic) = refl
value_goes_on (Code Outside) = refl
value_goes_on (Code Equal) = refl
value_goes_on (Code Lower) = refl
value_goes_on (Code Upper) = refl
value_goes_on (Code Free) = refl
value_goes_on (Number x) = weaker is_of_number (λ byte. not (ends_value byte)) (rational_text x) of_number_goes_on (rational_of_number x)
value_goes_on Absent = refl
value_goes_on Dash = refl

-- what stands after a value begins with a blank or ends the line
record Ends (rest : List ℕ) : Type 0 where
  byte : ℕ
  bytes : List ℕ
  is : rest ≡ byte ∷ bytes
  ends : ends_value byte ≡ true

values_end : (xs : List Value) (after : List ℕ) → Ends (values_text xs ++ 10 ∷ after)
values_end [] after = record { byte = 10; bytes = after; is = refl; ends = refl }
values_end (x ∷ xs) after = record { byte = 32; bytes = (value_text x ++ values_text xs) ++ 10 ∷ after; is = refl; ends = refl }

-- two values with what stands after them
one_value : (x y : Value) (r s : List ℕ) → Ends r → Ends s → value_text x ++ r ≡ value_text y ++ s → (x ≡ y) × (r ≡ s)
one_value x y r s r_ends s_ends e =
    let whole : value_text x ++ r_ends.byte ∷ r_ends.bytes ≡ value_text y ++ s_ends.byte ∷ s_ends.bytes =
    ap (λ t. value_text x ++ t) (sym r_ends.is) ∙ e ∙ ap (λ t. value_text y ++ t) s_ends.is in
    let parts =
    cut ends_value (value_text x) (value_text y) r_ends.byte s_ends.byte r_ends.bytes s_ends.bytes (value_goes_on x)
    (value_goes_on y) r_ends.ends s_ends.ends whole in
    (value_tells x y parts.0, r_ends.is ∙ parts.1 ∙ sym s_ends.is)

pub values_tell : (xs ys : List Value) (r s : List ℕ) → values_text xs ++ 10 ∷ r ≡ values_text ys ++ 10 ∷ s → (xs ≡ ys) × (r ≡ s)
values_tell [] [] r s e = (refl, (heads 10 10 r s e).1)
values_tell [] (y ∷ ys) r s e = cc e
values_tell (x ∷ xs) [] r s e = cc e
values_tell (x ∷ xs) (y ∷ ys) r s e =
    let tails : (value_text x ++ values_text xs) ++ 10 ∷ r ≡ (value_text y ++ values_text ys) ++ 10 ∷ s = (heads 32 32 _ _ e).1 in
    let whole : value_text x ++ (values_text xs ++ 10 ∷ r) ≡ value_text y ++ (values_text ys ++ 10 ∷ s) =
    sym (append_assoc (value_text x) (values_text xs) (10 ∷ r)) ∙ tails ∙ append_assoc (value_text y) (values_text ys) (10 ∷ s) in
    let first = one_value x y _ _ (values_end xs r) (values_end ys s) whole in
    let rest = values_tell xs ys r s first.1 in
    (ap₂ (λ z zs. z ∷ zs) first.0 rest.0, rest.1)
