-- What the texts of table lines and of tables determine.
use Rattle.std.proofs.Common.{◌≡◌, ℕ, zero, suc, ◌-◌, Bool, true, false, not, ◌||◌, ◌==◌, List, [], ◌∷◌, ◌++◌, replicate, length, All, refl, ap, ap₂, sym, ◌∙◌}
use Rattle.std.proofs.Common.{arith, append_assoc}
use Rattle.std.specs.List.{list_all, list_any}
use Rattle.std.proofs.lemmas.List.{append-nil}
use Rattle.std.proofs.lemmas.Bool.Decides.{nat_tests}
use Rattle.std.proofs.lemmas.Bool.{and_parts}
use Rattle.card_definitions.specs.Words.{padded}
use Rattle.card_definitions.specs.Numbers.{is_digit}
use Rattle.problem_definitions.specs.Valid.{IsName}
use Rattle.card_definitions.specs.Places.{text_in}
use Rattle.card_definitions.proofs.Places.{length-padded}
use Rattle.problem_definitions.proofs.NamePlaces.{name_in_places}
use Rattle.listing_definitions.specs.Numbers.{digits}
use Rattle.listing_definitions.specs.Report.{Line}
use Rattle.listing_definitions.specs.Text.{name8, values_text, line_text, table_text}
use Rattle.listing_laws.specs.Reported.{begins_line}
use Rattle.listing_laws.proofs.Cutting.{weaker, heads, cut, same_front}
use Rattle.listing_laws.proofs.Digits.{digits_are, digit_there, digits_tell}
use Rattle.listing_laws.proofs.Values.{values_tell}

abbrev is_blank : ℕ → Bool
is_blank byte = byte == 32

digit_is_no_blank : (x : ℕ) → is_digit x ≡ true → not (is_blank x) ≡ true
digit_is_no_blank x e = grind (arith, nat_tests, e)

-- digits, of which there are some, don't begin with a blank
no_blank_first : (a r s : List ℕ) → list_all is_digit a ≡ true → list_any is_digit a ≡ true → a ++ r ≡ 32 ∷ s → ⊥
no_blank_first [] r s all some e = cc some
no_blank_first (x ∷ a) r s all some e =
    let digit : is_digit 32 ≡ true = ap is_digit (sym (heads x 32 (a ++ r) s e).0) ∙ (and_parts (is_digit x) (list_all is_digit a) all).0 in
    cc digit

-- digits at the right of some places, with a blank after them
right_tells : (j k : ℕ) (a b r s : List ℕ) → list_all is_digit a ≡ true → list_any is_digit a ≡ true → list_all is_digit b ≡ true → list_any is_digit b ≡ true
    → replicate j 32 ++ (a ++ 32 ∷ r) ≡ replicate k 32 ++ (b ++ 32 ∷ s) → (a ≡ b) × (r ≡ s)
right_tells zero zero a b r s a_all a_some b_all b_some e =
    let parts =
    cut is_blank a b 32 32 r s (weaker is_digit (λ x. not (is_blank x)) a digit_is_no_blank a_all)
    (weaker is_digit (λ x. not (is_blank x)) b digit_is_no_blank b_all) refl refl e in
    (parts.0, (heads 32 32 r s parts.1).1)
right_tells zero (suc k) a b r s a_all a_some b_all b_some e = absurd (no_blank_first a (32 ∷ r) (replicate k 32 ++ (b ++ 32 ∷ s)) a_all a_some e)
right_tells (suc j) zero a b r s a_all a_some b_all b_some e = absurd (no_blank_first b (32 ∷ s) (replicate j 32 ++ (a ++ 32 ∷ r)) b_all b_some (sym e))
right_tells (suc j) (suc k) a b r s a_all a_some b_all b_some e =
    right_tells j k a b r s a_all a_some b_all b_some (heads 32 32 (replicate j 32 ++ (a ++ 32 ∷ r)) (replicate k 32 ++ (b ++ 32 ∷ s)) e).1

pub name_tells : (x y r s : List ℕ) → IsName x → IsName y → name8 x ++ r ≡ name8 y ++ s → (x ≡ y) × (r ≡ s)
name_tells x y r s x_named y_named e =
    let parts = same_front (padded 8 x) (padded 8 y) r s (length-padded 8 x x_named.short ∙ sym (length-padded 8 y y_named.short)) e in
    (sym (name_in_places x x_named) ∙ ap text_in parts.0 ∙ name_in_places y y_named, parts.1)

-- a line with what stands after it, in its parts
parted : (line : Line) (r : List ℕ) →
    line_text line ++ r ≡ replicate (5 - length (digits line.number)) 32 ++
    (digits line.number ++ 32 ∷ (name8 line.name ++ (values_text line.values ++ 10 ∷ r)))
parted line r = simp (append_assoc, append-nil)

same_line : (x y : Line) → x.number ≡ y.number → x.name ≡ y.name → x.values ≡ y.values → x ≡ y
same_line x y number name values = λ i. record { number = number i; name = name i; values = values i }

pub line_tells : (x y : Line) (r s : List ℕ) → IsName x.name → IsName y.name → line_text x ++ r ≡ line_text y ++ s → (x ≡ y) × (r ≡ s)
line_tells x y r s x_named y_named e =
    let whole = sym (parted x r) ∙ e ∙ parted y s in
    let number = right_tells (5 - length (digits x.number)) (5 - length (digits y.number)) (digits x.number) (digits y.number)
    (name8 x.name ++ (values_text x.values ++ 10 ∷ r)) (name8 y.name ++ (values_text y.values ++ 10 ∷ s))
    (digits_are x.number) (digit_there x.number) (digits_are y.number) (digit_there y.number) whole in
    let name = name_tells x.name y.name (values_text x.values ++ 10 ∷ r) (values_text y.values ++ 10 ∷ s) x_named y_named number.1 in
    let values = values_tell x.values y.values r s name.1 in
    (same_line x y (digits_tell x.number y.number number.0) name.0 values.0, values.1)

pub whole_line_tells : (x y : Line) → IsName x.name → IsName y.name → line_text x ≡ line_text y → x ≡ y
whole_line_tells x y x_named y_named e =
    (line_tells x y [] [] x_named y_named (ap (λ t. t ++ []) e)).0

-- a line begins with a blank or a digit
first_byte : (k : ℕ) (a r : List ℕ) → list_all is_digit a ≡ true → list_any is_digit a ≡ true → begins_line (replicate k 32 ++ (a ++ r)) ≡ true
first_byte (suc k) a r all some = refl
first_byte zero [] r all some = cc some
first_byte zero (x ∷ a) r all some = ap (λ b. x == 32 || b) (and_parts (is_digit x) (list_all is_digit a) all).0 ∙ or_true (x == 32)
  where
    or_true : (b : Bool) → (b || true) ≡ true
    or_true true = refl
    or_true false = refl

line_begins : (line : Line) (r : List ℕ) → begins_line (line_text line ++ r) ≡ true
line_begins line r =
    ap begins_line (parted line r) ∙ first_byte (5 - length (digits line.number)) (digits line.number) _ (digits_are line.number) (digit_there line.number)

-- where a line stands, another text doesn't
no_line : (line : Line) (r s : List ℕ) → begins_line s ≡ false → line_text line ++ r ≡ s → ⊥
no_line line r s other e =
    let begins : begins_line s ≡ true = ap begins_line (sym e) ∙ line_begins line r in
    cc (other, begins)

pub table_tells : (xs ys : List Line) (r s : List ℕ) → All (λ line. IsName line.name) xs → All (λ line. IsName line.name) ys
    → begins_line r ≡ false → begins_line s ≡ false → table_text xs ++ r ≡ table_text ys ++ s → (xs ≡ ys) × (r ≡ s)
table_tells [] [] r s x_named y_named r_other s_other e = (refl, e)
table_tells [] (y ∷ ys) r s x_named y_named r_other s_other e =
    absurd (no_line y (table_text ys ++ s) r r_other (sym (append_assoc (line_text y) (table_text ys) s) ∙ sym e))
table_tells (x ∷ xs) [] r s x_named y_named r_other s_other e =
    absurd (no_line x (table_text xs ++ r) s s_other (sym (append_assoc (line_text x) (table_text xs) r) ∙ e))
table_tells (x ∷ xs) (y ∷ ys) r s x_named y_named r_other s_other e =
    let whole : line_text x ++ (table_text xs ++ r) ≡ line_text y ++ (table_text ys ++ s) =
    sym (append_assoc (line_text x) (table_text xs) r) ∙ e ∙ append_assoc (line_text y) (table_text ys) s in
    let first = line_tells x y (table_text xs ++ r) (table_text ys ++ s) (x_named 0 x (omega arith)) (y_named 0 y (omega arith)) whole in
    let rest =
    table_tells xs ys r s (λ i d below. x_named (suc i) d (omega (arith, below)))
    (λ i d below. y_named (suc i) d (omega (arith, below))) r_other s_other first.1 in
    (ap₂ (λ z zs. z ∷ zs) first.0 rest.0, rest.1)
