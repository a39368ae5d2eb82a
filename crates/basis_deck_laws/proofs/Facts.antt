-- What lawful names, numbers and distinct lists give a written card.
use Rattle.std.proofs.Common.{◌≡◌, ℕ, ◌+◌, ◌≤◌, Bool, true, false, ◌||◌, List, [], ◌∷◌, ◌++◌, Option, Some, None, Result, Ok, Err, map, nat_le, refl, ap, sym}
use Rattle.std.proofs.Common.{◌∙◌, subst, arith}
use Rattle.std.specs.List.{AllByRecursion, IsDistinct}
use Rattle.std.specs.Option.{option_or}
use Rattle.std.proofs.lemmas.Bool.{leb-true}
use Rattle.card_definitions.specs.declared.NumberFault.{NumberFault}
use Rattle.card_definitions.specs.Words.{without_trailing, without_leading, first_fault, unless, ◌⟹◌}
use Rattle.card_definitions.specs.Cards.{is_blank}
use Rattle.card_definitions.specs.Numbers.{Decimal, number_fault, number_of, decimal_of}
use Rattle.card_definitions.proofs.Trailing.{trimmed_twice}
use Rattle.problem_definitions.specs.Names.{Name, same, has_name}
use Rattle.problem_definitions.specs.Valid.{IsName, IsDecimal}
use Rattle.problem_definitions.proofs.Names.{same_eq, same_sym}
use Rattle.problem_definitions.proofs.Lawful.{IsLabel}
use Rattle.deck_definitions.proofs.WrittenCards.{FitsField}

-- tests of which none finds a fault
pub none_found : {F : Type 0} (tests : List (Option F)) → AllByRecursion (λ test. test ≡ None) tests → first_fault tests ≡ None
none_found [] each = refl
none_found (test ∷ tests) each = ap (λ o. option_or o (first_fault tests)) each.0 ∙ none_found tests each.1

pub not_found : {F : Type 0} (b : Bool) (fault : F) → b ≡ false → (b ⟹ fault) ≡ None
not_found true fault h = absurd (cc h)
not_found false fault h = refl

-- a count below a limit
pub below : (limit count : ℕ) → count + 1 ≤ limit → nat_le limit count ≡ false
below limit count h = by (nat_le limit count) refl
  where
    by : (b : Bool) → nat_le limit count ≡ b → b ≡ false
    by true e = absurd (omega (arith, h, leb-true limit count e))
    by false e = refl

-- ---- elements of a list

pub all-at : {X : Type 0} (P : X → Type 0) (xs : List X) (y : X) (ys : List X) → AllByRecursion P (xs ++ y ∷ ys) → P y
all-at P [] y ys each = each.0
all-at P (x ∷ xs) y ys each = all-at P xs y ys each.1

-- an element of a distinct list is apart from those before it
pub apart-before : {X : Type 0} (e : X → X → Bool) (xs : List X) (y : X) (ys : List X) → IsDistinct e (xs ++ y ∷ ys) → AllByRecursion (λ x. e x y ≡ false) xs
unfolding IsDistinct
apart-before e [] y ys distinct = tt
apart-before e (x ∷ xs) y ys distinct = (all-at (λ other. e x other ≡ false) xs y ys distinct.0, apart-before e xs y ys distinct.1)

pub absent-before : (names : List Name) (name : Name) → AllByRecursion (λ other. same other name ≡ false) names → has_name names name ≡ false
absent-before [] name each = refl
absent-before (other ∷ names) name each = ap (λ b. b || has_name names name) (same_sym name other ∙ each.0) ∙ absent-before names name each.1

-- what holds of what f makes of each element
pub from-map : {X Y : Type 0} (P : Y → Type 0) (f : X → Y) (xs : List X) → AllByRecursion P (map f xs) → AllByRecursion (λ x. P (f x)) xs
from-map P f [] each = tt
from-map P f (x ∷ xs) each = (each.0, from-map P f xs each.1)

-- ---- names and numbers

pub fits-name : (name : Name) → IsName name → FitsField 8 name
fits-name name is = record { short = is.short; trimmed = is.trimmed }

-- a name among labels is one
pub label-of : (names : List Name) (name : Name) → AllByRecursion IsLabel names → has_name names name ≡ true → IsLabel name
label-of [] name each there = absurd (cc there)
label-of (other ∷ names) name each there = by (same name other) refl there (label-of names name each.1)
  where
    by : (b : Bool) → same name other ≡ b → (b || has_name names name) ≡ true → (has_name names name ≡ true → IsLabel name) → IsLabel name
    by true e h rest = subst IsLabel (sym (same_eq name other e)) each.0
    by false e h rest = rest h

-- the text of a number reads as that number
pub record ReadsAs (number : Decimal) : Type 0 where
  pub fine : number_fault number.text ≡ None
  pub again : decimal_of number.text ≡ number

pub reads-as : (number : Decimal) → IsDecimal number → ReadsAs number
unfolding number_of
reads-as number is = by (number_fault number.text) refl is.value
  where
    value_or : Result Decimal NumberFault → Decimal
    value_or (Ok d) = d
    value_or (Err fault) = number

    by : (o : Option NumberFault) → number_fault number.text ≡ o → unless o (decimal_of number.text) ≡ Ok number → ReadsAs number
    by None e h = record { fine = e; again = ap value_or h }
    by (Some fault) e h = absurd (cc h)

pub fits-number : (number : Decimal) → IsDecimal number → FitsField 12 number.text
fits-number number is =
    let again : without_trailing is_blank (without_leading is_blank number.text) ≡ number.text = ap (λ (d : Decimal). d.text) ((reads-as number is).again) in
    record { short = is.short; trimmed = ap (without_trailing is_blank) (sym again) ∙ trimmed_twice is_blank (without_leading is_blank number.text) ∙ again }
