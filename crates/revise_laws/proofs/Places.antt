-- The names at the places of a list without two alike.
use Rattle.std.proofs.Common.{◌≡◌, ℕ, zero, suc, ◌-◌, ◌<◌, Bool, true, false, ◌&&◌, ◌||◌, List, [], ◌∷◌, ◌++◌, length, map, refl, ap, sym, ◌∙◌, subst, arith}
use Rattle.std.proofs.Common.{unwrap_or, nat_eq, is_some}
use Rattle.std.specs.List.{AllByRecursion, IsDistinct, position_or_len, slice_get, list_any}
use Rattle.std.specs.Option.{option_map}
use Rattle.std.proofs.lemmas.Bool.{eq-eqb}
use Rattle.problem_definitions.specs.Names.{Name, same, has_name, number_in, name_at}
use Rattle.problem_definitions.specs.Kinds.{is_free_kind}
use Rattle.problem_definitions.specs.Problem.{Row, has_free_row, has_combination}
use Rattle.problem_definitions.specs.Valid.{IsNumberOf, is_free_row, is_combination}
use Rattle.problem_definitions.proofs.Names.{same_eq, same_refl, same_sym}
use Rattle.problem_definitions.proofs.Places.{number_in-is}

-- the name at a place, from 0
abbrev at : List Name → ℕ → Name
at names place = unwrap_or (slice_get names place) []

each-at : (P : Name → Type 0) (names : List Name) (place : ℕ) → place < length names → AllByRecursion P names → P (at names place)
each-at P [] place below each = absurd (omega (arith, below))
each-at P (name ∷ names) zero below each = each.0
each-at P (name ∷ names) (suc place) below each = let inner : place < length names = omega (arith, below) in each-at P names place inner each.1

at-there : (names : List Name) (place : ℕ) → place < length names → has_name names (at names place) ≡ true
at-there [] place below = absurd (omega (arith, below))
at-there (name ∷ names) zero below = rw (same_refl name) refl
at-there (name ∷ names) (suc place) below =
    let inner : place < length names = omega (arith, below) in
    by (same (at names place) name) (at-there names place inner)
  where
    by : (b : Bool) → has_name names (at names place) ≡ true → (b || has_name names (at names place)) ≡ true
    by true h = refl
    by false h = h

at-place : (names : List Name) (place : ℕ) → place < length names → IsDistinct same names → position_or_len (same (at names place)) names ≡ place
unfolding IsDistinct
at-place [] place below distinct = absurd (omega (arith, below))
at-place (name ∷ names) zero below distinct = rw (same_refl name) refl
at-place (name ∷ names) (suc place) below distinct =
    let inner : place < length names = omega (arith, below) in
    let other : same (at names place) name ≡ false = same_sym (at names place) name ∙ each-at (λ y. same name y ≡ false) names place inner distinct.0 in
    let rest : position_or_len (same (at names place)) names ≡ place = at-place names place inner distinct.1 in
    rw (other, rest) (omega arith)

-- a number of a name, from 1, and its place
below : (names : List Name) (number : ℕ) → IsNumberOf (length names) number → number - 1 < length names
below names number is = omega (arith, is.positive, is.at_most)

pub name_at-there : (names : List Name) (number : ℕ) → IsNumberOf (length names) number → has_name names (name_at names number) ≡ true
name_at-there names number is = at-there names (number - 1) (below names number is)

-- the number of the name at a number is that number
pub number_in-name_at : (names : List Name) → IsDistinct same names → (number : ℕ) → IsNumberOf (length names) number →
    number_in names (name_at names number) ≡ number
number_in-name_at names distinct number is =
    let place = at-place names (number - 1) (below names number is) distinct in
    number_in-is names (name_at names number) (name_at-there names number is) ∙ omega (arith, place, is.positive)

-- different numbers have different names
pub names_apart : (names : List Name) → IsDistinct same names → (a b : ℕ) → IsNumberOf (length names) a → IsNumberOf (length names) b → nat_eq a b ≡ false →
    same (name_at names a) (name_at names b) ≡ false
names_apart names distinct a b is_a is_b apart = by (same (name_at names a) (name_at names b)) refl
  where
    by : (t : Bool) → same (name_at names a) (name_at names b) ≡ t → t ≡ false
    by false e = refl
    by true e =
        let one : a ≡ b =
        sym (number_in-name_at names distinct a is_a) ∙ ap (number_in names) (same_eq (name_at names a) (name_at names b) e)
        ∙ number_in-name_at names distinct b is_b in
        absurd (cc (apart, eq-eqb a b one))

-- of a longer list too
pub name_at-front : (front back : List Name) (number : ℕ) → IsNumberOf (length front) number → has_name front (name_at (front ++ back) number) ≡ true
name_at-front front back number is =
    subst (λ name. has_name front name ≡ true) (first front (number - 1) (below front number is)) (name_at-there front number is)
  where
    first : (front : List Name) (place : ℕ) → place < length front → at front place ≡ at (front ++ back) place
    first [] place below' = absurd (omega (arith, below'))
    first (name ∷ front) zero below' = refl
    first (name ∷ front) (suc place) below' = let inner : place < length front = omega (arith, below') in first front place inner

module _ {R : Type 0} (test : Row R → Bool) where
  unlike-fails : (rows : List (Row R)) (name : Name) → AllByRecursion (λ other. same name other ≡ false) (map (λ row. row.name) rows) →
      list_any (λ row. same name row.name && test row) rows ≡ false
  unlike-fails [] name apart = refl
  unlike-fails (row ∷ rows) name apart = rw apart.0 (unlike-fails rows name apart.1)

  -- a row that fails a test by its number fails it by its name
  test-name : (rows : List (Row R)) → IsDistinct same (map (λ row. row.name) rows) → (number : ℕ) → IsNumberOf (length (map (λ row. row.name) rows)) number
      → unwrap_or (option_map test (slice_get rows (number - 1))) false ≡ false
      → list_any (λ row. same (name_at (map (λ row. row.name) rows) number) row.name && test row) rows ≡ false
  unfolding IsDistinct
  test-name rows distinct number is fails = tested rows distinct (number - 1) (below (map (λ row. row.name) rows) number is) fails
    where
      tested : (rows : List (Row R)) → IsDistinct same (map (λ row. row.name) rows) → (place : ℕ) → place < length (map (λ row. row.name) rows)
          → unwrap_or (option_map test (slice_get rows place)) false ≡ false
          → list_any (λ row. same (at (map (λ row. row.name) rows) place) row.name && test row) rows ≡ false
      tested [] distinct place below fails = refl
      tested (row ∷ rest) distinct zero below fails = rw (fails, unlike-fails rest row.name distinct.0) (closed (same row.name row.name))
        where
          closed : (b : Bool) → (b && false || false) ≡ false
          closed true = refl
          closed false = refl
      tested (row ∷ rest) distinct (suc place) below fails =
          let inner : place < length (map (λ row. row.name) rest) = omega (arith, below) in
          let other : same (at (map (λ row. row.name) rest) place) row.name ≡ false =
          same_sym (at (map (λ row. row.name) rest) place) row.name
          ∙ each-at (λ y. same row.name y ≡ false) (map (λ row. row.name) rest) place inner distinct.0 in
          rw other (tested rest distinct.1 place inner fails)

-- a row that isn't free by its number isn't by its name, and one that is no combination
pub free_row-name : {R : Type 0} (rows : List (Row R)) → IsDistinct same (map (λ row. row.name) rows) → (number : ℕ)
    → IsNumberOf (length (map (λ row. row.name) rows)) number → is_free_row rows number ≡ false
    → has_free_row rows (name_at (map (λ row. row.name) rows) number) ≡ false
free_row-name = test-name (λ row. is_free_kind row.kind)

pub combination-name : {R : Type 0} (rows : List (Row R)) → IsDistinct same (map (λ row. row.name) rows) → (number : ℕ)
    → IsNumberOf (length (map (λ row. row.name) rows)) number → is_combination rows number ≡ false
    → has_combination rows (name_at (map (λ row. row.name) rows) number) ≡ false
combination-name = test-name (λ row. is_some row.parts)
