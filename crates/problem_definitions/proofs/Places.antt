-- The numbers of names in a list.
use Rattle.std.proofs.Common.{◌≡◌, suc, ◌+◌, ◌-◌, ◌<◌, Bool, true, false, cond, not, ◌&&◌, ◌||◌, List, [], ◌∷◌, ◌++◌, Some, length, map, refl, ap, sym, ◌∙◌}
use Rattle.std.proofs.Common.{subst, arith, unwrap_or, nat_eq, is_some}
use Rattle.std.specs.List.{position_or_len, list_any, slice_get}
use Rattle.std.specs.Option.{option_map}
use Rattle.std.proofs.lemmas.Bool.{lt-ltb, eqb-true}
use Rattle.std.proofs.lemmas.List.Folds.{list_any-append}
use Rattle.problem_definitions.specs.Names.{Name, same, has_name, number_in, name_at}
use Rattle.problem_definitions.specs.Kinds.{is_free_kind}
use Rattle.problem_definitions.specs.Problem.{Row, has_row, has_free_row, has_combination}
use Rattle.problem_definitions.specs.Valid.{IsNumberOf, is_free_row, is_combination}
use Rattle.problem_definitions.proofs.Names.{same_eq, same_refl, row_is_named}

-- an element that passes is found before the end
place_within : {X : Type 0} (p : X → Bool) (xs : List X) → list_any p xs ≡ true → position_or_len p xs < length xs
place_within p [] some = absurd (cc some)
place_within p (x ∷ xs) some = by (p x) some (place_within p xs)
  where
    by : (b : Bool) → (b || list_any p xs) ≡ true → (list_any p xs ≡ true → position_or_len p xs < length xs) →
        cond (not b) (1 + position_or_len p xs) 0 < suc (length xs)
    by true h rest = omega arith
    by false h rest = let inner : position_or_len p xs < length xs = rest h in omega (arith, inner)

-- the element found
place_has : {X : Type 0} (p : X → Bool) (xs : List X) → list_any p xs ≡ true → (x : X) × (slice_get xs (position_or_len p xs) ≡ Some x) × (p x ≡ true)
place_has p [] some = absurd (cc some)
place_has p (x ∷ xs) some = by (p x) refl some (place_has p xs)
  where
    by : (b : Bool) → p x ≡ b → (b || list_any p xs) ≡ true → (list_any p xs ≡ true → (y : _) × (slice_get xs (position_or_len p xs) ≡ Some y) × (p y ≡ true))
        → (y : _) × (slice_get (x ∷ xs) (cond (not b) (1 + position_or_len p xs) 0) ≡ Some y) × (p y ≡ true)
    by true e h rest = (x, refl, e)
    by false e h rest =
        let found = rest h in
        let next : 1 + position_or_len p xs ≡ suc (position_or_len p xs) = omega arith in
        (found.0, rw next found.1, found.2)

-- the number of a name that is there
pub number_in-is : (names : List Name) (name : Name) → has_name names name ≡ true → number_in names name ≡ position_or_len (same name) names + 1
number_in-is names name there = rw (lt-ltb (position_or_len (same name) names) (length names) (place_within (same name) names there)) refl

pub number_in-within : (names : List Name) (name : Name) → has_name names name ≡ true → IsNumberOf (length names) (number_in names name)
number_in-within names name there =
    let is = number_in-is names name there in
    let within = place_within (same name) names there in
    record { positive = omega (arith, is); at_most = omega (arith, is, within) }

-- the name at a name's number is that name
pub name_at-number_in : (names : List Name) (name : Name) → has_name names name ≡ true → name_at names (number_in names name) ≡ name
name_at-number_in names name there =
    let found = place_has (same name) names there in
    let less : position_or_len (same name) names + 1 - 1 ≡ position_or_len (same name) names = omega arith in
    ap (name_at names) (number_in-is names name there) ∙ ap (λ n. unwrap_or (slice_get names n) []) less ∙ ap (λ o. unwrap_or o []) found.1
    ∙ sym (same_eq name found.0 found.2)

-- different names that are there have different numbers
pub numbers_apart : (names : List Name) (a b : Name) → has_name names a ≡ true → has_name names b ≡ true → same a b ≡ false →
    nat_eq (number_in names a) (number_in names b) ≡ false
numbers_apart names a b has_a has_b apart = by (nat_eq (number_in names a) (number_in names b)) refl
  where
    by : (t : Bool) → nat_eq (number_in names a) (number_in names b) ≡ t → t ≡ false
    by false e = refl
    by true e =
        let one : number_in names a ≡ number_in names b = eqb-true (number_in names a) (number_in names b) e in
        let equal : a ≡ b = sym (name_at-number_in names a has_a) ∙ ap (name_at names) one ∙ name_at-number_in names b has_b in
        absurd (cc (subst (λ n. same n b ≡ false) equal apart, same_refl b))

-- the number of a name of the prefix is its number in the whole list
pub number_in-front : (front back : List Name) (name : Name) → has_name front name ≡ true → number_in (front ++ back) name ≡ number_in front name
number_in-front front back name there = number_in-is (front ++ back) name whole ∙ ap (λ n. n + 1) (first front there) ∙ sym (number_in-is front name there)
  where
    whole : has_name (front ++ back) name ≡ true
    whole = list_any-append (same name) front back ∙ rw there refl

    first : (front : List Name) → has_name front name ≡ true → position_or_len (same name) (front ++ back) ≡ position_or_len (same name) front
    first [] some = absurd (cc some)
    first (other ∷ front) some = by (same name other) some (first front)
      where
        by : (b : Bool) → (b || has_name front name) ≡ true
            → (has_name front name ≡ true → position_or_len (same name) (front ++ back) ≡ position_or_len (same name) front)
            → cond (not b) (1 + position_or_len (same name) (front ++ back)) 0 ≡ cond (not b) (1 + position_or_len (same name) front) 0
        by true h rest = refl
        by false h rest = ap (λ n. 1 + n) (rest h)

-- a row that fails a test by its name fails it by its number
test-number : {R : Type 0} (test : Row R → Bool) (rows : List (Row R)) (name : Name) → has_row rows name ≡ true
    → list_any (λ row. same name row.name && test row) rows ≡ false
    → unwrap_or (option_map test (slice_get rows (number_in (map (λ row. row.name) rows) name - 1))) false ≡ false
test-number {R = R} test rows name there fails =
    ap (λ n. unwrap_or (option_map test (slice_get rows (n - 1))) false) (number_in-is (map (λ row. row.name) rows) name (sym (row_is_named name rows) ∙ there))
    ∙ ap (λ n. unwrap_or (option_map test (slice_get rows n)) false) less
    ∙ tested rows there fails
  where
    less : position_or_len (same name) (map (λ row. row.name) rows) + 1 - 1 ≡ position_or_len (same name) (map (λ row. row.name) rows)
    less = omega arith

    tested : (rows : List (Row R)) → has_row rows name ≡ true → list_any (λ row. same name row.name && test row) rows ≡ false
        → unwrap_or (option_map test (slice_get rows (position_or_len (same name) (map (λ row. row.name) rows)))) false ≡ false
    tested [] some fails = refl
    tested (row ∷ rest) some fails = by (same name row.name) some fails (tested rest)
      where
        by : (b : Bool) → (b || has_row rest name) ≡ true → (b && test row || list_any (λ row. same name row.name && test row) rest) ≡ false
            → (has_row rest name ≡ true → list_any (λ row. same name row.name && test row) rest ≡ false
            → unwrap_or (option_map test (slice_get rest (position_or_len (same name) (map (λ row. row.name) rest)))) false ≡ false)
            → unwrap_or (option_map test (slice_get (row ∷ rest) (cond (not b) (1 + position_or_len (same name) (map (λ row. row.name) rest)) 0))) false ≡ false
        by true h fails more = left (test row) fails
          where
            left : (k : Bool) → (k || list_any (λ row. same name row.name && test row) rest) ≡ false → k ≡ false
            left true e = e
            left false e = refl
        by false h fails more =
            let next : 1 + position_or_len (same name) (map (λ row. row.name) rest) ≡ suc (position_or_len (same name) (map (λ row. row.name) rest)) =
            omega arith in
            rw next (more h fails)

-- a row that isn't free by its name isn't by its number
pub free_row-number : {R : Type 0} (rows : List (Row R)) (name : Name) → has_row rows name ≡ true → has_free_row rows name ≡ false →
    is_free_row rows (number_in (map (λ row. row.name) rows) name) ≡ false
free_row-number = test-number (λ row. is_free_kind row.kind)

-- a row that is no combination by its name is none by its number
pub combination-number : {R : Type 0} (rows : List (Row R)) (name : Name) → has_row rows name ≡ true → has_combination rows name ≡ false →
    is_combination rows (number_in (map (λ row. row.name) rows) name) ≡ false
combination-number = test-number (λ row. is_some row.parts)
