-- The numbers of a column stand on rows of the problem, each on a row of its own.
use Rattle.std.proofs.Common.{◌≡◌, ◌≢◌, ℕ, suc, ◌+◌, ◌-◌, ◌<◌, ◌⊎◌, inl, inr, true, false, List, [], ◌∷◌, ◌++◌, Option, Some, None, map, length, refl, ap, sym}
use Rattle.std.proofs.Common.{◌∙◌, subst, arith, nat_eq, unwrap_or, IsFalse}
use Rattle.std.specs.List.{AllByRecursion, IsDistinct, enumerate_from, filter_map, cons_option, slice_get}
use Rattle.std.specs.Option.{option_map, is_some}
use Rattle.std.proofs.lemmas.List.{map-append}
use Rattle.std.proofs.lemmas.Option.{slice_get_within}
use Rattle.std.proofs.lemmas.Bool.Decides.{eqb_tells}
use Rattle.exact_values.specs.Rational.{ℚ}
use Rattle.lp_definitions.specs.declared.Entry.{Entry as Coefficient}
use Rattle.problem_definitions.specs.Problem.{Row, Entry, Group}
use Rattle.problem_definitions.specs.Valid.{IsNumberOf, AreEntries, is_combination}
use Rattle.problem_definitions.proofs.Each.{each-append, each-change, each-mapped}
use Rattle.problem_definitions.proofs.Groups.{map-map}
use Rattle.selection_definitions.specs.Combinations.{value_in, on_combination, column_values, on_combinations}
use Rattle.selection_definitions.specs.Selection.{entered, coefficients}

-- ---- numbers on combinations

-- the numbers on combinations are on combinations from the first row on
later-rows : (values : List (Option ℚ)) (first low : ℕ) (rows : List (Row ℕ)) → low < first
    → AllByRecursion (λ (other : ℕ). nat_eq low other ≡ false)
    (map (λ (e : Coefficient). e.row)
    (filter_map (λ (row : ℕ × Row ℕ). on_combination row.0 (value_in values row.0) row.1.parts) (enumerate_from first rows)))
later-rows values first low [] below = tt
later-rows values first low (row ∷ rows) below = by (value_in values first) row.parts (later-rows values (first + 1) low rows (omega (arith, below)))
  where
    rest : List Coefficient
    rest = filter_map (λ (row : ℕ × Row ℕ). on_combination row.0 (value_in values row.0) row.1.parts) (enumerate_from (first + 1) rows)

    apart : ((nat_eq low first ≡ true) × (low ≡ first)) ⊎ ((nat_eq low first ≡ false) × (low ≢ first)) → nat_eq low first ≡ false
    apart (inl same) = absurd (omega (arith, below, same.1))
    apart (inr differ) = differ.0

    by : (has : Option ℚ) (parts : Option (List (Entry ℕ))) → AllByRecursion (λ (other : ℕ). nat_eq low other ≡ false) (map (λ (e : Coefficient). e.row) rest)
        → AllByRecursion (λ (other : ℕ). nat_eq low other ≡ false) (map (λ (e : Coefficient). e.row) (cons_option (on_combination first has parts) rest))
    by has None more = more
    by None (Some parts) more = more
    by (Some v) (Some parts) more = (apart (eqb_tells low first), more)

ascending : (values : List (Option ℚ)) (first : ℕ) (rows : List (Row ℕ))
    → IsDistinct nat_eq
    (map (λ (e : Coefficient). e.row)
    (filter_map (λ (row : ℕ × Row ℕ). on_combination row.0 (value_in values row.0) row.1.parts) (enumerate_from first rows)))
unfolding IsDistinct
ascending values first [] = tt
ascending values first (row ∷ rows) = by (value_in values first) row.parts (ascending values (first + 1) rows)
  where
    rest : List Coefficient
    rest = filter_map (λ (row : ℕ × Row ℕ). on_combination row.0 (value_in values row.0) row.1.parts) (enumerate_from (first + 1) rows)

    by : (has : Option ℚ) (parts : Option (List (Entry ℕ))) → IsDistinct nat_eq (map (λ (e : Coefficient). e.row) rest) →
        IsDistinct nat_eq (map (λ (e : Coefficient). e.row) (cons_option (on_combination first has parts) rest))
    by has None more = more
    by None (Some parts) more = more
    by (Some v) (Some parts) more = (later-rows values (first + 1) first rows (omega arith), more)

-- the number stands on a row that is a combination
abbrev IsOnCombination : List (Row ℕ) → Coefficient → Type 0
IsOnCombination rows e = IsNumberOf (length rows) e.row × (is_combination rows e.row ≡ true)

module _ (all : List (Row ℕ)) (values : List (Option ℚ)) where
  on-their-rows : (place : ℕ) (rows : List (Row ℕ)) → ((k : ℕ) (row : Row ℕ) → slice_get rows k ≡ Some row → slice_get all (place + k) ≡ Some row)
      → AllByRecursion (IsOnCombination all)
      (filter_map (λ (row : ℕ × Row ℕ). on_combination row.0 (value_in values row.0) row.1.parts) (enumerate_from (place + 1) rows))
  on-their-rows place [] there = tt
  on-their-rows place (row ∷ rows) there = by (value_in values (place + 1)) row.parts refl (on-their-rows (place + 1) rows later)
    where
      later : (k : ℕ) (other : Row ℕ) → slice_get rows k ≡ Some other → slice_get all (place + 1 + k) ≡ Some other
      later k other is = let next : place + 1 + k ≡ place + suc k = omega arith in ap (slice_get all) next ∙ there (suc k) other is

      rest : List Coefficient
      rest = filter_map (λ (row : ℕ × Row ℕ). on_combination row.0 (value_in values row.0) row.1.parts) (enumerate_from (place + 1 + 1) rows)

      here : slice_get all place ≡ Some row
      here = let at : place ≡ place + 0 = omega arith in ap (slice_get all) at ∙ there 0 row refl

      by : (has : Option ℚ) (parts : Option (List (Entry ℕ))) → row.parts ≡ parts → AllByRecursion (IsOnCombination all) rest →
          AllByRecursion (IsOnCombination all) (cons_option (on_combination (place + 1) has parts) rest)
      by has None is more = more
      by None (Some parts) is more = more
      by (Some v) (Some parts) is more = ((record { positive = omega arith; at_most = omega (arith, slice_get_within all place row here) }, combines), more)
        where
          combines : is_combination all (place + 1) ≡ true
          combines = let at : place + 1 - 1 ≡ place = omega arith in
              ap (λ n. unwrap_or (option_map (λ (r : Row ℕ). is_some r.parts) (slice_get all n)) false) at
              ∙ ap (λ o. unwrap_or (option_map (λ (r : Row ℕ). is_some r.parts) o) false) here ∙ ap is_some is

on-combinations : (rows : List (Row ℕ)) (es : List (Entry ℕ)) → AllByRecursion (IsOnCombination rows) (on_combinations rows es)
on-combinations rows es = on-their-rows rows (column_values rows es) 0 rows (λ k row is. let at : 0 + k ≡ k = omega arith in ap (slice_get rows) at ∙ is)

-- ---- numbers of the deck and on combinations

distinct-append : (xs ys : List ℕ) → IsDistinct nat_eq xs → IsDistinct nat_eq ys → AllByRecursion (λ x. AllByRecursion (λ y. nat_eq x y ≡ false) ys) xs →
    IsDistinct nat_eq (xs ++ ys)
unfolding IsDistinct
distinct-append [] ys first second apart = second
distinct-append (x ∷ xs) ys first second apart = (each-append (λ y. nat_eq x y ≡ false) xs ys first.0 apart.0, distinct-append xs ys first.1 second apart.1)

-- a row that is no combination is none that is one
other-row : (rows : List (Row ℕ)) (m n : ℕ) → is_combination rows m ≡ false → is_combination rows n ≡ true → nat_eq m n ≡ false
other-row rows m n plain combines = by (eqb_tells m n)
  where
    by : ((nat_eq m n ≡ true) × (m ≡ n)) ⊎ ((nat_eq m n ≡ false) × (m ≢ n)) → nat_eq m n ≡ false
    by (inl same) = absurd (cc (plain, combines, ap (is_combination rows) same.1))
    by (inr differ) = differ.0

module _ (rows : List (Row ℕ)) (column : Group (Entry ℕ)) (are : AreEntries (length rows) column.items) where
  pub distinct-coefficients : AllByRecursion (λ (entry : Entry ℕ). IsFalse (is_combination rows entry.row)) column.items →
      IsDistinct nat_eq (map (λ (e : Coefficient). e.row) (coefficients rows column))
  distinct-coefficients plain =
      subst (IsDistinct nat_eq) (sym (map-append (λ (e : Coefficient). e.row) (entered column.items) (on_combinations rows column.items)))
      (distinct-append (map (λ (e : Coefficient). e.row) (entered column.items)) (map (λ (e : Coefficient). e.row) (on_combinations rows column.items))
      (subst (IsDistinct nat_eq)
      (sym (map-map (λ (e : Coefficient). e.row) (λ (entry : Entry ℕ). record { row = entry.row; value = entry.value.value }) column.items)) are.distinct)
      (ascending (column_values rows column.items) 1 rows) (apart column.items plain))
    where
      combined : List Coefficient
      combined = on_combinations rows column.items

      apart : (es : List (Entry ℕ)) → AllByRecursion (λ (entry : Entry ℕ). IsFalse (is_combination rows entry.row)) es
          → AllByRecursion (λ x. AllByRecursion (λ y. nat_eq x y ≡ false) (map (λ (e : Coefficient). e.row) (on_combinations rows column.items)))
          (map (λ (e : Coefficient). e.row) (entered es))
      apart [] plain = tt
      apart (e ∷ es) plain = (
        each-mapped (λ y. nat_eq e.row y ≡ false) (λ (c : Coefficient). c.row) (on_combinations rows column.items)
            (each-change (IsOnCombination rows) (λ (c : Coefficient). nat_eq e.row c.row ≡ false) (λ c on. other-row rows e.row c.row (not_one e plain.0) on.1)
            (on_combinations rows column.items)
            (on-combinations rows column.items)),
        apart es plain.1,
      )
        where
          not_one : (e : Entry ℕ) → IsFalse (is_combination rows e.row) → is_combination rows e.row ≡ false
          not_one e plain = cc plain

  -- what holds of each number that stands on a row of the problem
  pub each-coefficient : (P : Coefficient → Type 0) → ((e : Coefficient) → IsNumberOf (length rows) e.row → P e) →
      AllByRecursion (λ (entry : Entry ℕ). IsNumberOf (length rows) entry.row) column.items → AllByRecursion P (coefficients rows column)
  each-coefficient P holds on_rows =
      each-append P (entered column.items) (on_combinations rows column.items)
      (each-mapped P (λ (entry : Entry ℕ). record { row = entry.row; value = entry.value.value }) column.items
      (each-change (λ (entry : Entry ℕ). IsNumberOf (length rows) entry.row) (λ (entry : Entry ℕ). P (record { row = entry.row; value = entry.value.value }))
      (λ entry number. holds (record { row = entry.row; value = entry.value.value }) number) column.items on_rows))
      (each-change (IsOnCombination rows) P (λ c on. holds c on.0) (on_combinations rows column.items) (on-combinations rows column.items))
