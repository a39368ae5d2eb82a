-- The numbers of a column on combinations: each is the sum of its parts.
use Rattle.std.proofs.Common.{◌≡◌, ℕ, zero, suc, ◌+◌, ◌-◌, ◌<◌, ◌≤◌, ◌≢◌, ◌⊎◌, inl, inr, Bool, true, false, List, [], ◌∷◌, ◌++◌, Option, Some, None, map}
use Rattle.std.proofs.Common.{length, take, slice_get, unwrap_or, nat_eq, refl, ap, ap₂, sym, ◌∙◌, arith, get_or, if◌then◌else◌}
use Rattle.std.specs.List.{enumerate_from, filter_map, cons_option, AllByRecursion}
use Rattle.std.proofs.lemmas.Option.{slice_get_within, slice_get-get_or}
use Rattle.std.proofs.lemmas.Bool.Decides.{eqb_tells}
use Rattle.exact_values.specs.Rational.{ℚ, zero_ℚ, ◌+ℚ◌, ◌*ℚ◌}
use Rattle.exact_values.proofs.RingLaws.{add_assoc, zero-add, add-zero, mul-zero}
use Rattle.lp_definitions.specs.declared.Entry.{Entry as Coefficient}
use Rattle.lp_definitions.specs.LinearProgram.{on_row}
use Rattle.lp_definitions.specs.RatesEvidence.{sum_from}
use Rattle.check_definitions.specs.Steps.{Product, product_of, sum_of}
use Rattle.problem_definitions.specs.Problem.{Row, Entry, Group}
use Rattle.selection_definitions.specs.Limits.{value_on}
use Rattle.selection_definitions.specs.Combinations.{value_in, part_products, sum_if_any, row_value, column_values, on_combination, on_combinations}
use Rattle.selection_definitions.specs.Selection.{entered, coefficients}
use Rattle.selection_laws.specs.Sums.{sum_of_parts}
use Rattle.selection_laws.proofs.Values.{values-there, length-before, values-front}

-- ---- numbers on combinations

-- a value that counts where a row is a combination
abbrev number_for : Option (List (Entry ℕ)) → Option ℚ → ℚ
number_for None has = zero_ℚ
number_for (Some parts) has = unwrap_or has zero_ℚ

module _ (values : List (Option ℚ)) where
  abbrev combined : ℕ → List (Row ℕ) → List Coefficient
  combined first rows = filter_map (λ (row : ℕ × Row ℕ). on_combination row.0 (value_in values row.0) row.1.parts) (enumerate_from first rows)

  other : (number i : ℕ) (has : Option ℚ) (parts : Option (List (Entry ℕ))) (rest : List Coefficient) → nat_eq number i ≡ false
      → on_row (cons_option (on_combination number has parts) rest) i ≡ on_row rest i
  other number i has None rest apart = refl
  other number i None (Some parts) rest apart = refl
  other number i (Some v) (Some parts) rest apart = rw apart refl

  later : (first i : ℕ) (rows : List (Row ℕ)) → i < first → on_row (combined first rows) i ≡ zero_ℚ
  later first i [] below = refl
  later first i (row ∷ rows) below =
      other first i (value_in values first) row.parts (combined (first + 1) rows) (apart (eqb_tells first i)) ∙ later (first + 1) i rows (omega (arith, below))
    where
      apart : ((nat_eq first i ≡ true) × (first ≡ i)) ⊎ ((nat_eq first i ≡ false) × (first ≢ i)) → nat_eq first i ≡ false
      apart (inl same) = absurd (omega (arith, below, same.1))
      apart (inr differ) = differ.0

  on-combined : (first k : ℕ) (rows : List (Row ℕ)) (row : Row ℕ) → slice_get rows k ≡ Some row
      → on_row (combined first rows) (first + k) ≡ number_for row.parts (value_in values (first + k))
  on-combined first k [] row is = absurd (cc is)
  on-combined first zero (other_row ∷ rows) row is =
      let same : other_row ≡ row = cc is in
      let place : first + 0 ≡ first = omega arith in
      rw place (here (value_in values first) other_row.parts ∙ ap (λ (r : Row ℕ). number_for r.parts (value_in values first)) same)
    where
      here : (has : Option ℚ) (parts : Option (List (Entry ℕ))) →
          on_row (cons_option (on_combination first has parts) (combined (first + 1) rows)) first ≡ number_for parts has
      here has None = later (first + 1) first rows (omega arith)
      here None (Some parts) = later (first + 1) first rows (omega arith)
      here (Some v) (Some parts) = found (eqb_tells first first)
        where
          found : ((nat_eq first first ≡ true) × (first ≡ first)) ⊎ ((nat_eq first first ≡ false) × (first ≢ first)) →
              (if nat_eq first first then v else on_row (combined (first + 1) rows) first) ≡ v
          found (inl same) = rw same.0 refl
          found (inr differ) = absurd (differ.1 refl)
  on-combined first (suc k) (other_row ∷ rows) row is =
      let place : first + suc k ≡ first + 1 + k = omega arith in
      other first (first + suc k) (value_in values first) other_row.parts (combined (first + 1) rows) (apart (eqb_tells first (first + suc k)))
      ∙ ap (λ i. on_row (combined (first + 1) rows) i) place
      ∙ on-combined (first + 1) k rows row is
      ∙ ap (λ i. number_for row.parts (value_in values i)) (sym place)
    where
      apart : ((nat_eq first (first + suc k) ≡ true) × (first ≡ first + suc k)) ⊎ ((nat_eq first (first + suc k) ≡ false) × (first ≢ first + suc k)) →
          nat_eq first (first + suc k) ≡ false
      apart (inl same) = absurd (omega (arith, same.1))
      apart (inr differ) = differ.0

-- ---- numbers of the deck

entered-on : (es : List (Entry ℕ)) (i : ℕ) → on_row (entered es) i ≡ unwrap_or (value_on es i) zero_ℚ
entered-on [] i = refl
entered-on (e ∷ es) i = by (entered-on es i) (nat_eq e.row i) refl
  where
    by : on_row (entered es) i ≡ unwrap_or (value_on es i) zero_ℚ → (b : Bool) → nat_eq e.row i ≡ b →
        (if nat_eq e.row i then e.value.value else on_row (entered es) i) ≡ unwrap_or (value_on (e ∷ es) i) zero_ℚ
    by later true is = rw is refl
    by later false is = rw is later

-- the second list has nothing on the row
front-only : (xs ys : List Coefficient) (i : ℕ) → on_row ys i ≡ zero_ℚ → on_row (xs ++ ys) i ≡ on_row xs i
front-only [] ys i none = none
front-only (x ∷ xs) ys i none = ap (λ rest. if nat_eq x.row i then x.value else rest) (front-only xs ys i none)

-- the first list has no entry on the row
back-only : (es : List (Entry ℕ)) (ys : List Coefficient) (i : ℕ) → value_on es i ≡ None → on_row (entered es ++ ys) i ≡ on_row ys i
back-only [] ys i none = refl
back-only (e ∷ es) ys i none = by (λ none. back-only es ys i none) (nat_eq e.row i) refl
  where
    by : (value_on es i ≡ None → on_row (entered es ++ ys) i ≡ on_row ys i) → (b : Bool) → nat_eq e.row i ≡ b →
        (if nat_eq e.row i then e.value.value else on_row (entered es ++ ys) i) ≡ on_row ys i
    by later true is = absurd (cc (none, is))
    by later false is = rw is (later (rest is none))
      where
        rest : nat_eq e.row i ≡ false → value_on (e ∷ es) i ≡ None → value_on es i ≡ None
        rest is none = cc (is, none)

-- ---- sums

sum_from-start : (start : ℚ) (xs : List ℚ) → sum_from start xs ≡ start +ℚ sum_from zero_ℚ xs
sum_from-start start [] = sym (add-zero start)
sum_from-start start (x ∷ xs) =
    sum_from-start (start +ℚ x) xs ∙ add_assoc start x (sum_from zero_ℚ xs)
    ∙ ap (λ s. start +ℚ s) (sym (ap (λ s. sum_from s xs) (zero-add x) ∙ sum_from-start x xs))

sum-of-products : (parts : List (Entry ℕ)) (before : List (Option ℚ))
    → sum_of zero_ℚ (part_products parts before) ≡ sum_of_parts parts (λ row. unwrap_or (value_in before row) zero_ℚ)
sum-of-products [] before = refl
sum-of-products (part ∷ parts) before = by (sum-of-products parts before) (value_in before part.row) refl
  where
    by : sum_of zero_ℚ (part_products parts before) ≡ sum_of_parts parts (λ row. unwrap_or (value_in before row) zero_ℚ) → (v : Option ℚ)
        → value_in before part.row ≡ v
        → sum_of zero_ℚ (part_products (part ∷ parts) before) ≡ part.value.value *ℚ unwrap_or (value_in before part.row) zero_ℚ +ℚ sum_of_parts parts
        (λ row. unwrap_or (value_in before row) zero_ℚ)
    by more None is =
        rw is (more ∙ sym
        (ap (λ s. s +ℚ sum_of_parts parts (λ row. unwrap_or (value_in before row) zero_ℚ)) (mul-zero part.value.value)
        ∙ zero-add (sum_of_parts parts (λ row. unwrap_or (value_in before row) zero_ℚ))))
    by more (Some v) is = rw is (
        ap (λ s. sum_of s (part_products parts before)) (zero-add (part.value.value *ℚ v))
        ∙ sum_from-start (part.value.value *ℚ v) (map product_of (part_products parts before))
        ∙ ap (λ s. part.value.value *ℚ v +ℚ s) more)

pub sum-if-any : (products : List Product) → unwrap_or (sum_if_any products) zero_ℚ ≡ sum_of zero_ℚ products
sum-if-any [] = refl
sum-if-any (product ∷ products) = refl

-- ---- a combination is the sum of its parts

-- the parts of combinations stand on rows before them, and a column has no entries on combinations
pub record IsColumnOf (rows : List (Row ℕ)) (es : List (Entry ℕ)) : Type 0 where
  pub earlier : (place : ℕ) (row : Row ℕ) (parts : List (Entry ℕ)) → slice_get rows place ≡ Some row → row.parts ≡ Some parts →
      AllByRecursion (λ (part : Entry ℕ). (1 ≤ part.row) × (part.row ≤ place)) parts
  pub bare : (place : ℕ) (row : Row ℕ) (parts : List (Entry ℕ)) → slice_get rows place ≡ Some row → row.parts ≡ Some parts → value_on es (place + 1) ≡ None

on-coefficients : (rows : List (Row ℕ)) (column : Group (Entry ℕ)) → IsColumnOf rows column.items → (k : ℕ) (row : Row ℕ) → slice_get rows k ≡ Some row
    → on_row (coefficients rows column) (k + 1) ≡ unwrap_or (value_in (column_values rows column.items) (k + 1)) zero_ℚ
on-coefficients rows column is_column k row is = by row.parts refl
  where
    combined_there : on_row (on_combinations rows column.items) (k + 1) ≡ number_for row.parts (value_in (column_values rows column.items) (k + 1))
    combined_there = let place : k + 1 ≡ 1 + k = omega arith in rw place (on-combined (column_values rows column.items) 1 k rows row is)

    by : (parts : Option (List (Entry ℕ))) → row.parts ≡ parts →
        on_row (coefficients rows column) (k + 1) ≡ unwrap_or (value_in (column_values rows column.items) (k + 1)) zero_ℚ
    by None plain =
        front-only (entered column.items) (on_combinations rows column.items) (k + 1)
        (combined_there ∙ ap (λ parts. number_for parts (value_in (column_values rows column.items) (k + 1))) plain)
        ∙ entered-on column.items (k + 1)
        ∙ ap (λ n. unwrap_or (value_on column.items (n + 1)) zero_ℚ) (sym (length-before column.items rows k (slice_get_within rows k row is)))
        ∙ ap (λ parts. unwrap_or (row_value column.items (column_values (take k rows) column.items) parts) zero_ℚ) (sym plain)
        ∙ ap (λ v. unwrap_or v zero_ℚ) (sym (values-there column.items rows k row is))
    by (Some parts) combines =
        back-only column.items (on_combinations rows column.items) (k + 1) (is_column.bare k row parts is combines)
        ∙ combined_there
        ∙ ap (λ parts. number_for parts (value_in (column_values rows column.items) (k + 1))) combines

pub same-sums : (parts : List (Entry ℕ)) (f g : ℕ → ℚ) → AllByRecursion (λ (part : Entry ℕ). f part.row ≡ g part.row) parts →
    sum_of_parts parts f ≡ sum_of_parts parts g
same-sums [] f g same = refl
same-sums (part ∷ parts) f g same = ap₂ (λ x s. part.value.value *ℚ x +ℚ s) same.0 (same-sums parts f g same.1)

pub adds : (rows : List (Row ℕ)) (column : Group (Entry ℕ)) → IsColumnOf rows column.items → (place : ℕ) (row : Row ℕ) (parts : List (Entry ℕ))
    → slice_get rows place ≡ Some row → row.parts ≡ Some parts
    → on_row (coefficients rows column) (place + 1) ≡ sum_of_parts parts (λ i. on_row (coefficients rows column) i)
adds rows column is_column place row parts is combines =
    on-coefficients rows column is_column place row is
    ∙ ap (λ v. unwrap_or v zero_ℚ)
    (values-there column.items rows place row is ∙ ap (row_value column.items (column_values (take place rows) column.items)) combines)
    ∙ sum-if-any (part_products parts (column_values (take place rows) column.items))
    ∙ sum-of-products parts (column_values (take place rows) column.items)
    ∙ same-sums parts (λ i. unwrap_or (value_in (column_values (take place rows) column.items) i) zero_ℚ) (λ i. on_row (coefficients rows column) i)
    (each parts (is_column.earlier place row parts is combines))
  where
    within : place < length rows
    within = slice_get_within rows place row is

    at : (i : ℕ) → (1 ≤ i) × (i ≤ place) → unwrap_or (value_in (column_values (take place rows) column.items) i) zero_ℚ ≡ on_row (coefficients rows column) i
    at i bounds =
        let number : i - 1 + 1 ≡ i = omega (arith, bounds.0) in
        let there : slice_get rows (i - 1) ≡ Some (get_or rows (i - 1) row) = slice_get-get_or rows (i - 1) row (omega (arith, bounds, within)) in
        ap (λ v. unwrap_or v zero_ℚ) (sym (values-front column.items rows place (i - 1) (omega (arith, within)) (omega (arith, bounds))))
        ∙ ap (λ n. unwrap_or (value_in (column_values rows column.items) n) zero_ℚ) (sym number)
        ∙ sym (on-coefficients rows column is_column (i - 1) (get_or rows (i - 1) row) there)
        ∙ ap (on_row (coefficients rows column)) number

    each : (parts : List (Entry ℕ)) → AllByRecursion (λ (part : Entry ℕ). (1 ≤ part.row) × (part.row ≤ place)) parts
        → AllByRecursion
        (λ (part : Entry ℕ). unwrap_or (value_in (column_values (take place rows) column.items) part.row) zero_ℚ ≡ on_row
        (coefficients rows column) part.row) parts
    each [] bounds = tt
    each (part ∷ parts) bounds = (at part.row bounds.0, each parts bounds.1)
