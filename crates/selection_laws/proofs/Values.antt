-- What a column has on each row, one row after the other.
use Rattle.std.proofs.Common.{◌≡◌, ℕ, zero, suc, ◌+◌, ◌-◌, ◌<◌, ◌≤◌, List, [], ◌∷◌, ◌++◌, Option, Some, None, length, take, drop, fold, slice_get}
use Rattle.std.proofs.Common.{slice_index_or, refl, ap, sym, ◌∙◌, arith, length-append, length-take, take-append-drop}
use Rattle.std.proofs.lemmas.List.Sums.{fold-append}
use Rattle.exact_values.specs.Rational.{ℚ}
use Rattle.problem_definitions.specs.Problem.{Row, Entry}
use Rattle.selection_definitions.specs.Combinations.{value_in, row_value, column_values}

-- ---- places of lists

pub at-front : {X : Type 0} (xs ys : List X) (k : ℕ) (d : X) → k < length xs → slice_index_or (xs ++ ys) k d ≡ slice_index_or xs k d
at-front [] ys k d below = absurd (omega (arith, below))
at-front (x ∷ xs) ys zero d below = refl
at-front (x ∷ xs) ys (suc k) d below = at-front xs ys k d (omega (arith, below))

at-next : {X : Type 0} (xs ys : List X) (y d : X) → slice_index_or (xs ++ y ∷ ys) (length xs) d ≡ y
at-next [] ys y d = refl
at-next (x ∷ xs) ys y d = at-next xs ys y d

-- ---- what a column has on each row

module _ (es : List (Entry ℕ)) where
  -- what a column has on more rows, after the values that it has on those before
  abbrev pub values_after : List (Option ℚ) → List (Row ℕ) → List (Option ℚ)
  values_after before rows = fold (λ before row. before ++ row_value es before row.parts ∷ []) before rows

  pub values-length : (before : List (Option ℚ)) (rows : List (Row ℕ)) → length (values_after before rows) ≡ length before + length rows
  values-length before [] = omega arith
  values-length before (row ∷ rows) =
      omega (arith, values-length (before ++ row_value es before row.parts ∷ []) rows, length-append before (row_value es before row.parts ∷ []))

  pub values-kept : (before : List (Option ℚ)) (rows : List (Row ℕ)) (k : ℕ) → k < length before →
      slice_index_or (values_after before rows) k None ≡ slice_index_or before k None
  values-kept before [] k below = refl
  values-kept before (row ∷ rows) k below =
      values-kept (before ++ row_value es before row.parts ∷ []) rows k (omega (arith, below, length-append before (row_value es before row.parts ∷ [])))
      ∙ at-front before (row_value es before row.parts ∷ []) k None below

  -- on the k-th of those rows it has its row's value, from what it has before
  pub values-at : (before : List (Option ℚ)) (rows : List (Row ℕ)) (k : ℕ) (row : Row ℕ) → slice_get rows k ≡ Some row
      → slice_index_or (values_after before rows) (length before + k) None ≡ row_value es (values_after before (take k rows)) row.parts
  values-at before [] k row is = absurd (cc is)
  values-at before (first ∷ rows) zero row is =
      let same : first ≡ row = cc is in
      let place : length before + 0 ≡ length before = omega arith in
      ap (λ k. slice_index_or (values_after (before ++ row_value es before first.parts ∷ []) rows) k None) place
      ∙ values-kept (before ++ row_value es before first.parts ∷ []) rows (length before)
      (omega (arith, length-append before (row_value es before first.parts ∷ [])))
      ∙ at-next before [] (row_value es before first.parts) None
      ∙ ap (λ (r : Row ℕ). row_value es before r.parts) same
  values-at before (first ∷ rows) (suc k) row is =
      let place : length before + suc k ≡ length (before ++ row_value es before first.parts ∷ []) + k =
      omega (arith, length-append before (row_value es before first.parts ∷ [])) in
      ap (λ n. slice_index_or (values_after (before ++ row_value es before first.parts ∷ []) rows) n None) place
      ∙ values-at (before ++ row_value es before first.parts ∷ []) rows k row is

pub values-there : (es : List (Entry ℕ)) (rows : List (Row ℕ)) (k : ℕ) (row : Row ℕ) → slice_get rows k ≡ Some row
    → value_in (column_values rows es) (k + 1) ≡ row_value es (column_values (take k rows) es) row.parts
values-there es rows k row is =
    let place : k + 1 - 1 ≡ 0 + k = omega arith in ap (λ n. slice_index_or (column_values rows es) n None) place ∙ values-at es [] rows k row is

pub length-before : (es : List (Entry ℕ)) (rows : List (Row ℕ)) (k : ℕ) → k < length rows → length (column_values (take k rows) es) ≡ k
length-before es rows k below = omega (arith, values-length es [] (take k rows), length-take k rows, below)

pub values-front : (es : List (Entry ℕ)) (rows : List (Row ℕ)) (place k : ℕ) → place ≤ length rows → k < place
    → slice_index_or (column_values rows es) k None ≡ slice_index_or (column_values (take place rows) es) k None
values-front es rows place k within below =
    ap (λ all. slice_index_or (column_values all es) k None) (sym (take-append-drop place rows))
    ∙ ap (λ values. slice_index_or values k None)
    (fold-append (λ before (row : Row ℕ). before ++ row_value es before row.parts ∷ []) [] (take place rows) (drop place rows))
    ∙ values-kept es (column_values (take place rows) es) (drop place rows) k
    (omega (arith, below, within, values-length es [] (take place rows), length-take place rows))
