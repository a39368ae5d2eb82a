-- A combination is the sum of its parts: its numbers, and its activity.
use Rattle.std.proofs.Common.{◌≡◌, ℕ, zero, suc, ◌+◌, ◌-◌, ◌<◌, ◌≤◌, List, [], ◌∷◌, Some, map, length, slice_get, slice_index_or, refl, ap, ap₂, sym, ◌∙◌}
use Rattle.std.proofs.Common.{arith}
use Rattle.std.specs.List.{AllByRecursion}
use Rattle.std.proofs.lemmas.Option.{slice_get_within}
use Rattle.exact_values.specs.Rational.{ℚ, zero_ℚ, ◌+ℚ◌, ◌*ℚ◌}
use Rattle.exact_values.specs.Sums.{sum_to}
use Rattle.exact_values.proofs.RingLaws.{zero-add, mul-zero, zero-mul, add-mul, mul_assoc}
use Rattle.exact_values.proofs.Sums.{sum_to-same, sum_to-zero, sum_to-add, sum_to-mul_left}
use Rattle.lp_definitions.specs.LinearProgram.{on_row, entry, Vector, KeepsEquations}
use Rattle.problem_definitions.specs.Problem.{Row, Entry, Group, Problem}
use Rattle.selection_definitions.specs.Selection.{coefficients, matrix_of}
use Rattle.selection_laws.specs.Sums.{sum_of_parts}
use Rattle.selection_laws.proofs.Columns.{IsColumnOf, same-sums, adds}

no-sum : (parts : List (Entry ℕ)) → sum_of_parts parts (λ i. zero_ℚ) ≡ zero_ℚ
no-sum [] = refl
no-sum (part ∷ parts) = ap₂ ◌+ℚ◌ (mul-zero part.value.value) (no-sum parts) ∙ zero-add zero_ℚ

-- the sums of a list of columns, whichever is taken; a column that isn't there has nothing
in-columns : (rows : List (Row ℕ)) (columns : List (Group (Entry ℕ))) → AllByRecursion (λ (column : Group (Entry ℕ)). IsColumnOf rows column.items) columns
    → (place : ℕ) (row : Row ℕ) (parts : List (Entry ℕ)) → slice_get rows place ≡ Some row → row.parts ≡ Some parts → (k : ℕ)
    → on_row (slice_index_or (map (coefficients rows) columns) k []) (place + 1) ≡ sum_of_parts parts
    (λ i. on_row (slice_index_or (map (coefficients rows) columns) k []) i)
in-columns rows [] are place row parts is combines k = sym (no-sum parts)
in-columns rows (column ∷ columns) are place row parts is combines zero = adds rows column are.0 place row parts is combines
in-columns rows (column ∷ columns) are place row parts is combines (suc k) = in-columns rows columns are.1 place row parts is combines k

pub adds-numbers : (problem : Problem ℕ) → AllByRecursion (λ (column : Group (Entry ℕ)). IsColumnOf problem.rows column.items) problem.columns
    → (place column : ℕ) (row : Row ℕ) (parts : List (Entry ℕ)) → slice_get problem.rows place ≡ Some row → row.parts ≡ Some parts
    → entry (matrix_of problem) (place + 1) column ≡ sum_of_parts parts (λ i. entry (matrix_of problem) i column)
adds-numbers problem are place column row parts is combines = in-columns problem.rows problem.columns are place row parts is combines (column - 1)

-- a sum of products with sums of parts is the sum of the parts' sums of products
exchanged : (n : ℕ) (parts : List (Entry ℕ)) (a : ℕ → ℕ → ℚ) (w : ℕ → ℚ)
    → sum_to n (λ j. sum_of_parts parts (λ i. a i j) *ℚ w j) ≡ sum_of_parts parts (λ i. sum_to n (λ j. a i j *ℚ w j))
exchanged n [] a w = sum_to-zero n (λ j. zero_ℚ *ℚ w j) (λ j below. zero-mul (w j))
exchanged n (part ∷ parts) a w =
    sum_to-same n (λ j. sum_of_parts (part ∷ parts) (λ i. a i j) *ℚ w j)
    (λ j. part.value.value *ℚ (a part.row j *ℚ w j) +ℚ sum_of_parts parts (λ i. a i j) *ℚ w j)
    (λ j below. add-mul (part.value.value *ℚ a part.row j) (sum_of_parts parts (λ i. a i j)) (w j)
    ∙ ap (λ x. x +ℚ sum_of_parts parts (λ i. a i j) *ℚ w j) (mul_assoc part.value.value (a part.row j) (w j)))
    ∙ sum_to-add n (λ j. part.value.value *ℚ (a part.row j *ℚ w j)) (λ j. sum_of_parts parts (λ i. a i j) *ℚ w j)
    ∙ ap₂ ◌+ℚ◌ (sum_to-mul_left n part.value.value (λ j. a part.row j *ℚ w j)) (exchanged n parts a w)

pub adds-activities : (problem : Problem ℕ) → AllByRecursion (λ (column : Group (Entry ℕ)). IsColumnOf problem.rows column.items) problem.columns
    → (place : ℕ) (row : Row ℕ) (parts : List (Entry ℕ)) (z : Vector) → slice_get problem.rows place ≡ Some row → row.parts ≡ Some parts
    → AllByRecursion (λ (part : Entry ℕ). (1 ≤ part.row) × (part.row ≤ place)) parts → KeepsEquations (matrix_of problem) z
    → z (place + 1) ≡ sum_of_parts parts z
adds-activities problem are place row parts z is combines earlier keeps =
    keeps (place + 1) (omega arith, omega (arith, within))
    ∙ sum_to-same columns (λ j. entry (matrix_of problem) (place + 1) (suc j) *ℚ w j)
    (λ j. sum_of_parts parts (λ i. entry (matrix_of problem) i (suc j)) *ℚ w j)
    (λ j below. ap (λ x. x *ℚ w j) (adds-numbers problem are place (suc j) row parts is combines))
    ∙ exchanged columns parts (λ i j. entry (matrix_of problem) i (suc j)) w
    ∙ same-sums parts (λ i. sum_to columns (λ j. entry (matrix_of problem) i (suc j) *ℚ w j)) z (each parts earlier)
  where
    columns : ℕ
    columns = length problem.columns

    w : ℕ → ℚ
    w j = z (length problem.rows + suc j)

    within : place < length problem.rows
    within = slice_get_within problem.rows place row is

    each : (parts : List (Entry ℕ)) → AllByRecursion (λ (part : Entry ℕ). (1 ≤ part.row) × (part.row ≤ place)) parts
        → AllByRecursion (λ (part : Entry ℕ). sum_to columns (λ j. entry (matrix_of problem) part.row (suc j) *ℚ w j) ≡ z part.row) parts
    each [] bounds = tt
    each (part ∷ parts) bounds = (sym (keeps part.row (bounds.0.0, omega (arith, bounds.0.1, within))), each parts bounds.1)
