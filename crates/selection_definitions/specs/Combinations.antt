-- The values that a column has on combinations: rows that are the sums of multiples of rows before them.
--     part_products parts before       the products of a combination, from what a column has on the rows before
--     column_values rows entries       what a column has on each row, if it has a value there
--     on_combinations rows entries     the numbers of a column on the combinations
use Rattle.std.specs.Prelude.{ℕ, ◌+◌, ◌-◌, List, [], ◌∷◌, ◌++◌, Option, Some, None, option_map, length, fold, filter_map, slice_index_or}
use Rattle.std.specs.List.{enumerate_from}
use Rattle.exact_values.specs.Rational.{ℚ, zero_ℚ}
use Rattle.lp_definitions.specs.declared.Entry.{Entry as Coefficient}
use Rattle.check_definitions.specs.Steps.{Product, sum_of}
use Rattle.problem_definitions.specs.Problem.{Row, Entry}
use Rattle.selection_definitions.specs.Limits.{value_on}

-- the value on the row of a number, if there is one, in a list with the values of the rows in order
abbrev pub value_in : List (Option ℚ) → ℕ → Option ℚ
value_in values row = slice_index_or values (row - 1) None

-- A part is its multiplier times what the column has on the part's row. A part adds nothing where the column has no value there.
abbrev pub part_product : List (Option ℚ) → Entry ℕ → Option Product
part_product before part = option_map (λ value. record { left = part.value.value; right = value }) (value_in before part.row)

-- the parts that add something, in their order
abbrev pub part_products : List (Entry ℕ) → List (Option ℚ) → List Product
part_products parts before = filter_map (part_product before) parts

-- The sum of products, where there is one. It may be 0.
abbrev pub sum_if_any : List Product → Option ℚ
sum_if_any [] = None
sum_if_any (product ∷ products) = Some (sum_of zero_ℚ (product ∷ products))

-- What a column has on the row after those before: on a plain row the value of its entry there, and on a combination the sum of
-- its parts. Since a combination is a row too, a part may stand on one.
abbrev pub row_value : List (Entry ℕ) → List (Option ℚ) → Option (List (Entry ℕ)) → Option ℚ
row_value entries before None = value_on entries (length before + 1)
row_value entries before (Some parts) = sum_if_any (part_products parts before)

-- what a column of these entries has on each of the rows, one row after the other
abbrev pub column_values : List (Row ℕ) → List (Entry ℕ) → List (Option ℚ)
column_values rows entries = fold (λ before row. before ++ row_value entries before row.parts ∷ []) [] rows

-- the number of a column on the row of this number, where the row is a combination and the column has this value there
abbrev pub on_combination : ℕ → Option ℚ → Option (List (Entry ℕ)) → Option Coefficient
on_combination number has None = None
on_combination number has (Some parts) = option_map (λ value. record { row = number; value = value }) has

-- the numbers of a column on the combinations, by the numbers of their rows
abbrev pub on_combinations : List (Row ℕ) → List (Entry ℕ) → List Coefficient
on_combinations rows entries = filter_map (λ row. on_combination row.0 (value_in (column_values rows entries) row.0) row.1.parts) (enumerate_from 1 rows)
