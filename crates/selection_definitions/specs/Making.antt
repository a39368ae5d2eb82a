-- The operations that a selection makes, in order: the sum that the range of a row makes, row by row; and then the products and sums of
-- each combination, column by column.
--     selection_steps problem choice   these operations
--     is_made problem choice           none of them is refused
use Rattle.std.specs.Prelude.{ℕ, Bool, true, false, List, [], ◌∷◌, ◌++◌, Option, Some, None, take}
use Rattle.std.specs.List.{flat_map, enumerate_from}
use Rattle.exact_values.specs.Rational.{ℚ, zero_ℚ}
use Rattle.exact_values.specs.Tests.{magnitude}
use Rattle.frac128.specs.declared.Op.{Op}
use Rattle.check_definitions.specs.declared.Verdict.{Verdict}
use Rattle.check_definitions.specs.declared.Verdict.TheVariants.{Checked, Failed, Unchecked}
use Rattle.check_definitions.specs.Steps.{Step, operation, verdict_of, sum_steps}
use Rattle.problem_definitions.specs.declared.RowKind.{RowKind}
use Rattle.problem_definitions.specs.Problem.{Row, Entry, Group, Problem}
use Rattle.selection_definitions.specs.Choice.{Choice}
use Rattle.selection_definitions.specs.Combinations.{part_products, column_values}
use Rattle.selection_definitions.specs.Limits.{range_operation}
use Rattle.selection_definitions.specs.Selection.{rhs_of, range_of}

-- the magnitude of a range is added to the right-hand side, or subtracted from it, or neither
abbrev pub sum_with : Option Op → ℚ → ℚ → List Step
sum_with None rhs range = []
sum_with (Some op) rhs range = operation op rhs (magnitude range) ∷ []

-- what the range of a row makes, if it has one
abbrev pub range_steps : RowKind → ℚ → Option ℚ → List Step
range_steps kind rhs None = []
range_steps kind rhs (Some range) = sum_with (range_operation kind range) rhs range

-- what a row makes in a column of these entries, from what the column has on the rows before: a combination adds up its products, and a
-- plain row makes nothing
abbrev pub combination_steps : List (Row ℕ) → List (Entry ℕ) → Option (List (Entry ℕ)) → List Step
combination_steps before entries None = []
combination_steps before entries (Some parts) = sum_steps zero_ℚ (part_products parts (column_values before entries))

-- no step has stopped
abbrev pub is_checked : Verdict → Bool
is_checked Checked = true
is_checked (Failed part number) = false
is_checked (Unchecked refused) = false

module _ (problem : Problem ℕ) where
  abbrev pub column_steps : Group (Entry ℕ) → List Step
  column_steps column = flat_map (λ row. combination_steps (take row.0 problem.rows) column.items row.1.parts) (enumerate_from 0 problem.rows)

  module _ (choice : Choice) where
    abbrev pub row_steps : List Step
    row_steps = flat_map (λ row. range_steps row.1.kind (rhs_of problem choice row.0) (range_of problem choice row.0)) (enumerate_from 1 problem.rows)

    abbrev pub selection_steps : List Step
    selection_steps = row_steps ++ flat_map column_steps problem.columns

    unfoldable pub is_made : Bool
    is_made = is_checked (verdict_of selection_steps)
