-- What changes along a parametric run: an N row, or the rows' values in a right-hand side set.
use Rattle.std.specs.Prelude.{◌≡◌, ℕ, List, map, Option, Some, None, Ok, if◌then◌else◌}
use Rattle.std.specs.List.{enumerate_from}
use Rattle.exact_values.specs.Rational.{ℚ}
use Rattle.lp_definitions.specs.LinearProgram.{LinearProgram, IsRow, HasNoLimits}
use Rattle.problem_definitions.specs.Names.{Name, number_in}
use Rattle.problem_definitions.specs.Problem.{Problem, row_names, has_free_row, has_group}
use Rattle.problem_definitions.specs.Groups.{items_of}
use Rattle.selection_definitions.specs.Choice.{Choice}
use Rattle.selection_definitions.specs.Selection.{selected}
use Rattle.selection_definitions.specs.Programs.{side_on}

-- the number of the N row of this name, if there is one
abbrev pub free_row_number : Problem ℕ → Name → Option ℕ
free_row_number problem name = if has_free_row problem.rows name then Some (number_in (row_names problem) name) else None

-- the row has no limits in each linear program that is selected of the problem
abbrev pub IsFreeIn : Problem ℕ → ℕ → Type 0
IsFreeIn problem row = (choice : Choice) (lp : LinearProgram) → selected problem choice ≡ Ok lp → IsRow lp.matrix row × HasNoLimits lp row

-- each row's value in the right-hand side set of this name, or 0
abbrev pub values_in : Problem ℕ → Name → List ℚ
values_in problem name = map (λ row. side_on (items_of name problem.rhs) row.0) (enumerate_from 1 problem.rows)

-- the same, if there is such a set
abbrev pub set_values : Problem ℕ → Name → Option (List ℚ)
set_values problem name = if has_group problem.rhs name then Some (values_in problem name) else None
