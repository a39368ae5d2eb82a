-- What is selected of a lawful problem.
use Rattle.std.specs.Prelude.{◌≡◌, ℕ, Some, Ok}
use Rattle.lp_definitions.specs.LinearProgram.{LinearProgram, IsLinearProgram}
use Rattle.problem_definitions.specs.Names.{Name}
use Rattle.problem_definitions.specs.Problem.{Problem}
use Rattle.problem_definitions.specs.Valid.{IsProblem}
use Rattle.selection_definitions.specs.Choice.{Choice}
use Rattle.selection_definitions.specs.Selection.{selected}
use Rattle.selection_definitions.specs.Changes.{free_row_number, IsFreeIn}

-- What a choice selects of a lawful problem is a linear program.
abbrev pub SelectsLinearPrograms : Type 0
SelectsLinearPrograms = (problem : Problem ℕ) (choice : Choice) (lp : LinearProgram) → IsProblem problem → selected problem choice ≡ Ok lp → IsLinearProgram lp

-- And in each linear program that is selected of it the N row of a name is a row without limits.
abbrev pub LeavesFreeRowsFree : Type 0
LeavesFreeRowsFree = (problem : Problem ℕ) (name : Name) (row : ℕ) → IsProblem problem → free_row_number problem name ≡ Some row → IsFreeIn problem row
