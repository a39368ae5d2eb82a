-- A combination is the sum of its parts.
use Rattle.std.specs.Prelude.{◌≡◌, ℕ, ◌+◌, List, [], ◌∷◌, Some, slice_get}
use Rattle.exact_values.specs.Rational.{ℚ, zero_ℚ, ◌+ℚ◌, ◌*ℚ◌}
use Rattle.lp_definitions.specs.LinearProgram.{Vector, KeepsEquations, entry}
use Rattle.problem_definitions.specs.Problem.{Row, Entry, Problem}
use Rattle.problem_definitions.specs.Valid.{IsProblem}
use Rattle.selection_definitions.specs.Selection.{matrix_of}

-- the sum of the multipliers of parts, each times f at its row
abbrev pub sum_of_parts : List (Entry ℕ) → (ℕ → ℚ) → ℚ
sum_of_parts [] f = zero_ℚ
sum_of_parts (part ∷ parts) f = part.value.value *ℚ f part.row +ℚ sum_of_parts parts f

-- The number of each column on a combination is the sum of its parts' multipliers, each times the column's number on the part's row.
abbrev pub AddsNumbers : Type 0
AddsNumbers =
    (problem : Problem ℕ) (place column : ℕ) (row : Row ℕ) (parts : List (Entry ℕ)) →
    IsProblem problem → slice_get problem.rows place ≡ Some row → row.parts ≡ Some parts →
    entry (matrix_of problem) (place + 1) column ≡ sum_of_parts parts (λ i. entry (matrix_of problem) i column)

-- And so is its activity, at every point that keeps the equations.
abbrev pub AddsActivities : Type 0
AddsActivities =
    (problem : Problem ℕ) (place : ℕ) (row : Row ℕ) (parts : List (Entry ℕ)) (z : Vector) →
    IsProblem problem → slice_get problem.rows place ≡ Some row → row.parts ≡ Some parts → KeepsEquations (matrix_of problem) z →
    z (place + 1) ≡ sum_of_parts parts z
