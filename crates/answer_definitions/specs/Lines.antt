-- Table lines of vectors.
--     name_of sheet k              the name of variable k
--     at_of, standing p s k        where a variable stands, as it is printed
--     lines_of sheet numbers values        a line for each of these variables
use Rattle.std.specs.Prelude.{ℕ, ◌+◌, not, List, [], ◌∷◌, ◌++◌, map, filter, if◌then◌else◌}
use Rattle.exact_values.specs.Rational.{ℚ, zero_ℚ}
use Rattle.exact_values.specs.Tests.{eq_ℚ}
use Rattle.lp_definitions.specs.LinearProgram.{LinearProgram, Vector, value_at, variables, numbers_from}
use Rattle.lp_definitions.specs.Basis.{status_of}
use Rattle.lp_definitions.specs.declared.Status.{Status}
use Rattle.lp_definitions.specs.declared.Status.TheVariants.{Bs, Ll, Ul, Fr}
use Rattle.simplex_definitions.specs.Moves.{is_fixed, is_outside}
use Rattle.problem_definitions.specs.Names.{Name, name_at}
use Rattle.problem_definitions.specs.Problem.{row_names, group_names}
use Rattle.listing_definitions.specs.declared.At.{At}
use Rattle.listing_definitions.specs.declared.At.TheVariants.{Basic, Outside, Equal, Lower, Upper, Free}
use Rattle.listing_definitions.specs.Report.{Value, Number, Line}
use Rattle.question_definitions.specs.Answers.{Basis, Sheet}

-- the numbers of the rows, and of the columns after them
abbrev pub row_numbers : LinearProgram → List ℕ
row_numbers p = numbers_from 1 p.rows

abbrev pub column_numbers : LinearProgram → List ℕ
column_numbers p = numbers_from (p.rows + 1) p.cols

-- the variables are the rows, and then the columns
abbrev pub name_of : Sheet → ℕ → Name
name_of sheet k = name_at (row_names sheet.problem ++ group_names sheet.problem.columns) k

-- where a nonbasic stands: its limits may be equal
abbrev pub nonbasic_at : Status → At
nonbasic_at Bs = Basic
nonbasic_at Ll = Lower
nonbasic_at Ul = Upper
nonbasic_at Fr = Free

-- where a variable of a basis stands, as far as the basis alone tells it
abbrev pub standing : LinearProgram → Basis → ℕ → At
standing p s k = by (status_of s k)
  where
    by : Status → At
    by Bs = Basic
    by status = if is_fixed p k then Equal else nonbasic_at status

-- where it stands at the basis's point: a basic may be outside its limits
abbrev pub at_of : LinearProgram → Basis → Vector → ℕ → At
at_of p s z k = by (status_of s k)
  where
    by : Status → At
    by Bs = if is_outside p z k then Outside else Basic
    by status = standing p s k

-- a line for each of these variables
abbrev pub lines_of : Sheet → (ℕ → List Value) → List ℕ → List Line
lines_of sheet values numbers = map (λ k. record { number = k; name = name_of sheet k; values = values k }) numbers

-- a line for each variable, with its values in two vectors
abbrev pub pair_lines : Sheet → List ℚ → List ℚ → List Line
pair_lines sheet first second = lines_of sheet (λ k. Number (value_at first k) ∷ Number (value_at second k) ∷ []) (variables sheet.lp.matrix)

-- a line for each variable with a multiplier other than 0
abbrev pub ray_lines : Sheet → List ℚ → List Line
ray_lines sheet ray =
    lines_of sheet (λ k. Number (value_at ray k) ∷ []) (filter (λ k. not (eq_ℚ (value_at ray k) zero_ℚ)) (variables sheet.lp.matrix))
