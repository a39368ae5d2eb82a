-- The lines of the tables that are printed of a linear program.
--     name_of problem k            the name of variable k
--     at_of p s z k                where a variable stands, as it is printed
--     lines_of problem values ks   a line for each of these variables
--     part_values p part k         what is printed of a variable in an interval of a parametric run
use Rattle.std.specs.Prelude.{ℕ, ◌+◌, ◌-◌, Bool, false, not, ◌&&◌, nat_eq, List, [], ◌∷◌, ◌++◌, map, filter, if◌then◌else◌}
use Rattle.exact_values.specs.Rational.{ℚ, zero_ℚ}
use Rattle.exact_values.specs.Tests.{eq_ℚ}
use Rattle.lp_definitions.specs.LinearProgram.{LinearProgram, Vector, value_at, numbers_from, variables, lower_of, upper_of, cost}
use Rattle.lp_definitions.specs.Basis.{is_basic, status_of}
use Rattle.lp_definitions.specs.declared.Status.{Status}
use Rattle.lp_definitions.specs.declared.Status.TheVariants.{Bs, Ll, Ul, Fr}
use Rattle.simplex_definitions.specs.Moves.{is_fixed, is_outside}
use Rattle.problem_definitions.specs.Names.{Name, name_at}
use Rattle.problem_definitions.specs.Problem.{Problem, row_names, group_names}
use Rattle.listing_definitions.specs.declared.At.{At}
use Rattle.listing_definitions.specs.declared.At.TheVariants.{Basic, Outside, Equal, Lower, Upper, Free}
use Rattle.listing_definitions.specs.Report.{Value, Code, Number, limit_value, Line, SolutionLines, RangeLines}
use Rattle.lp_model.specs.declared.reports.ParaPart.{ParaPart}
use Rattle.lp_model.specs.declared.reports.RangeReport.{RangeReport}
use Rattle.listing_tables.specs.Intervals.{ends_at}

-- the variables are the rows, and then the columns
abbrev pub name_of : Problem ℕ → ℕ → Name
name_of problem k = name_at (row_names problem ++ group_names problem.columns) k

-- where a variable of a status stands: a basic may be outside its limits, and the limits of a nonbasic may be equal
abbrev pub at_by : Status → Bool → Bool → At
at_by Bs outside fixed = if outside then Outside else Basic
at_by Ll outside fixed = if fixed then Equal else Lower
at_by Ul outside fixed = if fixed then Equal else Upper
at_by Fr outside fixed = if fixed then Equal else Free

abbrev pub at_of : LinearProgram → List Status → Vector → ℕ → At
at_of p s z k = at_by (status_of s k) (is_outside p z k) (is_fixed p k)

abbrev pub line_of : Problem ℕ → (ℕ → List Value) → ℕ → Line
line_of problem values k = record { number = k; name = name_of problem k; values = values k }

abbrev pub lines_of : Problem ℕ → (ℕ → List Value) → List ℕ → List Line
lines_of problem values numbers = map (line_of problem values) numbers

-- a variable's values in two vectors
abbrev pub pair_values : List ℚ → List ℚ → ℕ → List Value
pair_values first second k = Number (value_at first k) ∷ Number (value_at second k) ∷ []

-- a line for each variable
abbrev pub pair_lines : Problem ℕ → LinearProgram → List ℚ → List ℚ → List Line
pair_lines problem p first second = lines_of problem (pair_values first second) (variables p.matrix)

abbrev pub multiplier_values : List ℚ → ℕ → List Value
multiplier_values ray k = Number (value_at ray k) ∷ []

-- a line for each variable with a multiplier other than 0
abbrev pub ray_lines : Problem ℕ → LinearProgram → List ℚ → List Line
ray_lines problem p ray = lines_of problem (multiplier_values ray) (filter (λ k. not (eq_ℚ (value_at ray k) zero_ℚ)) (variables p.matrix))

-- Where a variable stands, its activity, a third value, its limits, and its multiplier or reduced cost.
abbrev pub standing_values : LinearProgram → List Status → List ℚ → List ℚ → ℚ → ℕ → List Value
standing_values p s point prices third k =
    Code (at_of p s (value_at point) k) ∷ Number (value_at point k) ∷ Number third ∷
    limit_value (lower_of p k) ∷ limit_value (upper_of p k) ∷ Number (value_at prices k) ∷ []

-- the third value of a row is its slack
abbrev pub row_values : LinearProgram → List Status → List ℚ → List ℚ → List ℚ → ℕ → List Value
row_values p s point slack prices k = standing_values p s point prices (value_at slack k) k

-- the third value of a column is its cost
abbrev pub column_values : LinearProgram → List Status → List ℚ → List ℚ → ℕ → List Value
column_values p s point prices k = standing_values p s point prices (cost p (k - p.rows)) k

-- a line for each row, and one for each column
abbrev pub solution_lines : Problem ℕ → LinearProgram → List Status → List ℚ → List ℚ → List ℚ → SolutionLines
solution_lines problem p s point prices slack = record {
  rows = lines_of problem (row_values p s point slack prices) (numbers_from 1 p.rows);
  columns = lines_of problem (column_values p s point prices) (numbers_from (p.rows + 1) p.cols);
}

-- Where k stands in an interval of a parametric run, as far as its basis alone tells it: a basic is within its limits at each
-- value of an interval. Then its value and its price, each with its rate.
abbrev pub part_values : LinearProgram → ParaPart → ℕ → List Value
part_values p part k =
    Code (at_by (status_of part.statuses k) false (is_fixed p k)) ∷ Number (value_at part.value k) ∷ Number (value_at part.value_rate k) ∷
    Number (value_at part.price k) ∷ Number (value_at part.price_rate k) ∷ []

-- the nonbasics, and the basics other than the objective
abbrev pub stands_at_limit : List Status → ℕ → Bool
stands_at_limit s k = not (is_basic (status_of s k))

abbrev pub stands_between : LinearProgram → List Status → ℕ → Bool
stands_between p s k = is_basic (status_of s k) && not (nat_eq k p.objective)

module _ (p : LinearProgram) (s : List Status) (point : List ℚ) (report : RangeReport) where
  -- where a variable stands, its activity, and then other values
  abbrev pub ranged_values : (ℕ → List Value) → ℕ → List Value
  ranged_values values k = Code (at_of p s (value_at point) k) ∷ Number (value_at point k) ∷ values k

  -- the cost of a column, and the ends of its interval
  abbrev pub cost_values : ℕ → List Value
  cost_values k = Number (cost p (k - p.rows)) ∷ ends_at report.costs k

  abbrev pub limit_row_values : ℕ → List Value
  limit_row_values k = ranged_values (ends_at report.limits) k

  abbrev pub limit_column_values : ℕ → List Value
  limit_column_values k = ranged_values (λ k. ends_at report.limits k ++ cost_values k) k

  abbrev pub between_row_values : ℕ → List Value
  between_row_values k = ranged_values (ends_at report.rows) k

  abbrev pub between_column_values : ℕ → List Value
  between_column_values k = ranged_values cost_values k

  -- a line for each nonbasic row and column, and one for each basic row and column but the objective
  abbrev pub range_lines : Problem ℕ → RangeLines
  range_lines problem = record {
    rows_at_limit = lines_of problem limit_row_values (filter (stands_at_limit s) (numbers_from 1 p.rows));
    columns_at_limit = lines_of problem limit_column_values (filter (stands_at_limit s) (numbers_from (p.rows + 1) p.cols));
    rows_between = lines_of problem between_row_values (filter (stands_between p s) (numbers_from 1 p.rows));
    columns_between = lines_of problem between_column_values (filter (stands_between p s) (numbers_from (p.rows + 1) p.cols));
  }
