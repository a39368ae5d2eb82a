-- The linear program of an objective row and of the items of the sets that apply.
use Rattle.std.specs.Prelude.{ℕ, List, ◌++◌, None, map, unwrap_or}
use Rattle.std.specs.List.{enumerate_from}
use Rattle.exact_values.specs.Rational.{ℚ, zero_ℚ}
use Rattle.lp_definitions.specs.declared.Sense.{Sense}
use Rattle.lp_definitions.specs.LinearProgram.{LinearProgram}
use Rattle.problem_definitions.specs.Problem.{Entry, Bound, Problem}
use Rattle.selection_definitions.specs.Limits.{Limits, value_on, row_limits, column_limits}
use Rattle.selection_definitions.specs.Selection.{matrix_of}

-- the right-hand side of a row: one without an item has 0
abbrev pub side_on : List (Entry ℕ) → ℕ → ℚ
side_on items row = unwrap_or (value_on items row) zero_ℚ

module _ (problem : Problem ℕ) (objective : ℕ) (rhs ranges : List (Entry ℕ)) (bounds : List (Bound ℕ)) (sense : Sense) where
  -- the limits of the rows, and then of the columns
  abbrev pub limits_with : List Limits
  limits_with =
      map (λ entry. row_limits entry.1.kind (side_on rhs entry.0) (value_on ranges entry.0)) (enumerate_from 1 problem.rows)
      ++ map (λ entry. column_limits bounds entry.0) (enumerate_from 1 problem.columns)

  abbrev pub program_with : LinearProgram
  program_with = record {
    matrix = matrix_of problem;
    lower = map (λ limits. limits.lower) limits_with;
    upper = map (λ limits. limits.upper) limits_with;
    rhs = map (λ entry. side_on rhs entry.0) (enumerate_from 1 problem.rows);
    objective = objective;
    change = None;
    sense = sense;
  }
