-- The linear program of a selection.
use Rattle.std.specs.Prelude.{ℕ, List, ◌++◌, Option, None, Result, unwrap_or, length, map}
use Rattle.std.specs.List.{enumerate_from}
use Rattle.exact_values.specs.Rational.{ℚ, zero_ℚ}
use Rattle.lp_definitions.specs.declared.Entry.{Entry as Coefficient}
use Rattle.lp_definitions.specs.LinearProgram.{Matrix, LinearProgram}
use Rattle.card_definitions.specs.Words.{unless}
use Rattle.problem_definitions.specs.Problem.{Row, Entry, Group, Problem}
use Rattle.selection_definitions.specs.declared.SelectionFault.{SelectionFault}
use Rattle.selection_definitions.specs.Choice.{Choice, objective_of, rhs_items, set_items, selection_fault}
use Rattle.selection_definitions.specs.Limits.{Limits, value_on, row_limits, column_limits}
use Rattle.selection_definitions.specs.Combinations.{on_combinations}

-- the numbers that a deck gives for a column, each with its row
abbrev pub entered : List (Entry ℕ) → List Coefficient
entered entries = map (λ entry. record { row = entry.row; value = entry.value.value }) entries

-- the numbers of a column: those that the deck gives, in the deck's order, and then those on the combinations, by row number
abbrev pub coefficients : List (Row ℕ) → Group (Entry ℕ) → List Coefficient
coefficients rows column = entered column.items ++ on_combinations rows column.items

abbrev pub matrix_of : Problem ℕ → Matrix
matrix_of problem = record { rows = length problem.rows; cols = length problem.columns; columns = map (coefficients problem.rows) problem.columns }

module _ (problem : Problem ℕ) (choice : Choice) where
  -- a row without an item in the right-hand side set has 0
  abbrev pub rhs_of : ℕ → ℚ
  rhs_of row = unwrap_or (value_on (rhs_items problem.rhs choice.rhs) row) zero_ℚ

  abbrev pub range_of : ℕ → Option ℚ
  range_of row = value_on (set_items problem.ranges choice.options.range) row

  -- the limits of the variables: of the rows, and then of the columns
  abbrev pub limits_of : List Limits
  limits_of =
      map (λ entry. row_limits entry.1.kind (rhs_of entry.0) (range_of entry.0)) (enumerate_from 1 problem.rows)
      ++ map (λ entry. column_limits (set_items problem.bounds choice.options.bound) entry.0) (enumerate_from 1 problem.columns)

  -- a value on an N row in the right-hand side is no limit, and counts as its right-hand side
  abbrev pub program_of_choice : LinearProgram
  program_of_choice = record {
    matrix = matrix_of problem;
    lower = map (λ limits. limits.lower) limits_of;
    upper = map (λ limits. limits.upper) limits_of;
    rhs = map (λ entry. rhs_of entry.0) (enumerate_from 1 problem.rows);
    objective = unwrap_or (objective_of problem.rows choice.objective) 0;
    change = None;
    sense = choice.options.sense;
  }

-- What a choice selects of a problem: its first fault, or its linear program.
unfoldable pub selected : Problem ℕ → Choice → Result LinearProgram SelectionFault
selected problem choice = unless (selection_fault problem choice) (program_of_choice problem choice)
