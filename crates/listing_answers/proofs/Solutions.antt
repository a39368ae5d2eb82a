-- What is read of SOLUTION.
use Rattle.std.proofs.Common.{◌≡◌, ℕ, ◌+◌, List, ◌++◌, length, Option, Some, refl, sym, ap, ap₂, ◌∙◌, length-append}
use Rattle.std.specs.Prelude.{option_map, option_and_then}
use Rattle.std.proofs.lemmas.List.{length-map, map-append}
use Rattle.exact_values.specs.Rational.{ℚ}
use Rattle.lp_definitions.specs.LinearProgram.{value_at, size}
use Rattle.listing_definitions.specs.declared.Mark.{Mark}
use Rattle.listing_definitions.specs.Report.{Line, SolutionLines}
use Rattle.question_definitions.specs.Answers.{Sheet}
use Rattle.answer_definitions.specs.Lines.{row_numbers, column_numbers}
use Rattle.walk_definitions.specs.Checkers.{Checker}
use Rattle.walk_definitions.specs.Words.{Parsed, left_after, with_text}
use Rattle.walk_definitions.specs.Tables.{table_in, number_at}
use Rattle.walk_definitions.specs.Tests.{solution_test}
use Rattle.walk_definitions.specs.Reading.{row_slots, column_slots, solution_in}
use Rattle.listing_readers.specs.declared.tables.Place.TheVariants.{First, Second, Third}
use Rattle.listing_readers.specs.declared.tables.Shape.TheVariants.{Row, Column}
use Rattle.listing_readers.specs.Tables.{at_place}
use Rattle.listing_claims.specs.declared.claims.Printed.{Printed}
use Rattle.listing_claims.specs.Solutions.{Counted, printed_test}
use Rattle.listing_answers.specs.declared.solution.Lines.{Lines}
use Rattle.listing_answers.specs.Solutions.{rows_head, columns_head, AreLines, IsPrinted, Shows}
use Rattle.listing_answers.proofs.Tables.{column_is}

abbrev with_columns : (List ℕ → Option ℚ) → (sheet : Sheet) → List Line × List ℕ → Parsed SolutionLines
with_columns of sheet got =
    option_map (λ more. (record { rows = got.0; columns = more.0 }, more.1))
    (with_text columns_head (table_in of sheet (column_slots sheet) (column_numbers sheet.lp)) got.1)

pub solution_read : (of : List ℕ → Option ℚ) (sheet : Sheet) (mark : Mark) (old first middle second new : List ℕ) (rows columns : List Line) →
    left_after (rows_head mark) old ≡ Some first → table_in of sheet (row_slots sheet) (row_numbers sheet.lp) first ≡ Some (rows, middle) →
    left_after columns_head middle ≡ Some second → table_in of sheet (column_slots sheet) (column_numbers sheet.lp) second ≡ Some (columns, new) →
    solution_in of sheet mark old ≡ Some (record { rows = rows; columns = columns }, new)
solution_read of sheet mark old first middle second new rows columns head are_rows heads are_columns =
    ap (option_and_then (with_columns of sheet)) (ap (option_and_then (table_in of sheet (row_slots sheet) (row_numbers sheet.lp))) head ∙ are_rows)
    ∙ ap (option_map {U = SolutionLines × List ℕ} (λ more. (record { rows = rows; columns = more.0 }, more.1)))
    (ap (option_and_then (table_in of sheet (column_slots sheet) (column_numbers sheet.lp))) heads ∙ are_columns)

module _ (sheet : Sheet) (read : Lines) (lines : SolutionLines) (printed : Printed) (are : AreLines sheet read lines)
    (is : IsPrinted read.rows.items read.columns.items printed) where
  pub printed_shows : Shows printed lines
  printed_shows = record {
    point =
        is.point ∙ ap₂ (λ a b. a ++ b) (column_is Row (at_place First) read.rows.items lines.rows _ are.rows refl)
        (column_is Column (at_place First) read.columns.items lines.columns _ are.columns refl)
        ∙ sym (map-append (number_at 1) lines.rows lines.columns);
    prices =
        is.prices ∙ ap₂ (λ a b. a ++ b) (column_is Row (at_place Second) read.rows.items lines.rows _ are.rows refl)
        (column_is Column (at_place Second) read.columns.items lines.columns _ are.columns refl)
        ∙ sym (map-append (number_at 5) lines.rows lines.columns);
    slacks = is.slacks ∙ column_is Row (at_place Third) read.rows.items lines.rows _ are.rows refl;
  }

  all_counted : length (lines.rows ++ lines.columns) ≡ size sheet.lp.matrix
  all_counted = length-append lines.rows lines.columns ∙ ap₂ (λ a b. a + b) are.rows_counted are.columns_counted

  pub printed_counted : Counted sheet.lp printed
  printed_counted = record {
    point = ap length printed_shows.point ∙ length-map (lines.rows ++ lines.columns) (number_at 1) ∙ all_counted;
    prices = ap length printed_shows.prices ∙ length-map (lines.rows ++ lines.columns) (number_at 5) ∙ all_counted;
    slacks = ap length printed_shows.slacks ∙ length-map lines.rows (number_at 2) ∙ are.rows_counted;
  }

pub printed_tested : (C : Checker) (sheet : Sheet) (mark : Mark) (printed : Printed) (lines : SolutionLines) → Shows printed lines →
    printed_test C sheet mark (value_at printed.point.items) (value_at printed.prices.items) (value_at printed.slacks.items) ≡ solution_test C sheet mark lines
printed_tested C sheet mark printed lines shows =
    λ i. printed_test C sheet mark (value_at (shows.point i)) (value_at (shows.prices i)) (value_at (shows.slacks i))
