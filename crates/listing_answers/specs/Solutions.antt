-- What is read of SOLUTION.
--     rows_head mark, columns_head what stands before the lines of the rows and of the columns
--     AreLines                     the numbers of the lines were read
--     IsPrinted, Shows             the activities, the prices and the slacks of them
use Rattle.std.specs.Prelude.{◌≡◌, ℕ, List, ◌++◌, map, length, codes}
use Rattle.listing_definitions.specs.declared.Mark.{Mark}
use Rattle.listing_definitions.specs.Report.{Line, SolutionLines}
use Rattle.listing_definitions.specs.Text.{mark_text}
use Rattle.question_definitions.specs.Answers.{Sheet}
use Rattle.walk_definitions.specs.Tables.{column_of}
use Rattle.listing_readers.specs.declared.tables.Numbers.{Numbers}
use Rattle.listing_readers.specs.declared.tables.Place.TheVariants.{First, Second, Third}
use Rattle.listing_readers.specs.declared.tables.Shape.{Shape}
use Rattle.listing_readers.specs.declared.tables.Shape.TheVariants.{Row, Column}
use Rattle.listing_readers.specs.Tables.{numbers_of, at_place}
use Rattle.listing_answers.specs.declared.solution.Lines.{Lines}
use Rattle.listing_claims.specs.declared.claims.Printed.{Printed}

abbrev pub rows_head : Mark → List ℕ
rows_head mark = codes "SOLUTION " ++ (mark_text mark ++ codes "\nSECTION 1 - ROWS\nNUMBER ROW AT ACTIVITY SLACK LOWER UPPER DUAL\n")

abbrev pub columns_head : List ℕ
columns_head = codes "SECTION 2 - COLUMNS\nNUMBER COLUMN AT ACTIVITY COST LOWER UPPER REDUCED\n"

abbrev pub line_numbers : Shape → List Line → List Numbers
line_numbers shape lines = map (λ line. numbers_of shape line.values) lines

-- a line for each row and each column
pub record AreLines (sheet : Sheet) (read : Lines) (lines : SolutionLines) : Type 0 where
  pub rows : read.rows.items ≡ line_numbers Row lines.rows
  pub columns : read.columns.items ≡ line_numbers Column lines.columns
  pub rows_counted : length lines.rows ≡ sheet.lp.matrix.rows
  pub columns_counted : length lines.columns ≡ sheet.lp.matrix.cols

pub record IsPrinted (rows columns : List Numbers) (printed : Printed) : Type 0 where
  pub point : printed.point.items ≡ map (at_place First) rows ++ map (at_place First) columns
  pub prices : printed.prices.items ≡ map (at_place Second) rows ++ map (at_place Second) columns
  pub slacks : printed.slacks.items ≡ map (at_place Third) rows

pub record Shows (printed : Printed) (lines : SolutionLines) : Type 0 where
  pub point : printed.point.items ≡ column_of 1 (lines.rows ++ lines.columns)
  pub prices : printed.prices.items ≡ column_of 5 (lines.rows ++ lines.columns)
  pub slacks : printed.slacks.items ≡ column_of 2 lines.rows
