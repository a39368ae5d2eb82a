-- What the borrowed data of SOLUTION prints.
use Rattle.std.specs.Prelude.{ℕ, List, codes}
use Rattle.listing_definitions.specs.Report.{SolutionLines}
use Rattle.listing_tables.specs.declared.sheet.Sheet.{Sheet}
use Rattle.listing_tables.specs.declared.table.Standing.{Standing}
use Rattle.listing_tables.specs.Lines.{solution_lines}
use Rattle.listing_tables.specs.Sheets.{IsSheet}
use Rattle.listing_tables.specs.Tables.{IsStanding}

pub record IsSolution (sheet : Sheet) (standing : Standing) : Type 0 where
  pub is_sheet : IsSheet sheet
  pub is_standing : IsStanding sheet standing

abbrev pub lines_view : Sheet → Standing → SolutionLines
lines_view sheet standing = solution_lines sheet.problem.now sheet.lp.now standing.basis.now standing.point.now standing.prices.now standing.slack.now

-- the heads of the two sections
abbrev pub rows_heading : List ℕ
rows_heading = codes "SECTION 1 - ROWS\nNUMBER ROW AT ACTIVITY SLACK LOWER UPPER DUAL\n"

abbrev pub columns_heading : List ℕ
columns_heading = codes "SECTION 2 - COLUMNS\nNUMBER COLUMN AT ACTIVITY COST LOWER UPPER REDUCED\n"
