-- What the borrowed data of RANGE prints.
use Rattle.std.specs.Prelude.{ℕ, List, codes}
use Rattle.listing_definitions.specs.Report.{RangeLines}
use Rattle.listing_tables.specs.declared.sheet.Sheet.{Sheet}
use Rattle.listing_tables.specs.declared.table.Ranging.{Ranging}
use Rattle.listing_tables.specs.Lines.{range_lines}
use Rattle.listing_tables.specs.Sheets.{IsSheet}
use Rattle.listing_tables.specs.Tables.{IsRanging}

pub record AreRanges (sheet : Sheet) (ranging : Ranging) : Type 0 where
  pub is_sheet : IsSheet sheet
  pub is_ranging : IsRanging sheet ranging

abbrev pub ranges_view : Sheet → Ranging → RangeLines
ranges_view sheet ranging = range_lines sheet.lp.now ranging.basis.now ranging.point.now ranging.report.now sheet.problem.now

-- the heads of the four sections
abbrev pub limit_rows_heading : List ℕ
limit_rows_heading = codes "SECTION 1 - ROWS AT LIMIT LEVEL\n"

abbrev pub limit_columns_heading : List ℕ
limit_columns_heading = codes "SECTION 2 - COLUMNS AT LIMIT LEVEL\n"

abbrev pub between_rows_heading : List ℕ
between_rows_heading = codes "SECTION 3 - ROWS AT INTERMEDIATE LEVEL\n"

abbrev pub between_columns_heading : List ℕ
between_columns_heading = codes "SECTION 4 - COLUMNS AT INTERMEDIATE LEVEL\n"
