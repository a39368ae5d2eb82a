-- The parts in which RANGE is written.
use Rattle.std.proofs.Common.{◌≡◌, ◌<◌, ◌≤◌, ◌+◌, ℕ, List, ◌++◌, codes, ◌∙◌, ap, append_assoc, arith}
use Rattle.std.specs.List.{flat_map}
use Rattle.std.proofs.lemmas.List.{append-nil}
use Rattle.lp_definitions.specs.LinearProgram.{size, numbers_from}
use Rattle.listing_definitions.specs.Report.{RangeLines}
use Rattle.listing_definitions.specs.Text.{ranges_text, line_text, table_text}
use Rattle.listing_tables.specs.declared.sheet.Sheet.{Sheet}
use Rattle.listing_tables.specs.declared.table.Ranging.{Ranging}
use Rattle.listing_tables.specs.declared.table.Table.TheVariants.{LimitRows, LimitColumns, BetweenRows, BetweenColumns}
use Rattle.listing_tables.specs.Lines.{line_of, stands_at_limit, stands_between, limit_row_values, limit_column_values, between_row_values}
use Rattle.listing_tables.specs.Lines.{between_column_values}
use Rattle.listing_tables.specs.Tables.{HasLine, line_view}
use Rattle.listing_tables.proofs.Tables.{lines_kept}
use Rattle.report_text.specs.Ranges.{AreRanges, ranges_view, limit_rows_heading, limit_columns_heading, between_rows_heading, between_columns_heading}

range_parts : (lines : RangeLines) →
    codes "RANGE\n" ++
    ((limit_rows_heading ++ table_text lines.rows_at_limit) ++
    ((limit_columns_heading ++ table_text lines.columns_at_limit) ++
    ((between_rows_heading ++ table_text lines.rows_between) ++ (between_columns_heading ++ table_text lines.columns_between)))) ≡ ranges_text lines
range_parts lines = simp (append_assoc, append-nil)

module _ (sheet : Sheet) (ranging : Ranging) where
  -- every row has a line in the tables of rows, and every column in those of columns
  pub limit_rows_lines : AreRanges sheet ranging → (k : ℕ) → 0 < k → k ≤ sheet.lp.now.matrix.rows → HasLine sheet (LimitRows ranging) k
  limit_rows_lines are k low high = record { is_sheet = are.is_sheet; is_variable = (omega arith, omega arith); listed = are.is_ranging; lined = high }

  pub limit_columns_lines : AreRanges sheet ranging → (k : ℕ) → sheet.lp.now.matrix.rows < k → k ≤ size sheet.lp.now.matrix →
      HasLine sheet (LimitColumns ranging) k
  limit_columns_lines are k low high = record { is_sheet = are.is_sheet; is_variable = (omega arith, high); listed = are.is_ranging; lined = low }

  pub between_rows_lines : AreRanges sheet ranging → (k : ℕ) → 0 < k → k ≤ sheet.lp.now.matrix.rows → HasLine sheet (BetweenRows ranging) k
  between_rows_lines are k low high = record { is_sheet = are.is_sheet; is_variable = (omega arith, omega arith); listed = are.is_ranging; lined = high }

  pub between_columns_lines : AreRanges sheet ranging → (k : ℕ) → sheet.lp.now.matrix.rows < k → k ≤ size sheet.lp.now.matrix →
      HasLine sheet (BetweenColumns ranging) k
  between_columns_lines are k low high = record { is_sheet = are.is_sheet; is_variable = (omega arith, high); listed = are.is_ranging; lined = low }

  -- the sections, each with its heading
  abbrev pub limit_rows_text : List ℕ
  limit_rows_text = limit_rows_heading ++ flat_map (line_view sheet (LimitRows ranging)) (numbers_from 1 sheet.lp.now.matrix.rows)

  abbrev pub limit_columns_text : List ℕ
  limit_columns_text =
      limit_columns_heading ++ flat_map (line_view sheet (LimitColumns ranging)) (numbers_from (sheet.lp.now.matrix.rows + 1) sheet.lp.now.matrix.cols)

  abbrev pub between_rows_text : List ℕ
  between_rows_text = between_rows_heading ++ flat_map (line_view sheet (BetweenRows ranging)) (numbers_from 1 sheet.lp.now.matrix.rows)

  abbrev pub between_columns_text : List ℕ
  between_columns_text =
      between_columns_heading ++ flat_map (line_view sheet (BetweenColumns ranging)) (numbers_from (sheet.lp.now.matrix.rows + 1) sheet.lp.now.matrix.cols)

  limit_rows : limit_rows_text ≡ limit_rows_heading ++ table_text (ranges_view sheet ranging).rows_at_limit
  limit_rows =
      ap (λ w. limit_rows_heading ++ w)
      (lines_kept (stands_at_limit ranging.basis.now)
      (line_of sheet.problem.now (limit_row_values sheet.lp.now ranging.basis.now ranging.point.now ranging.report.now)) line_text
      (numbers_from 1 sheet.lp.now.matrix.rows))

  limit_columns : limit_columns_text ≡ limit_columns_heading ++ table_text (ranges_view sheet ranging).columns_at_limit
  limit_columns =
      ap (λ w. limit_columns_heading ++ w)
      (lines_kept (stands_at_limit ranging.basis.now)
      (line_of sheet.problem.now (limit_column_values sheet.lp.now ranging.basis.now ranging.point.now ranging.report.now)) line_text
      (numbers_from (sheet.lp.now.matrix.rows + 1) sheet.lp.now.matrix.cols))

  between_rows : between_rows_text ≡ between_rows_heading ++ table_text (ranges_view sheet ranging).rows_between
  between_rows =
      ap (λ w. between_rows_heading ++ w)
      (lines_kept (stands_between sheet.lp.now ranging.basis.now)
      (line_of sheet.problem.now (between_row_values sheet.lp.now ranging.basis.now ranging.point.now ranging.report.now)) line_text
      (numbers_from 1 sheet.lp.now.matrix.rows))

  between_columns : between_columns_text ≡ between_columns_heading ++ table_text (ranges_view sheet ranging).columns_between
  between_columns =
      ap (λ w. between_columns_heading ++ w)
      (lines_kept (stands_between sheet.lp.now ranging.basis.now)
      (line_of sheet.problem.now (between_column_values sheet.lp.now ranging.basis.now ranging.point.now ranging.report.now)) line_text
      (numbers_from (sheet.lp.now.matrix.rows + 1) sheet.lp.now.matrix.cols))

  pub ranges_written : codes "RANGE\n" ++ (limit_rows_text ++ (limit_columns_text ++ (between_rows_text ++ between_columns_text))) ≡ ranges_text
      (ranges_view sheet ranging)
  ranges_written =
      (λ i. codes "RANGE\n" ++ (limit_rows i ++ (limit_columns i ++ (between_rows i ++ between_columns i)))) ∙ range_parts (ranges_view sheet ranging)
