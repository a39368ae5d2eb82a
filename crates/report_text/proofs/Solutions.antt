-- The parts in which SOLUTION is written.
use Rattle.std.proofs.Common.{◌≡◌, ◌<◌, ◌≤◌, ◌+◌, ℕ, List, [], ◌∷◌, ◌++◌, codes, sym, ◌∙◌, ap, append_assoc, arith}
use Rattle.std.specs.List.{concat, flat_map}
use Rattle.std.proofs.lemmas.List.{append-nil}
use Rattle.std.proofs.lemmas.List.Folds.{flat_map-map}
use Rattle.lp_definitions.specs.LinearProgram.{size, numbers_from}
use Rattle.listing_definitions.specs.declared.Mark.{Mark}
use Rattle.listing_definitions.specs.Report.{SolutionLines}
use Rattle.listing_definitions.specs.Text.{mark_text, solution_text, line_text, table_text}
use Rattle.listing_tables.specs.declared.sheet.Sheet.{Sheet}
use Rattle.listing_tables.specs.declared.table.Standing.{Standing}
use Rattle.listing_tables.specs.declared.table.Table.TheVariants.{Rows, Columns}
use Rattle.listing_tables.specs.Lines.{line_of, row_values, column_values}
use Rattle.listing_tables.specs.Tables.{HasLine, line_view}
use Rattle.report_text.specs.Solutions.{IsSolution, lines_view, rows_heading, columns_heading}

solution_parts : (mark : Mark) (lines : SolutionLines) →
    concat (codes "SOLUTION " ∷ mark_text mark ∷ codes "\n" ∷ []) ++
    ((rows_heading ++ table_text lines.rows) ++ (columns_heading ++ table_text lines.columns)) ≡ solution_text mark lines
solution_parts mark lines = simp (append_assoc, append-nil)

module _ (sheet : Sheet) (standing : Standing) where
  -- every row has a line in the table of rows, and every column in that of columns
  pub row_lines : IsSolution sheet standing → (k : ℕ) → 0 < k → k ≤ sheet.lp.now.matrix.rows → HasLine sheet (Rows standing) k
  row_lines is k low high = record { is_sheet = is.is_sheet; is_variable = (omega arith, omega arith); listed = is.is_standing; lined = high }

  pub column_lines : IsSolution sheet standing → (k : ℕ) → sheet.lp.now.matrix.rows < k → k ≤ size sheet.lp.now.matrix → HasLine sheet (Columns standing) k
  column_lines is k low high = record { is_sheet = is.is_sheet; is_variable = (omega arith, high); listed = is.is_standing; lined = low }

  -- the sections, each with its heading
  abbrev pub rows_text : List ℕ
  rows_text = rows_heading ++ flat_map (line_view sheet (Rows standing)) (numbers_from 1 sheet.lp.now.matrix.rows)

  abbrev pub columns_text : List ℕ
  columns_text = columns_heading ++ flat_map (line_view sheet (Columns standing)) (numbers_from (sheet.lp.now.matrix.rows + 1) sheet.lp.now.matrix.cols)

  rows_are : rows_text ≡ rows_heading ++ table_text (lines_view sheet standing).rows
  rows_are =
      ap (λ w. rows_heading ++ w)
      (sym (flat_map-map line_text
      (line_of sheet.problem.now (row_values sheet.lp.now standing.basis.now standing.point.now standing.slack.now standing.prices.now))
      (numbers_from 1 sheet.lp.now.matrix.rows)))

  columns_are : columns_text ≡ columns_heading ++ table_text (lines_view sheet standing).columns
  columns_are =
      ap (λ w. columns_heading ++ w)
      (sym (flat_map-map line_text (line_of sheet.problem.now (column_values sheet.lp.now standing.basis.now standing.point.now standing.prices.now))
      (numbers_from (sheet.lp.now.matrix.rows + 1) sheet.lp.now.matrix.cols)))

  pub solution_written : (mark : Mark) →
      concat (codes "SOLUTION " ∷ mark_text mark ∷ codes "\n" ∷ []) ++ (rows_text ++ columns_text) ≡ solution_text mark (lines_view sheet standing)
  solution_written mark =
      (λ i. concat (codes "SOLUTION " ∷ mark_text mark ∷ codes "\n" ∷ []) ++ (rows_are i ++ columns_are i)) ∙ solution_parts mark (lines_view sheet standing)
