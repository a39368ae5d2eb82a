use Rattle.std.proofs.Common.{◌+◌, ap, ◌∙◌}
use Rattle.lp_laws.proofs.Opening.{length-numbers_from}
use Rattle.answer_definitions.specs.Lines.{row_numbers, column_numbers}
use Rattle.walk_definitions.specs.Reading.{row_slots, column_slots}
use Rattle.listing_words.specs.Read.{taken, sheet_view}
use Rattle.listing_claims.specs.Numbers.{number_in}
use Rattle.listing_answers.proofs.Tables.{table_counted}
use Rattle.listing_answers.proofs.Solutions.{solution_read}
use Rattle.listing_answers.proofs.reader.Reader.read_lines.Goals as goal

pub returns : goal.returns
returns g c =
    let of = number_in g.T.Checks.checker c.args.self.now.by in
    let sheet = sheet_view c.args.self.now.sheet in
    let rows = rw c.in-Some.is at c.in_ok-rows.ensures in
    let columns = rw c.in-Some-2.is at c.in_ok-columns.ensures in
    let first = c.take_rows_head.new.cursor in
    let middle = c.rows.new.cursor in
    let second = c.take_columns_head.new.cursor in
    let new = c.columns.new.cursor in
    record {
      answer = record { rows = rows.0; columns = columns.0 };
      is_found =
          solution_read of sheet c.args.mark c.args.cursor.now first middle second new rows.0 columns.0
          (c.take_rows_head.ensures ∙ ap (λ b. taken b first) c.if-not-take_rows_head.false) rows.1
          (c.take_columns_head.ensures ∙ ap (λ b. taken b second) c.if-not-take_columns_head.false) columns.1;
      shows = record {
        rows = rows.2;
        columns = columns.2;
        rows_counted = table_counted of sheet (row_slots sheet) (row_numbers sheet.lp) first rows.0 middle rows.1 ∙ length-numbers_from 1 sheet.lp.rows;
        columns_counted =
            table_counted of sheet (column_slots sheet) (column_numbers sheet.lp) second columns.0 new columns.1
            ∙ length-numbers_from (sheet.lp.rows + 1) sheet.lp.cols;
      };
    }
