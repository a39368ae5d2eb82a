use Rattle.std.proofs.Common.{◌≡◌, ◌-◌, ◌+◌, ap, ◌∙◌, arith}
use Rattle.std.specs.List.{flat_map}
use Rattle.std.proofs.lemmas.Result.{err_from_is_err_and}
use Rattle.job_devices.proofs.TextLemmas.{writes_then, writes_more, writes_same}
use Rattle.lp_definitions.specs.LinearProgram.{numbers_from}
use Rattle.listing_tables.specs.Tables.{line_view}
use Rattle.report_text.proofs.section.put_column_section.Goals as goal

pub returns-in_err-put_all : goal.returns-in_err-put_all
returns-in_err-put_all g c =
    let p = err_from_is_err_and c.from_residual.result c.from_residual.ensures.1 in
    rw (p.1, p.2)
    (writes_more
    (flat_map (line_view c.args.sheet c.args.table)
    (numbers_from (c.args.sheet.lp.now.matrix.rows + 1) c.args.sheet.lp.now.matrix.cols)) c.in_err-put_all.ensures)

pub returns : goal.returns
returns g c =
    let count : c.number_of_variables-last.result - c.row_count-first.result ≡ c.args.sheet.lp.now.matrix.cols =
    omega (arith, c.row_count-first.ensures, c.number_of_variables-last.ensures.size) in
    writes_then c.in_ok-put_all.ensures
    (writes_same
    (ap (λ n. flat_map (line_view c.args.sheet c.args.table) (numbers_from (c.row_count-first.result + 1) n)) count
    ∙ ap (λ n. flat_map (line_view c.args.sheet c.args.table)
    (numbers_from (n + 1) c.args.sheet.lp.now.matrix.cols)) c.row_count-first.ensures) c.put_table.ensures)
