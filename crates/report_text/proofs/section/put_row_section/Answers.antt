use Rattle.std.proofs.Common.{◌≡◌, ◌-◌, ap, arith}
use Rattle.std.specs.List.{flat_map}
use Rattle.std.proofs.lemmas.Result.{err_from_is_err_and}
use Rattle.job_devices.proofs.TextLemmas.{writes_then, writes_more, writes_same}
use Rattle.lp_definitions.specs.LinearProgram.{numbers_from}
use Rattle.listing_tables.specs.Tables.{line_view}
use Rattle.report_text.proofs.section.put_row_section.Goals as goal

pub returns-in_err-put_all : goal.returns-in_err-put_all
returns-in_err-put_all g c =
    let p = err_from_is_err_and c.from_residual.result c.from_residual.ensures.1 in
    rw (p.1, p.2) (writes_more (flat_map (line_view c.args.sheet c.args.table) (numbers_from 1 c.args.sheet.lp.now.matrix.rows)) c.in_err-put_all.ensures)

pub returns : goal.returns
returns g c =
    let count : c.row_count.result - 0 ≡ c.args.sheet.lp.now.matrix.rows = omega (arith, c.row_count.ensures) in
    writes_then c.in_ok-put_all.ensures (writes_same (ap (λ n. flat_map (line_view c.args.sheet c.args.table) (numbers_from 1 n)) count) c.put_table.ensures)
