use Rattle.std.proofs.Common.{◌++◌}
use Rattle.std.proofs.lemmas.Result.{err_from_is_err_and}
use Rattle.job_devices.proofs.TextLemmas.{writes_then, writes_more, writes_same}
use Rattle.report_text.proofs.Solutions.{row_lines, column_lines, rows_text, columns_text, solution_written}
use Rattle.report_text.proofs.solution.put_solution.Goals as goal

pub put_row_section-requires : goal.put_row_section-requires
put_row_section-requires g c = row_lines c.args.sheet c.args.standing c.requires

pub put_column_section-requires : goal.put_column_section-requires
put_column_section-requires g c = column_lines c.args.sheet c.args.standing c.requires

pub returns-in_err-put_mark : goal.returns-in_err-put_mark
returns-in_err-put_mark g c =
    let p = err_from_is_err_and c.from_residual.result c.from_residual.ensures.1 in
    rw (p.1, p.2)
    (writes_same (solution_written c.args.sheet c.args.standing c.args.mark)
    (writes_more (rows_text c.args.sheet c.args.standing ++ columns_text c.args.sheet c.args.standing) c.in_err-put_mark.ensures))

pub returns-in_err-put_row_section : goal.returns-in_err-put_row_section
returns-in_err-put_row_section g c =
    let p = err_from_is_err_and c.from_residual-in_err-put_row_section.result c.from_residual-in_err-put_row_section.ensures.1 in
    rw (p.1, p.2)
    (writes_same (solution_written c.args.sheet c.args.standing c.args.mark)
    (writes_then c.in_ok-put_mark.ensures (writes_more (columns_text c.args.sheet c.args.standing) c.in_err-put_row_section.ensures)))

pub returns : goal.returns
returns g c =
    writes_same (solution_written c.args.sheet c.args.standing c.args.mark)
    (writes_then c.in_ok-put_mark.ensures (writes_then c.in_ok-put_row_section.ensures c.put_column_section.ensures))
