use Rattle.std.proofs.Common.{◌++◌}
use Rattle.std.proofs.lemmas.Result.{err_from_is_err_and}
use Rattle.job_devices.proofs.TextLemmas.{writes_then, writes_more, writes_same}
use Rattle.report_text.proofs.RangeParts.{limit_rows_lines, limit_columns_lines, between_rows_lines, between_columns_lines, limit_rows_text, limit_columns_text}
use Rattle.report_text.proofs.RangeParts.{between_rows_text, between_columns_text, ranges_written}
use Rattle.report_text.proofs.ranges.put_ranges.Goals as goal

pub put_row_section-requires : goal.put_row_section-requires
put_row_section-requires g c = limit_rows_lines c.args.sheet c.args.ranging c.requires

pub put_column_section-requires : goal.put_column_section-requires
put_column_section-requires g c = limit_columns_lines c.args.sheet c.args.ranging c.requires

pub put_row_section-requires-2 : goal.put_row_section-requires-2
put_row_section-requires-2 g c = between_rows_lines c.args.sheet c.args.ranging c.requires

pub put_column_section-requires-2 : goal.put_column_section-requires-2
put_column_section-requires-2 g c = between_columns_lines c.args.sheet c.args.ranging c.requires

pub returns-in_err-put_all : goal.returns-in_err-put_all
returns-in_err-put_all g c =
    let sheet = c.args.sheet in
    let ranging = c.args.ranging in
    let p = err_from_is_err_and c.from_residual.result c.from_residual.ensures.1 in
    rw (p.1, p.2)
    (writes_same (ranges_written sheet ranging)
    (writes_more
    (limit_rows_text sheet ranging ++
    (limit_columns_text sheet ranging ++ (between_rows_text sheet ranging ++ between_columns_text sheet ranging))) c.in_err-put_all.ensures))

pub returns-in_err-put_row_section : goal.returns-in_err-put_row_section
returns-in_err-put_row_section g c =
    let sheet = c.args.sheet in
    let ranging = c.args.ranging in
    let p = err_from_is_err_and c.from_residual-in_err-put_row_section.result c.from_residual-in_err-put_row_section.ensures.1 in
    rw (p.1, p.2)
    (writes_same (ranges_written sheet ranging)
    (writes_then c.in_ok-put_all.ensures
    (writes_more
    (limit_columns_text sheet ranging ++
    (between_rows_text sheet ranging ++ between_columns_text sheet ranging)) c.in_err-put_row_section.ensures)))

pub returns-in_err-put_column_section : goal.returns-in_err-put_column_section
returns-in_err-put_column_section g c =
    let sheet = c.args.sheet in
    let ranging = c.args.ranging in
    let p = err_from_is_err_and c.from_residual-in_err-put_column_section.result c.from_residual-in_err-put_column_section.ensures.1 in
    rw (p.1, p.2)
    (writes_same (ranges_written sheet ranging)
    (writes_then c.in_ok-put_all.ensures
    (writes_then c.in_ok-put_row_section.ensures
    (writes_more (between_rows_text sheet ranging ++ between_columns_text sheet ranging) c.in_err-put_column_section.ensures))))

pub returns-in_err-put_row_section-2 : goal.returns-in_err-put_row_section-2
returns-in_err-put_row_section-2 g c =
    let sheet = c.args.sheet in
    let ranging = c.args.ranging in
    let p = err_from_is_err_and c.from_residual-in_err-put_row_section-2.result c.from_residual-in_err-put_row_section-2.ensures.1 in
    rw (p.1, p.2)
    (writes_same (ranges_written sheet ranging)
    (writes_then c.in_ok-put_all.ensures
    (writes_then c.in_ok-put_row_section.ensures
    (writes_then c.in_ok-put_column_section.ensures (writes_more (between_columns_text sheet ranging) c.in_err-put_row_section-2.ensures)))))

pub returns : goal.returns
returns g c =
    writes_same (ranges_written c.args.sheet c.args.ranging)
    (writes_then c.in_ok-put_all.ensures
    (writes_then c.in_ok-put_row_section.ensures
    (writes_then c.in_ok-put_column_section.ensures (writes_then c.in_ok-put_row_section-2.ensures c.put_column_section-2.ensures))))
