use Rattle.std.proofs.lemmas.Result.{err_from_is_err_and}
use Rattle.job_devices.proofs.TextLemmas.{writes_then, writes_more, writes_same}
use Rattle.listing_definitions.specs.Text.{table_text}
use Rattle.report_text.specs.Parametric.{interval_view}
use Rattle.report_text.proofs.ParametricParts.{interval_parts, part_table}
use Rattle.report_text.proofs.parametric.put_interval.Goals as goal

pub returns-in_err-put_interval_head : goal.returns-in_err-put_interval_head
returns-in_err-put_interval_head g c =
    let interval = interval_view c.args.sheet c.args.part.now in
    let p = err_from_is_err_and c.from_residual.result c.from_residual.ensures.1 in
    rw (p.1, p.2) (writes_same (interval_parts c.args.number interval) (writes_more (table_text interval.lines) c.in_err-put_interval_head.ensures))

pub returns : goal.returns
returns g c =
    writes_same (interval_parts c.args.number (interval_view c.args.sheet c.args.part.now)) (writes_then c.in_ok-put_interval_head.ensures
    (writes_same (part_table c.args.sheet c.number_of_variables-last.result c.number_of_variables-last.ensures.size c.args.part) c.put_table.ensures))
