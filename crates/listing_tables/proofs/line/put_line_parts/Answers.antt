use Rattle.std.proofs.Common.{◌++◌, codes}
use Rattle.std.specs.List.{flat_map}
use Rattle.std.proofs.lemmas.Result.{err_from_is_err_and}
use Rattle.job_devices.proofs.TextLemmas.{writes_then, writes_more, writes_same}
use Rattle.listing_tables.specs.Values.{value_after_blank}
use Rattle.listing_tables.proofs.Values.{line_parts}
use Rattle.listing_tables.proofs.line.put_line_parts.Goals as goal

pub returns-in_err-put_line_head : goal.returns-in_err-put_line_head
returns-in_err-put_line_head g c =
    let p = err_from_is_err_and c.from_residual.result c.from_residual.ensures.1 in
    rw (p.1, p.2)
    (writes_same (line_parts c.args.number c.args.name c.args.values.now)
    (writes_more (flat_map value_after_blank c.args.values.now ++ codes "\n") c.in_err-put_line_head.ensures))

pub returns-in_err-put_values : goal.returns-in_err-put_values
returns-in_err-put_values g c =
    let p = err_from_is_err_and c.from_residual-in_err-put_values.result c.from_residual-in_err-put_values.ensures.1 in
    rw (p.1, p.2)
    (writes_same (line_parts c.args.number c.args.name c.args.values.now)
    (writes_then c.in_ok-put_line_head.ensures (writes_more (codes "\n") c.in_err-put_values.ensures)))

pub returns : goal.returns
returns g c =
    writes_same (line_parts c.args.number c.args.name c.args.values.now)
    (writes_then c.in_ok-put_line_head.ensures (writes_then c.in_ok-put_values.ensures c.put_all.ensures))
