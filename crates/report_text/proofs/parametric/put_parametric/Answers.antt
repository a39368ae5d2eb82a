use Rattle.std.proofs.Common.{◌++◌, ap, map}
use Rattle.std.specs.List.{flat_map, enumerate_from}
use Rattle.std.proofs.lemmas.Result.{err_from_is_err_and}
use Rattle.job_devices.proofs.TextLemmas.{writes_then, writes_more, writes_same}
use Rattle.listing_definitions.specs.Text.{interval_text, chain_end_text}
use Rattle.report_text.specs.Parametric.{interval_view, chain_view}
use Rattle.report_text.proofs.ParametricParts.{chain_parts}
use Rattle.report_text.proofs.parametric.put_parametric.Goals as goal

pub returns-in_err-put_parametric_head : goal.returns-in_err-put_parametric_head
returns-in_err-put_parametric_head g c =
    let chain = chain_view c.args.sheet c.args.report.change c.args.report.from c.args.report.to c.args.report.run.now in
    let p = err_from_is_err_and c.from_residual.result c.from_residual.ensures.1 in
    rw (p.1, p.2)
    (writes_same (chain_parts c.args.by chain)
    (writes_more
    (flat_map interval_text (enumerate_from 1 chain.intervals) ++ chain_end_text c.args.by chain.end) c.in_err-put_parametric_head.ensures))

pub returns-in_err-put_intervals : goal.returns-in_err-put_intervals
returns-in_err-put_intervals g c =
    let chain = chain_view c.args.sheet c.args.report.change c.args.report.from c.args.report.to c.args.report.run.now in
    let p = err_from_is_err_and c.from_residual-in_err-put_intervals.result c.from_residual-in_err-put_intervals.ensures.1 in
    rw (p.1, p.2) (writes_same (chain_parts c.args.by chain) (writes_then c.in_ok-put_parametric_head.ensures (writes_more (chain_end_text c.args.by chain.end)
    (writes_same
    (ap (λ parts. flat_map interval_text (enumerate_from 1 (map (interval_view c.args.sheet) parts))) c.items.ensures) c.in_err-put_intervals.ensures))))

pub returns : goal.returns
returns g c =
    let chain = chain_view c.args.sheet c.args.report.change c.args.report.from c.args.report.to c.args.report.run.now in
    writes_same (chain_parts c.args.by chain) (writes_then c.in_ok-put_parametric_head.ensures (writes_then
    (writes_same
    (ap (λ parts. flat_map interval_text (enumerate_from 1 (map (interval_view c.args.sheet) parts))) c.items.ensures) c.in_ok-put_intervals.ensures)
    c.put_run_end.ensures))
