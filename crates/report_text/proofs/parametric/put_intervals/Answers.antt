use Rattle.std.proofs.Common.{map, ◌+◌, ◌∙◌, sym, ap, arith}
use Rattle.std.specs.List.{enumerate_from}
use Rattle.std.proofs.lemmas.Result.{err_from_is_err_and}
use Rattle.job_devices.proofs.TextLemmas.{writes_then, writes_item, writes_same}
use Rattle.listing_definitions.specs.Text.{interval_text}
use Rattle.report_text.specs.Parametric.{interval_view}
use Rattle.report_text.proofs.ParametricParts.{numbered_at, numbered_inside, numbered_next, numbered_all}
use Rattle.report_text.proofs.parametric.put_intervals.Goals as goal

pub returns-in_err-put_interval : goal.returns-in_err-put_interval
returns-in_err-put_interval g c =
    let viewed = interval_view c.args.sheet in
    let part = c.index-parts-index.result in
    let parts = c.args.parts.now in
    let i = c.loop-index.index in
    let p = err_from_is_err_and c.from_residual.result c.from_residual.ensures.1 in
    rw (p.1, p.2)
    (writes_item interval_text (enumerate_from 1 (map viewed parts)) i (0, viewed part)
    (numbered_inside viewed interval_text parts i c.loop-index-test.true) c.loop-index.invariant
    (writes_same
    (ap (λ x. interval_text (i + 1, viewed x)) c.index-parts-index.is
    ∙ sym (numbered_at viewed interval_text parts i part c.loop-index-test.true)) c.in_err-put_interval.ensures))

pub loop-index-preserved : goal.loop-index-preserved
loop-index-preserved g c =
    let viewed = interval_view c.args.sheet in
    let part = c.index-parts-index.result in
    let parts = c.args.parts.now in
    let i = c.loop-index.index in
    writes_same (numbered_next viewed interval_text parts i part c.loop-index-test.true) (writes_then c.loop-index.invariant
    (writes_same (ap (λ x. interval_text (i + 1, viewed x)) c.index-parts-index.is) c.in_ok-put_interval.ensures))

pub returns : goal.returns
returns g c = writes_same (numbered_all (interval_view c.args.sheet) interval_text c.args.parts.now c.loop-index.index (omega arith)) c.loop-index.invariant
