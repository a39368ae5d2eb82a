use Rattle.std.proofs.Common.{◌++◌, ◌∷◌, [], codes}
use Rattle.std.specs.List.{concat}
use Rattle.std.proofs.lemmas.Result.{err_from_is_err_and}
use Rattle.job_devices.proofs.TextLemmas.{writes_then, writes_more, writes_same}
use Rattle.listing_definitions.specs.Text.{check_text, verdict_lines, table_text}
use Rattle.report_text.specs.Verdicts.{verdict_view, check_view}
use Rattle.report_text.proofs.Verdicts.{verdict_parts}
use Rattle.report_text.proofs.verdict.put_verdict.Goals as goal

pub returns-in_err-put_verdict_head : goal.returns-in_err-put_verdict_head
returns-in_err-put_verdict_head g c =
    let verdict = verdict_view c.args.sheet c.args.outcome.now in
    let check = check_view c.args.refused in
    let p = err_from_is_err_and c.from_residual.result c.from_residual.ensures.1 in
    rw (p.1, p.2)
    (writes_same (verdict_parts c.args.by verdict check)
    (writes_more (concat (codes " " ∷ check_text check ∷ codes "\n" ∷ []) ++ table_text (verdict_lines verdict)) c.in_err-put_verdict_head.ensures))

pub returns-in_err-put_check : goal.returns-in_err-put_check
returns-in_err-put_check g c =
    let verdict = verdict_view c.args.sheet c.args.outcome.now in
    let check = check_view c.args.refused in
    let p = err_from_is_err_and c.from_residual-in_err-put_check.result c.from_residual-in_err-put_check.ensures.1 in
    rw (p.1, p.2)
    (writes_same (verdict_parts c.args.by verdict check)
    (writes_then c.in_ok-put_verdict_head.ensures (writes_more (table_text (verdict_lines verdict)) c.in_err-put_check.ensures)))

pub returns : goal.returns
returns g c =
    writes_same (verdict_parts c.args.by (verdict_view c.args.sheet c.args.outcome.now) (check_view c.args.refused))
    (writes_then c.in_ok-put_verdict_head.ensures (writes_then c.in_ok-put_check.ensures c.put_verdict_lines.ensures))
