use Rattle.std.proofs.lemmas.Result.{err_from_is_err_and}
use Rattle.report_text.specs.Verdicts.{verdict_view, check_view}
use Rattle.verb_answers.specs.Reports.{sheet_view}
use Rattle.solving_verbs.proofs.SolvingSteps.{verdict_reported, verdict_cut}
use Rattle.solving_verbs.proofs.solving.print_verdict.Goals as goal

pub returns-in_err-text_of : goal.returns-in_err-text_of
returns-in_err-text_of g c = λ s reached limit before after bases r.
    let p = err_from_is_err_and c.from_residual.result c.from_residual.ensures.1 in
    rw (p.1, p.2)
    (verdict_cut c.args.solver (sheet_view c.args.sheet) s reached limit before after bases (verdict_view c.args.sheet c.args.report.now.outcome)
    (check_view c.args.report.now.refused) r (c.recall_verdict.ensures.verdict, c.recall_verdict.ensures.check)
    _ c.in_err-text_of.ensures)

pub returns : goal.returns
returns g c = λ s reached limit before after bases r.
    verdict_reported c.args.solver (sheet_view c.args.sheet) s reached limit before after bases (verdict_view c.args.sheet c.args.report.now.outcome)
    (check_view c.args.report.now.refused) r (c.recall_verdict.ensures.verdict, c.recall_verdict.ensures.check)
    c.mark_of.result (c.mark_of.ensures c.args.sheet) c.in_ok-text_of.ensures
