use Rattle.std.proofs.lemmas.Result.{err_from_is_err_and}
use Rattle.solving_verbs.specs.ParametricVerbs.{parametric_run_view}
use Rattle.solving_verbs.proofs.ParametricSteps.{opening_reported, opening_cut}
use Rattle.solving_verbs.proofs.parametric.print_opening.Goals as goal

pub returns-in_err-text_of : goal.returns-in_err-text_of
returns-in_err-text_of g c = λ s reached before after a.
    let p = err_from_is_err_and c.from_residual.result c.from_residual.ensures.1 in
    rw (p.1, p.2)
    (opening_cut c.args.sheet
    (parametric_run_view c.args.parametric_run.now) s reached before after c.args.refused c.solver.result c.solver.ensures c.args.outcome.now a
    (c.recall_verdict.ensures.verdict, c.recall_verdict.ensures.check) (g.P.Sink.taken c.args.print.now)
    (g.P.Sink.taken c.text_of.new.print) _ c.in_err-text_of.ensures)

pub returns : goal.returns
returns g c = λ s reached before after a.
    opening_reported c.args.sheet
    (parametric_run_view c.args.parametric_run.now) s reached before after c.args.refused c.solver.result c.solver.ensures c.args.outcome.now a
    (c.recall_verdict.ensures.verdict, c.recall_verdict.ensures.check) (g.P.Sink.taken c.args.print.now)
    (g.P.Sink.taken c.text_of.new.print) c.mark_of.result (c.mark_of.ensures c.args.sheet) c.in_ok-text_of.ensures
