use Rattle.std.proofs.lemmas.Result.{err_from_is_err_and}
use Rattle.solving_verbs.specs.ParametricVerbs.{parametric_run_view}
use Rattle.solving_verbs.proofs.ParametricSteps.{chain_reported, chain_cut}
use Rattle.solving_verbs.proofs.parametric.print_chain.Goals as goal

pub returns-in_err-text_of : goal.returns-in_err-text_of
returns-in_err-text_of g c = λ refused s reached before after a.
    let p = err_from_is_err_and c.from_residual.result c.from_residual.ensures.1 in
    rw (p.1, p.2)
    (chain_cut c.args.sheet
    (parametric_run_view c.args.parametric_run.now) s reached before after refused c.solver.result c.solver.ensures c.args.run.now a c.change.result
    c.from.result c.to-to.result c.change.ensures c.from.ensures c.to-to.ensures (c.recall_chain.ensures.intervals, c.recall_chain.ensures.end)
    (g.P.Sink.taken c.args.print.now) (g.P.Sink.taken c.text_of.new.print) _ c.in_err-text_of.ensures)

pub returns : goal.returns
returns g c = λ refused s reached before after a.
    chain_reported c.args.sheet
    (parametric_run_view c.args.parametric_run.now) s reached before after refused c.solver.result c.solver.ensures c.args.run.now a c.change.result
    c.from.result c.to-to.result c.change.ensures c.from.ensures c.to-to.ensures (c.recall_chain.ensures.intervals, c.recall_chain.ensures.end)
    (g.P.Sink.taken c.args.print.now) (g.P.Sink.taken c.text_of.new.print) c.last_value.result c.last_value.ensures c.in_ok-text_of.ensures
