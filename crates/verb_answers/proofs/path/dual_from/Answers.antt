use Rattle.std.proofs.lemmas.Result.{err_from_is_err_and}
use Rattle.verb_answers.proofs.Facts.{dual_reached}
use Rattle.verb_answers.proofs.PathStopLaws.{dual_stops}
use Rattle.verb_answers.proofs.path.dual_from.Goals as goal

pub returns-in_err-outcome-clause-stops : goal.returns-in_err-outcome-clause-stops
returns-in_err-outcome-clause-stops g c =
    let p = err_from_is_err_and c.from_residual.result c.from_residual.ensures.1 in
    rw (p.1, p.2)
    (dual_stops c.args.sheet c.args.basis.now c.dual.new.basis c.args.limit (g.R.Rates.state c.args.rates.now).waypoints
    (g.R.Rates.state c.dual.new.rates).waypoints c.in_err-outcome.field-0.0 c.in_err-outcome.ensures.stops)

pub returns-clause-reached : goal.returns-clause-reached
returns-clause-reached g c =
    dual_reached c.args.sheet c.args.basis.now c.dual.new.basis c.args.limit c.in_ok-outcome.outcome c.refusal_of-refused.result c.in_ok-outcome.ensures.ends
    c.refusal_of-refused.ensures
