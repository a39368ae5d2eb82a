use Rattle.std.proofs.Common.{Err, ap}
use Rattle.std.proofs.lemmas.Result.{err_from_is_err_and}
use Rattle.verb_answers.proofs.PathStopLaws.{stops}
use Rattle.verb_answers.proofs.path.path_from.Goals as goal

pub returns-in_err-outcome-clause-stops : goal.returns-in_err-outcome-clause-stops
returns-in_err-outcome-clause-stops g c =
    let p = err_from_is_err_and c.from_residual.result c.from_residual.ensures.1 in
    rw (p.1, p.2)
    (stops c.args.sheet c.requires.no_change c.args.basis.now c.outcome_from.new.basis c.args.limit (g.R.Rates.state c.args.rates.now).waypoints
    (g.R.Rates.state c.outcome_from.new.rates).waypoints c.in_err-outcome.field-0.0 c.in_err-outcome.ensures.stops
    (λ is. c.in_err-outcome.ensures.limited (ap Err is)))
