use Rattle.std.proofs.lemmas.Result.{err_from_is_err_and}
use Rattle.basis_values.proofs.Kept.{kept_then}
use Rattle.parametric_run.proofs.Refusals.{refused_later}
use Rattle.parametric_run.proofs.chain.begin.Goals as goal

pub returns-in_err-refresh-clause-rates : goal.returns-in_err-refresh-clause-rates
returns-in_err-refresh-clause-rates g c = kept_then c.in_ok-point.ensures.rates c.in_err-refresh.ensures.rates

pub returns-in_err-refresh-clause-overflow : goal.returns-in_err-refresh-clause-overflow
returns-in_err-refresh-clause-overflow g c =
    let p = err_from_is_err_and c.from_residual-in_err-refresh.result c.from_residual-in_err-refresh.ensures.1 in
    rw (p.1, p.2)
    (refused_later (g.M.Parametric.problem c.args.method.now) c.args.basis.now (g.R.Rates.state c.args.rates.now).waypoints
    (g.R.Rates.state c.point.new.rates).waypoints (g.R.Rates.state c.refresh.new.rates).waypoints c.in_err-refresh.field-0.0
    c.in_ok-point.ensures.rates.1 c.in_err-refresh.ensures.overflow)

pub returns-clause-rates : goal.returns-clause-rates
returns-clause-rates g c = kept_then c.in_ok-point.ensures.rates c.in_ok-refresh.ensures.rates
