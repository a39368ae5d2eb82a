use Rattle.std.proofs.lemmas.Result.{err_from_is_err_and}
use Rattle.lp_model.proofs.Stops.{IfOverflow-map}
use Rattle.basis_values.proofs.Kept.{kept_same}
use Rattle.para_rhs.proofs.RunEvidence.{of_point}
use Rattle.para_rhs.proofs.method.RightHandSideParametric.point.Goals as goal

pub returns-in_err-point-clause-rates : goal.returns-in_err-point-clause-rates
returns-in_err-point-clause-rates g c = kept_same (g.R.Rates.state c.args.rates.now).waypoints c.requires.rates

pub returns-in_err-point_of-clause-overflow : goal.returns-in_err-point_of-clause-overflow
returns-in_err-point_of-clause-overflow g c =
    let p = err_from_is_err_and c.from_residual-in_err-point_of.result c.from_residual-in_err-point_of.ensures.1 in
    rw (p.1, p.2)
    (IfOverflow-map c.in_err-point_of.field-0.0
    (λ e x. of_point c.args.self.now.lp.now c.args.self.now.shift.now c.requires.fits.lawful c.requires.fits.no_change c.args.basis.now
    (g.R.Rates.state c.args.rates.now).waypoints (g.R.Rates.state c.point_of.new.rates).waypoints e x)
    c.in_err-point_of.ensures.overflow)
