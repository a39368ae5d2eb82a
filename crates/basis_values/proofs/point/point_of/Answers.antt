use Rattle.basis_values.proofs.Kept.{kept_same}
use Rattle.basis_values.proofs.point.point_of.Goals as goal

pub returns-in_err-column-clause-rates : goal.returns-in_err-column-clause-rates
returns-in_err-column-clause-rates g c = kept_same (g.R.Rates.state c.args.rates.now).waypoints c.requires.rates

pub returns-in_err-point-clause-rates : goal.returns-in_err-point-clause-rates
returns-in_err-point-clause-rates g c = kept_same (g.R.Rates.state c.args.rates.now).waypoints c.requires.rates
