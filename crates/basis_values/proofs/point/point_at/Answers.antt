use Rattle.basis_values.proofs.Kept.{kept_same}
use Rattle.basis_values.proofs.point.point_at.Goals as goal

pub returns-in_err-values-clause-rates : goal.returns-in_err-values-clause-rates
returns-in_err-values-clause-rates g c = kept_same (g.R.Rates.state c.args.rates.now).waypoints c.requires.rates
