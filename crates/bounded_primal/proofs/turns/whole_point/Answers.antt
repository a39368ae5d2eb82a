use Rattle.lp_definitions.specs.Basis.{basics_of}
use Rattle.bounded_primal.proofs.turns.whole_point.Goals as goal
use Rattle.lp_laws.proofs.WaypointLaws.{keeps_same}

pub returns-in_err-values-clause-rates : goal.returns-in_err-values-clause-rates
returns-in_err-values-clause-rates g c =
    (c.requires.rates, keeps_same c.args.at.now.lp.now.matrix (basics_of c.args.at.now.basis.now) (g.R.Rates.state c.args.rates.now).waypoints)

pub returns-then-has_all-clause-rates : goal.returns-then-has_all-clause-rates
returns-then-has_all-clause-rates g c =
    (c.requires.rates, keeps_same c.args.at.now.lp.now.matrix (basics_of c.args.at.now.basis.now) (g.R.Rates.state c.args.rates.now).waypoints)
