use Rattle.basis_values.proofs.TermLaws.{IfErr-map}
use Rattle.basis_values.proofs.RatesStops.{column_refused}
use Rattle.parametric_run.proofs.workspace.Workspace.read_direction.Goals as goal

pub returns-clause-overflow : goal.returns-clause-overflow
returns-clause-overflow g c =
    IfErr-map c.direction.result
    (λ stop h. column_refused c.args.lp.now c.args.basis.now (g.R.Rates.state c.args.rates.now).matrix (g.R.Rates.state c.args.rates.now).basics
    (g.R.Rates.state c.direction.new.self).basics (g.R.Rates.state c.args.rates.now).waypoints (g.R.Rates.state c.direction.new.self).waypoints stop
    c.requires.rates c.direction.ensures.kept.same_basics c.direction.ensures.kept.waypoints h)
    c.direction.ensures.overflow
