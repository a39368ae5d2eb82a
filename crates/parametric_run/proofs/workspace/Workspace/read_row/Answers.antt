use Rattle.basis_values.proofs.TermLaws.{IfErr-map}
use Rattle.basis_values.proofs.RatesStops.{row_refused}
use Rattle.parametric_run.proofs.workspace.Workspace.read_row.Goals as goal

pub returns-clause-overflow : goal.returns-clause-overflow
returns-clause-overflow g c =
    IfErr-map c.row.result
    (λ stop h. row_refused c.args.lp.now c.args.basis.now (g.R.Rates.state c.args.rates.now).matrix (g.R.Rates.state c.args.rates.now).basics
    (g.R.Rates.state c.row.new.self).basics (g.R.Rates.state c.args.rates.now).waypoints (g.R.Rates.state c.row.new.self).waypoints stop
    c.requires.rates c.row.ensures.kept.same_basics c.row.ensures.kept.waypoints h)
    c.row.ensures.overflow
