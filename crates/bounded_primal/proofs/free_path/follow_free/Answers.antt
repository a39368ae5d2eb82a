use Rattle.termination_laws.specs.Laws.{lists_of}
use Rattle.simplex_definitions.specs.Path.{turn}
use Rattle.bounded_primal.proofs.TrueOutcomes.{crossed_call}
use Rattle.bounded_primal.proofs.PathWalk.{stays}
use Rattle.bounded_primal.proofs.free_path.follow_free.Goals as goal

pub returns-in-Some-clause-ends : goal.returns-in-Some-clause-ends
returns-in-Some-clause-ends g c =
    crossed_call c.args.lp.now (g.R.Rates.state c.args.rates.now).matrix
    (g.R.Rates.state c.args.rates.now).basics c.args.basis.now c.in-Some.k c.requires.rates c.in-Some.ensures (lists_of c.args.lp.now)
    (g.R.Rates.state c.args.rates.now).waypoints

pub returns-in-Some-clause-waypoints : goal.returns-in-Some-clause-waypoints
returns-in-Some-clause-waypoints g c = stays turn c.args.lp.now c.args.basis.now (g.R.Rates.state c.args.rates.now).waypoints

pub returns-in_err-workspace-clause-waypoints : goal.returns-in_err-workspace-clause-waypoints
returns-in_err-workspace-clause-waypoints g c = stays turn c.args.lp.now c.args.basis.now (g.R.Rates.state c.args.rates.now).waypoints

pub returns-in_err-wanted-clause-waypoints : goal.returns-in_err-wanted-clause-waypoints
returns-in_err-wanted-clause-waypoints g c = stays turn c.args.lp.now c.args.basis.now (g.R.Rates.state c.args.rates.now).waypoints
