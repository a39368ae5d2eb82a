use Rattle.std.proofs.Common.{rules}
use Rattle.lp_definitions.specs.LinearProgram.{IsLinearProgram}
use Rattle.bounded_primal.proofs.TrueOutcomes.{true_result}
use Rattle.bounded_primal.proofs.FreeWalk.{limit_below, never_returned}
use Rattle.bounded_primal.proofs.CompletePaths.{path_answered}
use Rattle.bounded_primal.proofs.path.primal.Goals as goal

pub returns-clause-truth : goal.returns-clause-truth
returns-clause-truth g c =
    let lawful : IsLinearProgram c.args.lp.now = search rules in
    true_result c.args.lp.now lawful (g.R.Rates.state c.args.rates.now).matrix
    (g.R.Rates.state c.args.rates.now).basics c.args.basis.now c.requires c.follow.new.basis c.args.limit c.follow.result c.follow.ensures.ends

pub returns-clause-limited : goal.returns-clause-limited
returns-clause-limited g c =
    let lawful : IsLinearProgram c.args.lp.now = search rules in
    limit_below c.args.lp.now lawful (g.R.Rates.state c.args.rates.now).matrix
    (g.R.Rates.state c.args.rates.now).basics c.args.basis.now c.requires c.follow.new.basis c.args.limit (g.R.Rates.state c.args.rates.now).waypoints
    (g.R.Rates.state c.follow.new.rates).waypoints c.follow.result c.follow.ensures.stops

pub returns-clause-complete : goal.returns-clause-complete
returns-clause-complete g c bases ending goes =
    let lawful : IsLinearProgram c.args.lp.now = search rules in
    path_answered c.args.lp.now lawful (g.R.Rates.state c.args.rates.now).matrix
    (g.R.Rates.state c.args.rates.now).basics c.args.basis.now c.requires c.follow.new.basis bases ending c.args.limit
    (g.R.Rates.state c.args.rates.now).waypoints
    (g.R.Rates.state c.follow.new.rates).waypoints c.follow.result c.follow.ensures.ends c.follow.ensures.stops goes

pub returns-clause-apart : goal.returns-clause-apart
returns-clause-apart g c =
    let lawful : IsLinearProgram c.args.lp.now = search rules in
    never_returned c.args.lp.now lawful (g.R.Rates.state c.args.rates.now).matrix
    (g.R.Rates.state c.args.rates.now).basics c.args.basis.now c.requires c.follow.new.basis (g.R.Rates.state c.args.rates.now).waypoints
    (g.R.Rates.state c.follow.new.rates).waypoints c.follow.ensures.waypoints
