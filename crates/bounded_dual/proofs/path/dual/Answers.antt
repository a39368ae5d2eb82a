use Rattle.std.proofs.Common.{rules}
use Rattle.lp_definitions.specs.LinearProgram.{IsLinearProgram}
use Rattle.bounded_dual.proofs.Returns.{never_returned, limit_below}
use Rattle.bounded_dual.proofs.CompleteDual.{bounded_result, true_result, dual_answered}
use Rattle.bounded_dual.proofs.path.dual.Goals as goal

pub returns-clause-truth : goal.returns-clause-truth
returns-clause-truth g c =
    let lawful : IsLinearProgram c.args.lp.now = search rules in
    true_result c.args.lp.now lawful c.requires.no_change (g.R.Rates.state c.args.rates.now).matrix
    (g.R.Rates.state c.args.rates.now).basics c.args.basis.now c.requires.rates c.follow.new.basis c.args.limit c.follow.result c.follow.ensures.ends

pub returns-clause-bounded : goal.returns-clause-bounded
returns-clause-bounded g c =
    let lawful : IsLinearProgram c.args.lp.now = search rules in
    bounded_result c.args.lp.now lawful c.requires.no_change (g.R.Rates.state c.args.rates.now).matrix
    (g.R.Rates.state c.args.rates.now).basics c.args.basis.now c.requires.rates c.follow.new.basis c.args.limit c.follow.result c.follow.ensures.ends

pub returns-clause-complete : goal.returns-clause-complete
returns-clause-complete g c bases ending right goes =
    let lawful : IsLinearProgram c.args.lp.now = search rules in
    dual_answered c.args.lp.now lawful c.requires.no_change (g.R.Rates.state c.args.rates.now).matrix
    (g.R.Rates.state c.args.rates.now).basics c.args.basis.now c.requires.rates c.follow.new.basis c.args.limit (g.R.Rates.state c.args.rates.now).waypoints
    (g.R.Rates.state c.follow.new.rates).waypoints bases ending c.follow.result c.follow.ensures.ends c.follow.ensures.stops right goes

pub returns-clause-apart : goal.returns-clause-apart
returns-clause-apart g c right =
    let lawful : IsLinearProgram c.args.lp.now = search rules in
    never_returned c.args.lp.now lawful c.requires.no_change (g.R.Rates.state c.args.rates.now).matrix
    (g.R.Rates.state c.args.rates.now).basics c.args.basis.now c.requires.rates c.follow.new.basis (g.R.Rates.state c.args.rates.now).waypoints
    (g.R.Rates.state c.follow.new.rates).waypoints c.follow.ensures.waypoints right

pub returns-clause-limited : goal.returns-clause-limited
returns-clause-limited g c =
    let lawful : IsLinearProgram c.args.lp.now = search rules in
    limit_below c.args.lp.now lawful c.requires.no_change (g.R.Rates.state c.args.rates.now).matrix
    (g.R.Rates.state c.args.rates.now).basics c.args.basis.now c.requires.rates c.follow.new.basis c.args.limit (g.R.Rates.state c.args.rates.now).waypoints
    (g.R.Rates.state c.follow.new.rates).waypoints c.follow.result c.follow.ensures.stops
