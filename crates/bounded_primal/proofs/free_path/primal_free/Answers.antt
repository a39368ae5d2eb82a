use Rattle.std.proofs.Common.{rules}
use Rattle.lp_definitions.specs.LinearProgram.{IsLinearProgram}
use Rattle.termination_laws.specs.Laws.{lists_of}
use Rattle.bounded_primal.proofs.TrueOutcomes.{true_result}
use Rattle.bounded_primal.proofs.FreeWalk.{never_returned}
use Rattle.bounded_primal.proofs.CompletePaths.{free_path_answered}
use Rattle.bounded_primal.proofs.free_path.primal_free.Goals as goal

pub returns-clause-truth : goal.returns-clause-truth
returns-clause-truth g c =
    let lawful : IsLinearProgram c.args.lp.now = search rules in
    true_result c.args.lp.now lawful (g.R.Rates.state c.args.rates.now).matrix
    (g.R.Rates.state c.args.rates.now).basics c.args.basis.now c.requires c.follow_free.new.basis
    (lists_of c.args.lp.now) c.follow_free.result c.follow_free.ensures.ends

pub returns-clause-complete : goal.returns-clause-complete
returns-clause-complete g c bases ending goes =
    let lawful : IsLinearProgram c.args.lp.now = search rules in
    free_path_answered c.args.lp.now lawful (g.R.Rates.state c.args.rates.now).matrix
    (g.R.Rates.state c.args.rates.now).basics c.args.basis.now c.requires c.follow_free.new.basis bases ending (g.R.Rates.state c.args.rates.now).waypoints
    (g.R.Rates.state c.follow_free.new.rates).waypoints c.follow_free.result c.follow_free.ensures.ends c.follow_free.ensures.stops goes

pub returns-clause-apart : goal.returns-clause-apart
returns-clause-apart g c =
    let lawful : IsLinearProgram c.args.lp.now = search rules in
    never_returned c.args.lp.now lawful (g.R.Rates.state c.args.rates.now).matrix
    (g.R.Rates.state c.args.rates.now).basics c.args.basis.now c.requires c.follow_free.new.basis (g.R.Rates.state c.args.rates.now).waypoints
    (g.R.Rates.state c.follow_free.new.rates).waypoints c.follow_free.ensures.waypoints
