-- Each answer of the dual path.
use Rattle.std.proofs.Common.{Ok, Some, ◌∙◌, ap, subst}
use Rattle.simplex_definitions.specs.DualPath.{dual_turn}
use Rattle.simplex_definitions.specs.Statements.{Dual}
use Rattle.listing_definitions.specs.declared.Solver.TheVariants as solvers
use Rattle.bounded_dual.specs.declared.moves.DualStop.TheVariants.{Path}
use Rattle.verb_answers.specs.Reports.{sheet_view, DualPathStops}
use Rattle.run_machine.specs.declared.finding.Finding.TheVariants.{WrongPrices, Limit}
use Rattle.solving_verbs.specs.Found.{PathFinds, wrong_prices, at_limit}
use Rattle.setup_verbs.proofs.Reporting.{tells_quietly, overflow_tells}
use Rattle.solving_verbs.proofs.Present.{dual_reached}
use Rattle.solving_verbs.proofs.SolvingSteps.{path_overflows}
use Rattle.solving_verbs.proofs.solving.follow_dual.Goals as goal

pub returns-in-Ok-clause-tells : goal.returns-in-Ok-clause-tells
returns-in-Ok-clause-tells g c =
    c.print_verdict.ensures c.args.basis.now c.dual_from.new.basis (Some c.args.limit) (g.R.Rates.state c.args.rates.now).waypoints
    (g.R.Rates.state c.dual_from.new.rates).waypoints c.in-Ok.ensures.reached.1.bases
    (dual_reached c.args.sheet c.args.basis.now c.dual_from.new.basis (g.R.Rates.state c.args.rates.now).waypoints
    (g.R.Rates.state c.dual_from.new.rates).waypoints c.in-Ok.report
    (g.R.Rates.state c.args.rates.now).matrix
    (g.R.Rates.state c.args.rates.now).basics c.requires.lawful c.requires.rates c.args.limit c.in-Ok.ensures.reached c.dual_from.ensures.waypoints)

pub returns-in-Err-NotDualFeasible-clause-tells : goal.returns-in-Err-NotDualFeasible-clause-tells
returns-in-Err-NotDualFeasible-clause-tells g c =
    let t =
    subst (DualPathStops c.args.sheet c.args.basis.now c.dual_from.new.basis c.args.limit (g.R.Rates.state c.args.rates.now).waypoints
    (g.R.Rates.state c.dual_from.new.rates).waypoints) c.in-Err-NotDualFeasible.field-0-is c.in-Err-NotDualFeasible.ensures.stops in
    tells_quietly
    (PathFinds solvers.Dual (sheet_view c.args.sheet) c.args.basis.now c.dual_from.new.basis (Some c.args.limit) (g.R.Rates.state c.args.rates.now).waypoints
    (g.R.Rates.state c.dual_from.new.rates).waypoints) (g.P.Sink.taken c.args.print.now) (Ok (WrongPrices c.in-Err-NotDualFeasible.variable))
    (wrong_prices t.0)

pub returns-in-Err-Path-Limit-clause-tells : goal.returns-in-Err-Path-Limit-clause-tells
returns-in-Err-Path-Limit-clause-tells g c =
    let t =
    subst (DualPathStops c.args.sheet c.args.basis.now c.dual_from.new.basis c.args.limit (g.R.Rates.state c.args.rates.now).waypoints
    (g.R.Rates.state c.dual_from.new.rates).waypoints) (c.in-Err-Path-Limit.field-0-is ∙ ap Path c.in-Err-Path-Limit.field-0-0-is)
    c.in-Err-Path-Limit.ensures.stops in
    tells_quietly
    (PathFinds solvers.Dual (sheet_view c.args.sheet) c.args.basis.now c.dual_from.new.basis (Some c.args.limit) (g.R.Rates.state c.args.rates.now).waypoints
    (g.R.Rates.state c.dual_from.new.rates).waypoints) (g.P.Sink.taken c.args.print.now) (Ok Limit) (at_limit (t.0, t.1.goes_on))

pub returns-in-Err-Path-Overflow-clause-tells : goal.returns-in-Err-Path-Overflow-clause-tells
returns-in-Err-Path-Overflow-clause-tells g c =
    let t =
    subst (DualPathStops c.args.sheet c.args.basis.now c.dual_from.new.basis c.args.limit (g.R.Rates.state c.args.rates.now).waypoints
    (g.R.Rates.state c.dual_from.new.rates).waypoints) (c.in-Err-Path-Overflow.field-0-is ∙ ap Path c.in-Err-Path-Overflow.field-0-0-is)
    c.in-Err-Path-Overflow.ensures.stops in
    overflow_tells
    (PathFinds solvers.Dual (sheet_view c.args.sheet) c.args.basis.now c.dual_from.new.basis (Some c.args.limit) (g.R.Rates.state c.args.rates.now).waypoints
    (g.R.Rates.state c.dual_from.new.rates).waypoints) (g.P.Sink.taken c.args.print.now)
    c.dual_from.new.basis (g.R.Rates.state c.dual_from.new.rates).waypoints c.in-Err-Path-Overflow.evidence c.overflow_at.result c.overflow_at.ensures
    (path_overflows solvers.Dual dual_turn (Dual c.args.sheet.lp.now) c.args.sheet c.args.basis.now c.dual_from.new.basis (Some c.args.limit)
    (g.R.Rates.state c.args.rates.now).waypoints (g.R.Rates.state c.dual_from.new.rates).waypoints c.in-Err-Path-Overflow.evidence (λ bases place o. o) t)
