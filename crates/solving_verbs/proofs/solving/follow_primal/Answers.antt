-- Each answer of the simplex path.
use Rattle.std.proofs.Common.{Ok, subst}
use Rattle.simplex_definitions.specs.Path.{turn}
use Rattle.simplex_definitions.specs.Statements.{Primal}
use Rattle.listing_definitions.specs.declared.Solver.TheVariants as solvers
use Rattle.verb_answers.specs.Reports.{sheet_view, PathStops}
use Rattle.run_machine.specs.declared.finding.Finding.TheVariants.{Limit}
use Rattle.solving_verbs.specs.Found.{PathFinds, at_limit}
use Rattle.setup_verbs.proofs.Reporting.{tells_quietly, overflow_tells}
use Rattle.solving_verbs.proofs.Present.{path_reached}
use Rattle.solving_verbs.proofs.SolvingSteps.{limit_passed, path_overflows}
use Rattle.solving_verbs.proofs.solving.follow_primal.Goals as goal

pub returns-in-Ok-clause-tells : goal.returns-in-Ok-clause-tells
returns-in-Ok-clause-tells g c =
    c.print_verdict.ensures c.args.basis.now c.path_from.new.basis c.args.limit (g.R.Rates.state c.args.rates.now).waypoints
    (g.R.Rates.state c.path_from.new.rates).waypoints c.in-Ok.ensures.reached.bases
    (path_reached c.args.sheet c.args.basis.now c.path_from.new.basis (g.R.Rates.state c.args.rates.now).waypoints
    (g.R.Rates.state c.path_from.new.rates).waypoints c.in-Ok.report
    (g.R.Rates.state c.args.rates.now).matrix
    (g.R.Rates.state c.args.rates.now).basics c.requires.lawful c.requires.rates c.args.limit c.in-Ok.ensures.reached c.path_from.ensures.waypoints)

pub returns-in-Err-Limit-clause-tells : goal.returns-in-Err-Limit-clause-tells
returns-in-Err-Limit-clause-tells g c =
    let t =
    subst (PathStops c.args.sheet c.args.basis.now c.path_from.new.basis c.args.limit (g.R.Rates.state c.args.rates.now).waypoints
    (g.R.Rates.state c.path_from.new.rates).waypoints) c.in-Err-Limit.field-0-is c.in-Err-Limit.ensures.stops in
    tells_quietly
    (PathFinds solvers.Primal (sheet_view c.args.sheet) c.args.basis.now c.path_from.new.basis c.args.limit (g.R.Rates.state c.args.rates.now).waypoints
    (g.R.Rates.state c.path_from.new.rates).waypoints) (g.P.Sink.taken c.args.print.now) (Ok Limit)
    (at_limit (limit_passed c.args.sheet c.args.basis.now c.path_from.new.basis c.args.limit t))

pub returns-in-Err-Overflow-clause-tells : goal.returns-in-Err-Overflow-clause-tells
returns-in-Err-Overflow-clause-tells g c =
    let t =
    subst (PathStops c.args.sheet c.args.basis.now c.path_from.new.basis c.args.limit (g.R.Rates.state c.args.rates.now).waypoints
    (g.R.Rates.state c.path_from.new.rates).waypoints) c.in-Err-Overflow.field-0-is c.in-Err-Overflow.ensures.stops in
    overflow_tells
    (PathFinds solvers.Primal (sheet_view c.args.sheet) c.args.basis.now c.path_from.new.basis c.args.limit (g.R.Rates.state c.args.rates.now).waypoints
    (g.R.Rates.state c.path_from.new.rates).waypoints) (g.P.Sink.taken c.args.print.now)
    c.path_from.new.basis (g.R.Rates.state c.path_from.new.rates).waypoints c.in-Err-Overflow.evidence c.overflow_at.result c.overflow_at.ensures
    (path_overflows solvers.Primal turn (Primal c.args.sheet.lp.now) c.args.sheet c.args.basis.now c.path_from.new.basis c.args.limit
    (g.R.Rates.state c.args.rates.now).waypoints (g.R.Rates.state c.path_from.new.rates).waypoints c.in-Err-Overflow.evidence (λ bases place o. o) t)
