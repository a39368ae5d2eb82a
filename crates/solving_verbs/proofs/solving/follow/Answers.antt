-- The path of each verb, within its limit.
use Rattle.std.proofs.Common.{ℕ, Option, Some, subst}
use Rattle.listing_definitions.specs.declared.Solver.TheVariants as solvers
use Rattle.verb_answers.specs.Reports.{sheet_view}
use Rattle.run_machine.specs.Findings.{ReportsFinding}
use Rattle.solving_verbs.specs.Found.{PathFinds}
use Rattle.solving_verbs.proofs.solving.follow.Goals as goal

pub returns-in-Primal-clause-tells : goal.returns-in-Primal-clause-tells
returns-in-Primal-clause-tells g c =
    rw c.in-Primal.is
    (subst (λ (limit : Option ℕ). ReportsFinding
    (PathFinds solvers.Primal (sheet_view c.args.sheet) c.args.basis.now c.follow_primal.new.basis limit (g.R.Rates.state c.args.rates.now).waypoints
    (g.R.Rates.state c.follow_primal.new.rates).waypoints) (g.P.Sink.taken c.args.print.now)
    (g.P.Sink.taken c.follow_primal.new.print) c.follow_primal.result)
    c.limit.ensures.limit c.follow_primal.ensures.tells)

pub returns-in-Dual-clause-tells : goal.returns-in-Dual-clause-tells
returns-in-Dual-clause-tells g c =
    rw c.in-Dual.is
    (subst (λ (steps : ℕ). ReportsFinding
    (PathFinds solvers.Dual (sheet_view c.args.sheet) c.args.basis.now c.follow_dual.new.basis (Some steps) (g.R.Rates.state c.args.rates.now).waypoints
    (g.R.Rates.state c.follow_dual.new.rates).waypoints) (g.P.Sink.taken c.args.print.now)
    (g.P.Sink.taken c.follow_dual.new.print) c.follow_dual.result)
    c.steps_allowed.ensures.steps c.follow_dual.ensures.tells)
