-- Each answer of the run.
use Rattle.std.proofs.Common.{Ok, subst}
use Rattle.verb_answers.specs.Reports.{sheet_view}
use Rattle.run_machine.specs.declared.finding.Finding.TheVariants.{Limit}
use Rattle.solving_verbs.specs.ParametricVerbs.{parametric_run_view, StopsParametricRun, ParametricRunFinds, at_limit}
use Rattle.setup_verbs.proofs.Reporting.{tells_quietly}
use Rattle.solving_verbs.proofs.ParametricSteps.{is_way, run_overflow_tells}
use Rattle.solving_verbs.proofs.parametric.follow.Goals as goal

pub returns-in-Ok-clause-tells : goal.returns-in-Ok-clause-tells
returns-in-Ok-clause-tells g c =
    c.print_run.ensures c.args.basis.now c.run_from.new.basis (g.R.Rates.state c.args.rates.now).waypoints
    (g.R.Rates.state c.run_from.new.rates).waypoints c.in-Ok.ensures.answered

pub returns-in-Err-Limit-clause-tells : goal.returns-in-Err-Limit-clause-tells
returns-in-Err-Limit-clause-tells g c =
    let t =
    subst (StopsParametricRun c.args.sheet (parametric_run_view c.args.parametric_run.now) c.args.basis.now c.run_from.new.basis
    (g.R.Rates.state c.args.rates.now).waypoints (g.R.Rates.state c.run_from.new.rates).waypoints) c.in-Err-Limit.field-0-is c.in-Err-Limit.ensures.stops in
    tells_quietly
    (ParametricRunFinds (sheet_view c.args.sheet) c.args.basis.now c.run_from.new.basis (parametric_run_view c.args.parametric_run.now)
    (g.R.Rates.state c.args.rates.now).waypoints (g.R.Rates.state c.run_from.new.rates).waypoints) (g.P.Sink.taken c.args.print.now) (Ok Limit)
    (at_limit t.goes_on)

pub overflow_in-requires-clause-way : goal.overflow_in-requires-clause-way
overflow_in-requires-clause-way g c =
    let t =
    subst (StopsParametricRun c.args.sheet (parametric_run_view c.args.parametric_run.now) c.args.basis.now c.run_from.new.basis
    (g.R.Rates.state c.args.rates.now).waypoints
    (g.R.Rates.state c.run_from.new.rates).waypoints) c.in-Err-Overflow.field-0-is c.in-Err-Overflow.ensures.stops in
    is_way c.args.sheet (parametric_run_view c.args.parametric_run.now) c.args.basis.now c.run_from.new.basis (g.R.Rates.state c.args.rates.now).waypoints
    (g.R.Rates.state c.run_from.new.rates).waypoints c.in-Err-Overflow.evidence t

pub returns-in-Err-Overflow-clause-tells : goal.returns-in-Err-Overflow-clause-tells
returns-in-Err-Overflow-clause-tells g c =
    let t =
    subst (StopsParametricRun c.args.sheet (parametric_run_view c.args.parametric_run.now) c.args.basis.now c.run_from.new.basis
    (g.R.Rates.state c.args.rates.now).waypoints
    (g.R.Rates.state c.run_from.new.rates).waypoints) c.in-Err-Overflow.field-0-is c.in-Err-Overflow.ensures.stops in
    run_overflow_tells c.args.sheet (parametric_run_view c.args.parametric_run.now) c.args.basis.now c.run_from.new.basis
    (g.R.Rates.state c.args.rates.now).waypoints (g.R.Rates.state c.run_from.new.rates).waypoints c.in-Err-Overflow.evidence t
    (g.P.Sink.taken c.args.print.now) c.overflow_in.result c.overflow_in.ensures.tells c.overflow_in.ensures.fits
