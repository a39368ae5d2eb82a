use Rattle.std.proofs.lemmas.Result.{err_from_is_err_and}
use Rattle.lp_definitions.specs.Basis.{basics_of}
use Rattle.verb_answers.proofs.RangeStops.{point_stops, report_stops}
use Rattle.verb_answers.proofs.RangeLines.{ranged}
use Rattle.basis_values.proofs.Kept.{kept_then}
use Rattle.verb_answers.proofs.ranges.ranges_of.Goals as goal
use Rattle.lp_laws.proofs.WaypointLaws.{keeps_same}

pub returns-in_err-point-clause-overflow : goal.returns-in_err-point-clause-overflow
returns-in_err-point-clause-overflow g c =
    let p = err_from_is_err_and c.from_residual.result c.from_residual.ensures.1 in
    rw (p.1, p.2)
    (point_stops c.args.sheet.lp.now c.requires.no_change (g.R.Rates.state c.args.rates.now).waypoints
    (g.R.Rates.state c.args.rates.now).waypoints c.args.basis.now (g.R.Rates.state c.point_at.new.rates).waypoints
    (keeps_same c.args.sheet.lp.now.matrix (basics_of c.args.basis.now)
    (g.R.Rates.state c.args.rates.now).waypoints) c.in_err-point.field-0.0 c.in_err-point.ensures.overflow)

pub returns-in_err-report-clause-overflow : goal.returns-in_err-report-clause-overflow
returns-in_err-report-clause-overflow g c =
    let p = err_from_is_err_and c.from_residual-in_err-report.result c.from_residual-in_err-report.ensures.1 in
    rw (p.1, p.2)
    (report_stops c.args.sheet.lp.now c.requires.no_change (g.R.Rates.state c.args.rates.now).waypoints
    (g.R.Rates.state c.point_at.new.rates).waypoints c.args.basis.now (g.R.Rates.state c.range.new.rates).waypoints
    c.point_at.ensures.rates.1 c.in_err-report.field-0.0 c.in_err-report.ensures.overflow)

pub returns-in_err-report-clause-rates : goal.returns-in_err-report-clause-rates
returns-in_err-report-clause-rates g c = kept_then c.point_at.ensures.rates c.range.ensures.rates

pub returns-clause-ranged : goal.returns-clause-ranged
returns-clause-ranged g c =
    ranged c.args.sheet.problem.now c.args.sheet.lp.now c.args.basis.now c.in_ok-point.point c.in_ok-report.report c.requires.optimal
    c.in_ok-point.ensures.point c.in_ok-report.ensures.report

pub returns-clause-rates : goal.returns-clause-rates
returns-clause-rates g c = kept_then c.point_at.ensures.rates c.range.ensures.rates
