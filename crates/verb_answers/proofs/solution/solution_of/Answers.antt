use Rattle.std.proofs.lemmas.Result.{err_from_is_err_and}
use Rattle.lp_definitions.specs.LinearProgram.{value_at}
use Rattle.lp_definitions.specs.Basis.{basics_of}
use Rattle.verb_answers.proofs.Refused.{point_stops, slack_stops}
use Rattle.verb_answers.proofs.SolutionLines.{viewed}
use Rattle.basis_values.proofs.Kept.{kept_then}
use Rattle.verb_answers.proofs.solution.solution_of.Goals as goal
use Rattle.lp_laws.proofs.WaypointLaws.{keeps_same}

pub returns-in_err-point-clause-overflow : goal.returns-in_err-point-clause-overflow
returns-in_err-point-clause-overflow g c =
    let p = err_from_is_err_and c.from_residual.result c.from_residual.ensures.1 in
    rw (p.1, p.2)
    (point_stops c.args.sheet.lp.now c.requires.no_change (g.R.Rates.state c.args.rates.now).waypoints
    (g.R.Rates.state c.args.rates.now).waypoints c.args.basis.now (g.R.Rates.state c.point_at.new.rates).waypoints
    (keeps_same c.args.sheet.lp.now.matrix (basics_of c.args.basis.now)
    (g.R.Rates.state c.args.rates.now).waypoints) c.in_err-point.field-0.0 c.in_err-point.ensures.overflow)

pub returns-in_err-prices-clause-overflow : goal.returns-in_err-prices-clause-overflow
returns-in_err-prices-clause-overflow g c =
    let p = err_from_is_err_and c.from_residual-in_err-prices.result c.from_residual-in_err-prices.ensures.1 in
    rw (p.1, p.2)
    (point_stops c.args.sheet.lp.now c.requires.no_change (g.R.Rates.state c.args.rates.now).waypoints
    (g.R.Rates.state c.point_at.new.rates).waypoints c.args.basis.now (g.R.Rates.state c.prices_at.new.rates).waypoints
    c.point_at.ensures.rates.1 c.in_err-prices.field-0.0 c.in_err-prices.ensures.overflow)

pub returns-in_err-prices-clause-rates : goal.returns-in_err-prices-clause-rates
returns-in_err-prices-clause-rates g c = kept_then c.point_at.ensures.rates c.prices_at.ensures.rates

pub returns-in_err-slack-clause-overflow : goal.returns-in_err-slack-clause-overflow
returns-in_err-slack-clause-overflow g c =
    let p = err_from_is_err_and c.from_residual-in_err-slack.result c.from_residual-in_err-slack.ensures.1 in
    rw (p.1, p.2)
    (slack_stops c.args.sheet.lp.now c.args.basis.now (value_at c.in_ok-point.point)
    (value_at c.in_ok-prices.prices) c.in_ok-point.ensures.point c.in_ok-prices.ensures.prices c.requires.rates.nonsingular
    (g.R.Rates.state c.args.rates.now).waypoints (g.R.Rates.state c.prices_at.new.rates).waypoints c.in_err-slack.field-0.0
    (rw c.values.ensures at c.in_err-slack.ensures.refused))

pub returns-in_err-slack-clause-rates : goal.returns-in_err-slack-clause-rates
returns-in_err-slack-clause-rates g c = kept_then c.point_at.ensures.rates c.prices_at.ensures.rates

pub returns-clause-viewed : goal.returns-clause-viewed
returns-clause-viewed g c =
    viewed c.args.sheet.problem.now c.args.sheet.lp.now c.args.basis.now c.in_ok-point.point c.in_ok-prices.prices c.in_ok-slack.slack.items
    c.in_ok-point.ensures.point c.in_ok-prices.ensures.prices
    (rw c.values.ensures at c.in_ok-slack.ensures.slacks)

pub returns-clause-rates : goal.returns-clause-rates
returns-clause-rates g c = kept_then c.point_at.ensures.rates c.prices_at.ensures.rates
