use Rattle.std.proofs.lemmas.Result.{err_from_is_err_and}
use Rattle.lp_definitions.specs.LinearProgram.{value_at}
use Rattle.bounded_dual.proofs.DualEvidence.{point_stops}
use Rattle.bounded_dual.proofs.Ending.{optimal_ends}
use Rattle.bounded_dual.proofs.turns.optimal.Goals as goal

pub returns-in_err-point-clause-turn : goal.returns-in_err-point-clause-turn
returns-in_err-point-clause-turn g c d xs =
    let p = err_from_is_err_and c.from_residual.result c.from_residual.ensures.1 in
    rw (p.1, p.2)
    (point_stops c.args.at.now.lp.now c.requires.no_change c.args.at.now.basis.now c.args.at.now.left (g.R.Rates.state c.args.rates.now).waypoints
    (g.R.Rates.state c.whole_point.new.rates).waypoints c.in_err-point.field-0.0 c.in_err-point.ensures.overflow)

pub returns-clause-turn : goal.returns-clause-turn
returns-clause-turn g c d xs =
    optimal_ends c.args.at.now.lp.now c.args.at.now.basis.now
    (value_at c.args.at.now.point.now) c.requires.point c.requires.uncrossed c.requires.inside c.in_ok-point.point.items c.args.prices.now c.args.at.now.steps
    c.in_ok-point.ensures.point c.in_ok-point.ensures.places c.requires.prices c.requires.price_places c.in_ok-best.field-0 c.in_ok-best.ensures
