use Rattle.std.proofs.Common.{sym, ap, ◌∙◌, arith}
use Rattle.std.proofs.lemmas.Result.{err_from_is_err_and}
use Rattle.exact_values.specs.Rational.{ℚ}
use Rattle.lp_definitions.specs.LinearProgram.{value_at}
use Rattle.basis_values.proofs.Kept.{kept_then}
use Rattle.bounded_primal.specs.Turns.{ray_from}
use Rattle.bounded_primal.proofs.TurnCalls.{outside_basic}
use Rattle.bounded_primal.proofs.TurnCases.{point_stops, first_ends, first_nonbasic, first_pivot, first_at_limit, first_limit, first_stops, first_moves}
use Rattle.bounded_primal.proofs.turns.first_phase.Goals as goal

pub lies_below-below-requires-clause-variable : goal.lies_below-below-requires-clause-variable
lies_below-below-requires-clause-variable g c =
    (outside_basic c.args.at.now.lp.now c.args.at.now.basis.now (value_at c.args.at.now.point.now) c.args.r c.requires.outside).0

pub restoring-requires-clause-basic : goal.restoring-requires-clause-basic
restoring-requires-clause-basic g c = outside_basic c.args.at.now.lp.now c.args.at.now.basis.now (value_at c.args.at.now.point.now) c.args.r c.requires.outside

pub returns-in_err-q-clause-turn : goal.returns-in_err-q-clause-turn
returns-in_err-q-clause-turn g c =
    let p = err_from_is_err_and c.from_residual.result c.from_residual.ensures.1 in
    rw (p.1, p.2)
    (point_stops c.args.at.now.lp.now c.args.at.now.basis.now c.args.at.now.left (g.R.Rates.state c.args.rates.now).waypoints
    (g.R.Rates.state c.restoring.new.rates).waypoints c.in_err-q.field-0.0 c.in_err-q.ensures.overflow)

pub returns-in_default-clause-turn : goal.returns-in_default-clause-turn
returns-in_default-clause-turn g c =
    first_ends c.args.at.now.lp.now c.args.at.now.basis.now (value_at c.args.at.now.point.now) (g.R.Rates.state c.args.rates.now).matrix
    (g.R.Rates.state c.args.rates.now).basics c.requires.rates c.requires.point c.requires.uncrossed c.args.r c.requires.outside c.in_ok-q.ensures.found.rates
    c.in_ok-q.ensures.found.is_row c.lies_below-below.result c.lies_below-below.ensures c.in_ok-ray.ray c.args.at.now.steps (sym c.in_default.is
    ∙ c.in_ok-q.ensures.found.enters) c.in_ok-ray.ensures.places
    (λ k is. c.in_ok-ray.ensures.ray k is
    ∙ ap (λ (v : ℚ). ray_from (λ j. v) c.args.r c.lies_below-below.result k) (c.in_ok-q.ensures.found.at_end c.in_default.is k is))

pub returns-then-at-eq0-clause-turn : goal.returns-then-at-eq0-clause-turn
returns-then-at-eq0-clause-turn g c =
    first_at_limit c.args.at.now.lp.now c.args.at.now.basis.now (value_at c.args.at.now.point.now) (g.R.Rates.state c.args.rates.now).matrix
    (g.R.Rates.state c.args.rates.now).basics c.requires.rates c.requires.point c.requires.uncrossed c.args.r c.requires.outside c.in_ok-q.ensures.found.rates
    c.in_ok-q.ensures.found.is_row c.lies_below-below.result c.lies_below-below.ensures c.in-Some.q (sym c.in-Some.is ∙ c.in_ok-q.ensures.found.enters)
    c.args.at.now.left (g.R.Rates.state c.args.rates.now).waypoints (g.R.Rates.state c.restoring.new.rates).waypoints c.if-at-eq0.true

pub return_along-requires-clause-nonbasic : goal.return_along-requires-clause-nonbasic
return_along-requires-clause-nonbasic g c =
    first_nonbasic c.args.at.now.lp.now c.args.at.now.basis.now (value_at c.args.at.now.point.now) (g.R.Rates.state c.args.rates.now).matrix
    (g.R.Rates.state c.args.rates.now).basics c.requires.rates c.requires.point c.requires.uncrossed c.args.r c.requires.outside c.in_ok-q.ensures.found.rates
    c.in_ok-q.ensures.found.is_row c.lies_below-below.result c.lies_below-below.ensures c.in-Some.q (sym c.in-Some.is ∙ c.in_ok-q.ensures.found.enters)

pub return_along-requires-clause-basic : goal.return_along-requires-clause-basic
return_along-requires-clause-basic g c =
    outside_basic c.args.at.now.lp.now c.args.at.now.basis.now (value_at c.args.at.now.point.now) c.args.r c.requires.outside

pub return_along-requires-clause-limit : goal.return_along-requires-clause-limit
return_along-requires-clause-limit g c =
    first_limit c.args.at.now.lp.now c.args.at.now.basis.now (value_at c.args.at.now.point.now) (g.R.Rates.state c.args.rates.now).matrix
    (g.R.Rates.state c.args.rates.now).basics c.requires.rates c.requires.point c.requires.uncrossed c.args.r c.requires.outside c.in_ok-q.ensures.found.rates
    c.in_ok-q.ensures.found.is_row c.lies_below-below.result c.lies_below-below.ensures c.in-Some.q (sym c.in-Some.is ∙ c.in_ok-q.ensures.found.enters)
    c.limit_broken.result c.limit_broken.ensures

pub return_along-requires-clause-pivot : goal.return_along-requires-clause-pivot
return_along-requires-clause-pivot g c =
    first_pivot c.args.at.now.lp.now c.args.at.now.basis.now (value_at c.args.at.now.point.now) (g.R.Rates.state c.args.rates.now).matrix
    (g.R.Rates.state c.args.rates.now).basics c.requires.rates c.requires.point c.requires.uncrossed c.args.r c.requires.outside c.in_ok-q.ensures.found.rates
    c.in_ok-q.ensures.found.is_row c.lies_below-below.result c.lies_below-below.ensures c.in-Some.q (sym c.in-Some.is ∙ c.in_ok-q.ensures.found.enters)

pub returns-in_err-by-clause-turn : goal.returns-in_err-by-clause-turn
returns-in_err-by-clause-turn g c =
    let p = err_from_is_err_and c.from_residual-in_err-by.result c.from_residual-in_err-by.ensures.1 in
    rw (p.1, p.2)
    (first_stops c.args.at.now.lp.now c.args.at.now.basis.now (value_at c.args.at.now.point.now) (g.R.Rates.state c.args.rates.now).matrix
    (g.R.Rates.state c.args.rates.now).basics c.requires.rates c.requires.point c.requires.uncrossed c.args.r c.requires.outside c.in_ok-q.ensures.found.rates
    c.in_ok-q.ensures.found.is_row c.lies_below-below.result c.lies_below-below.ensures c.in-Some.q (sym c.in-Some.is ∙ c.in_ok-q.ensures.found.enters)
    c.limit_broken.result c.limit_broken.ensures c.args.at.now.left (g.R.Rates.state c.args.rates.now).waypoints
    (g.R.Rates.state c.restoring.new.rates).waypoints (g.R.Rates.state c.return_along.new.rates).waypoints c.in_err-by.field-0.0
    c.restoring.ensures.rates.1 c.in_err-by.ensures.overflow)

pub returns-clause-turn : goal.returns-clause-turn
returns-clause-turn g c =
    first_moves c.args.at.now.lp.now c.args.at.now.basis.now (value_at c.args.at.now.point.now) (g.R.Rates.state c.args.rates.now).matrix
    (g.R.Rates.state c.args.rates.now).basics c.requires.rates c.requires.point c.requires.uncrossed c.args.r c.requires.outside c.in_ok-q.ensures.found.rates
    c.in_ok-q.ensures.found.is_row c.lies_below-below.result c.lies_below-below.ensures c.in-Some.q (sym c.in-Some.is ∙ c.in_ok-q.ensures.found.enters)
    c.limit_broken.result c.limit_broken.ensures (value_at c.return_along.new.direction) c.in_ok-by.ensures.direction c.in_ok-by.by
    c.in_ok-by.ensures.blocking_variable c.args.at.now.left (omega (arith, c.if-at-eq0.false))

pub returns-in_err-by-clause-rates : goal.returns-in_err-by-clause-rates
returns-in_err-by-clause-rates g c = kept_then c.restoring.ensures.rates c.return_along.ensures.rates

pub returns-clause-rates : goal.returns-clause-rates
returns-clause-rates g c = kept_then c.restoring.ensures.rates c.return_along.ensures.rates
