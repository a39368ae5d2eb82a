use Rattle.std.proofs.Common.{refl, sym, ◌∙◌, arith}
use Rattle.std.specs.Prelude.{if◌then◌else◌}
use Rattle.std.proofs.lemmas.Result.{err_from_is_err_and}
use Rattle.lp_definitions.specs.LinearProgram.{value_at}
use Rattle.lp_definitions.specs.declared.Status.TheVariants.{Ll, Ul}
use Rattle.basis_values.proofs.Kept.{kept_then}
use Rattle.bounded_primal.proofs.TurnCalls.{outside_basic}
use Rattle.bounded_dual.proofs.DualEvidence.{point_stops}
use Rattle.bounded_dual.proofs.Returning.{ratio_evidence, infeasible_ends, return_nonbasic, return_pivot, return_limit, return_at_limit, return_stops}
use Rattle.bounded_dual.proofs.Returning.{return_moves}
use Rattle.bounded_dual.proofs.turns.restore_feasibility.Goals as goal

pub lies_below-below-requires-clause-variable : goal.lies_below-below-requires-clause-variable
lies_below-below-requires-clause-variable g c =
    (outside_basic c.args.at.now.lp.now c.args.at.now.basis.now (value_at c.args.at.now.point.now) c.args.r c.requires.outside).0

pub read_row-requires-clause-basic : goal.read_row-requires-clause-basic
read_row-requires-clause-basic g c = outside_basic c.args.at.now.lp.now c.args.at.now.basis.now (value_at c.args.at.now.point.now) c.args.r c.requires.outside

pub returns-in_err-read_row-clause-turn : goal.returns-in_err-read_row-clause-turn
returns-in_err-read_row-clause-turn g c =
    let p = err_from_is_err_and c.from_residual.result c.from_residual.ensures.1 in
    rw (p.1, p.2)
    (point_stops c.args.at.now.lp.now c.requires.no_change c.args.at.now.basis.now c.args.at.now.left (g.R.Rates.state c.args.rates.now).waypoints
    (g.R.Rates.state c.read_row.new.rates).waypoints c.in_err-read_row.field-0.0 c.in_err-read_row.ensures.overflow)

pub returns-in-Err-clause-turn : goal.returns-in-Err-clause-turn
returns-in-Err-clause-turn g c =
    ratio_evidence c.args.at.now.lp.now c.requires.lawful c.requires.no_change c.args.at.now.basis.now (value_at c.args.at.now.point.now)
    (g.R.Rates.state c.args.rates.now).matrix
    (g.R.Rates.state c.args.rates.now).basics c.requires.rates c.requires.point c.requires.uncrossed c.args.r c.requires.outside
    (value_at c.args.prices.now)
    (value_at c.read_row.new.out) c.requires.prices c.in_ok-read_row.ensures.row c.lies_below-below.result c.lies_below-below.ensures c.args.at.now.left
    (g.R.Rates.state c.args.rates.now).waypoints (g.R.Rates.state c.read_row.new.rates).waypoints c.in-Err.evidence c.in-Err.ensures.refused

pub returns-in_default-clause-turn : goal.returns-in_default-clause-turn
returns-in_default-clause-turn g c =
    infeasible_ends c.args.at.now.lp.now c.requires.lawful c.requires.no_change c.args.at.now.basis.now (value_at c.args.at.now.point.now)
    (g.R.Rates.state c.args.rates.now).matrix
    (g.R.Rates.state c.args.rates.now).basics c.requires.rates c.requires.point c.requires.uncrossed c.args.r c.requires.outside
    (value_at c.args.prices.now)
    (value_at c.read_row.new.out) c.requires.prices c.in_ok-read_row.ensures.row c.lies_below-below.result c.lies_below-below.ensures
    (sym c.in-Ok.ensures.cheapest ∙ c.in_default.is) c.in_ok-ray.ray c.args.at.now.steps c.in_ok-ray.ensures.places c.in_ok-ray.ensures.ray

pub returns-then-at-eq0-clause-turn : goal.returns-then-at-eq0-clause-turn
returns-then-at-eq0-clause-turn g c =
    return_at_limit c.args.at.now.lp.now c.requires.lawful c.requires.no_change c.args.at.now.basis.now (value_at c.args.at.now.point.now)
    (g.R.Rates.state c.args.rates.now).matrix
    (g.R.Rates.state c.args.rates.now).basics c.requires.rates c.requires.point c.requires.uncrossed c.args.r c.requires.outside
    (value_at c.args.prices.now)
    (value_at c.read_row.new.out) c.requires.prices c.in_ok-read_row.ensures.row c.lies_below-below.result c.lies_below-below.ensures c.in-Some.q
    (sym c.in-Ok.ensures.cheapest ∙ c.in-Some.is) (if c.lies_below-below.result then Ll else Ul) refl c.args.at.now.left
    (g.R.Rates.state c.args.rates.now).waypoints (g.R.Rates.state c.read_row.new.rates).waypoints c.if-at-eq0.true

pub return_along-requires-clause-nonbasic : goal.return_along-requires-clause-nonbasic
return_along-requires-clause-nonbasic g c =
    return_nonbasic c.args.at.now.lp.now c.requires.lawful c.requires.no_change c.args.at.now.basis.now (value_at c.args.at.now.point.now)
    (g.R.Rates.state c.args.rates.now).matrix
    (g.R.Rates.state c.args.rates.now).basics c.requires.rates c.requires.point c.requires.uncrossed c.args.r c.requires.outside
    (value_at c.args.prices.now)
    (value_at c.read_row.new.out) c.requires.prices c.in_ok-read_row.ensures.row c.lies_below-below.result c.lies_below-below.ensures c.in-Some.q
    (sym c.in-Ok.ensures.cheapest ∙ c.in-Some.is) c.limit_broken.result c.limit_broken.ensures

pub return_along-requires-clause-basic : goal.return_along-requires-clause-basic
return_along-requires-clause-basic g c =
    outside_basic c.args.at.now.lp.now c.args.at.now.basis.now (value_at c.args.at.now.point.now) c.args.r c.requires.outside

pub return_along-requires-clause-limit : goal.return_along-requires-clause-limit
return_along-requires-clause-limit g c =
    return_limit c.args.at.now.lp.now c.requires.lawful c.requires.no_change c.args.at.now.basis.now (value_at c.args.at.now.point.now)
    (g.R.Rates.state c.args.rates.now).matrix
    (g.R.Rates.state c.args.rates.now).basics c.requires.rates c.requires.point c.requires.uncrossed c.args.r c.requires.outside
    (value_at c.args.prices.now)
    (value_at c.read_row.new.out) c.requires.prices c.in_ok-read_row.ensures.row c.lies_below-below.result c.lies_below-below.ensures c.in-Some.q
    (sym c.in-Ok.ensures.cheapest ∙ c.in-Some.is) c.limit_broken.result c.limit_broken.ensures

pub return_along-requires-clause-pivot : goal.return_along-requires-clause-pivot
return_along-requires-clause-pivot g c =
    return_pivot c.args.at.now.lp.now c.requires.lawful c.requires.no_change c.args.at.now.basis.now (value_at c.args.at.now.point.now)
    (g.R.Rates.state c.args.rates.now).matrix
    (g.R.Rates.state c.args.rates.now).basics c.requires.rates c.requires.point c.requires.uncrossed c.args.r c.requires.outside
    (value_at c.args.prices.now)
    (value_at c.read_row.new.out) c.requires.prices c.in_ok-read_row.ensures.row c.lies_below-below.result c.lies_below-below.ensures c.in-Some.q
    (sym c.in-Ok.ensures.cheapest ∙ c.in-Some.is) c.limit_broken.result c.limit_broken.ensures

pub returns-in_err-by-clause-turn : goal.returns-in_err-by-clause-turn
returns-in_err-by-clause-turn g c =
    let p = err_from_is_err_and c.from_residual-in_err-by.result c.from_residual-in_err-by.ensures.1 in
    rw (p.1, p.2)
    (return_stops c.args.at.now.lp.now c.requires.lawful c.requires.no_change c.args.at.now.basis.now (value_at c.args.at.now.point.now)
    (g.R.Rates.state c.args.rates.now).matrix
    (g.R.Rates.state c.args.rates.now).basics c.requires.rates c.requires.point c.requires.uncrossed c.args.r c.requires.outside
    (value_at c.args.prices.now)
    (value_at c.read_row.new.out) c.requires.prices c.in_ok-read_row.ensures.row c.lies_below-below.result c.lies_below-below.ensures c.in-Some.q
    (sym c.in-Ok.ensures.cheapest ∙ c.in-Some.is) c.limit_broken.result c.limit_broken.ensures c.args.at.now.left
    (g.R.Rates.state c.args.rates.now).waypoints (g.R.Rates.state c.read_row.new.rates).waypoints (g.R.Rates.state c.return_along.new.rates).waypoints
    c.in_err-by.field-0.0 c.in_ok-read_row.ensures.rates.1 c.in_err-by.ensures.overflow)

pub returns-clause-turn : goal.returns-clause-turn
returns-clause-turn g c =
    return_moves c.args.at.now.lp.now c.requires.lawful c.requires.no_change c.args.at.now.basis.now (value_at c.args.at.now.point.now)
    (g.R.Rates.state c.args.rates.now).matrix
    (g.R.Rates.state c.args.rates.now).basics c.requires.rates c.requires.point c.requires.uncrossed c.args.r c.requires.outside
    (value_at c.args.prices.now)
    (value_at c.read_row.new.out) c.requires.prices c.in_ok-read_row.ensures.row c.lies_below-below.result c.lies_below-below.ensures c.in-Some.q
    (sym c.in-Ok.ensures.cheapest ∙ c.in-Some.is) c.limit_broken.result c.limit_broken.ensures (value_at c.return_along.new.direction)
    c.in_ok-by.ensures.direction c.in_ok-by.by c.in_ok-by.ensures.blocking_variable c.args.at.now.left (omega (arith, c.if-at-eq0.false))

pub returns-in_err-by-clause-rates : goal.returns-in_err-by-clause-rates
returns-in_err-by-clause-rates g c = kept_then c.in_ok-read_row.ensures.rates c.in_err-by.ensures.rates

pub returns-clause-rates : goal.returns-clause-rates
returns-clause-rates g c = kept_then c.in_ok-read_row.ensures.rates c.in_ok-by.ensures.rates
