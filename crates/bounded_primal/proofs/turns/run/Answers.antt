use Rattle.std.proofs.Common.{sym, ◌∙◌, arith}
use Rattle.std.proofs.lemmas.Result.{err_from_is_err_and}
use Rattle.lp_definitions.specs.LinearProgram.{value_at}
use Rattle.basis_values.proofs.Kept.{kept_then}
use Rattle.bounded_primal.proofs.TurnCases.{point_stops_later, run_within, run_nonbasic, run_may, run_stops, run_ends, run_at_limit, run_moves}
use Rattle.bounded_primal.proofs.turns.run.Goals as goal

pub blocking_variable_of-requires-clause-within : goal.blocking_variable_of-requires-clause-within
blocking_variable_of-requires-clause-within g c =
    run_within c.args.at.now.lp.now c.args.at.now.basis.now (value_at c.args.at.now.point.now) (g.R.Rates.state c.args.rates.now).matrix
    (g.R.Rates.state c.args.rates.now).basics c.requires.rates c.requires.point c.requires.uncrossed c.requires.inside c.args.moved c.requires.moves

pub blocking_variable_of-requires-clause-nonbasic : goal.blocking_variable_of-requires-clause-nonbasic
blocking_variable_of-requires-clause-nonbasic g c =
    run_nonbasic c.args.at.now.lp.now c.args.at.now.basis.now (value_at c.args.at.now.point.now) (g.R.Rates.state c.args.rates.now).matrix
    (g.R.Rates.state c.args.rates.now).basics c.requires.rates c.requires.point c.requires.uncrossed c.requires.inside c.args.moved c.requires.moves

pub blocking_variable_of-requires-clause-may : goal.blocking_variable_of-requires-clause-may
blocking_variable_of-requires-clause-may g c =
    run_may c.args.at.now.lp.now c.args.at.now.basis.now (value_at c.args.at.now.point.now) (g.R.Rates.state c.args.rates.now).matrix
    (g.R.Rates.state c.args.rates.now).basics c.requires.rates c.requires.point c.requires.uncrossed c.requires.inside c.args.moved c.requires.moves

pub returns-in_err-blocking_variable_of-clause-turn : goal.returns-in_err-blocking_variable_of-clause-turn
returns-in_err-blocking_variable_of-clause-turn g c =
    let p = err_from_is_err_and c.from_residual.result c.from_residual.ensures.1 in
    rw (p.1, p.2)
    (run_stops c.args.at.now.lp.now c.args.at.now.basis.now (value_at c.args.at.now.point.now) (g.R.Rates.state c.args.rates.now).matrix
    (g.R.Rates.state c.args.rates.now).basics c.requires.rates c.requires.point c.requires.uncrossed c.requires.inside c.args.moved c.requires.moves
    c.args.at.now.left (g.R.Rates.state c.args.rates.now).waypoints (g.R.Rates.state c.blocking_variable_of.new.rates).waypoints
    c.in_err-blocking_variable_of.field-0.0 c.in_err-blocking_variable_of.ensures.overflow)

pub returns-else-at-eq0-clause-turn : goal.returns-else-at-eq0-clause-turn
returns-else-at-eq0-clause-turn g c =
    run_moves c.args.at.now.lp.now c.args.at.now.basis.now (value_at c.args.at.now.point.now) (g.R.Rates.state c.args.rates.now).matrix
    (g.R.Rates.state c.args.rates.now).basics c.requires.rates c.requires.point c.requires.uncrossed c.requires.inside c.args.moved c.requires.moves
    (value_at c.blocking_variable_of.new.direction) c.in_ok-blocking_variable_of.ensures.direction c.in-Some.by c.args.at.now.left
    (sym c.in-Some.is ∙ c.in_ok-blocking_variable_of.ensures.blocking_variable) (omega (arith, c.if-at-eq0.false))

pub returns-then-at-eq0-clause-turn : goal.returns-then-at-eq0-clause-turn
returns-then-at-eq0-clause-turn g c =
    run_at_limit c.args.at.now.lp.now c.args.at.now.basis.now (value_at c.args.at.now.point.now) (g.R.Rates.state c.args.rates.now).matrix
    (g.R.Rates.state c.args.rates.now).basics c.requires.rates c.requires.point c.requires.uncrossed c.requires.inside c.args.moved c.requires.moves
    (value_at c.blocking_variable_of.new.direction) c.in_ok-blocking_variable_of.ensures.direction c.args.at.now.left
    (g.R.Rates.state c.args.rates.now).waypoints
    (g.R.Rates.state c.blocking_variable_of.new.rates).waypoints c.in-Some.by (sym c.in-Some.is ∙ c.in_ok-blocking_variable_of.ensures.blocking_variable)
    c.if-at-eq0.true

pub returns-in_err-point-in-None-clause-turn : goal.returns-in_err-point-in-None-clause-turn
returns-in_err-point-in-None-clause-turn g c =
    let p = err_from_is_err_and c.from_residual-in_err-point-in-None.result c.from_residual-in_err-point-in-None.ensures.1 in
    rw (p.1, p.2)
    (point_stops_later c.args.at.now.lp.now c.args.at.now.basis.now c.args.at.now.left (g.R.Rates.state c.args.rates.now).waypoints
    (g.R.Rates.state c.blocking_variable_of.new.rates).waypoints
    (g.R.Rates.state c.whole_point.new.rates).waypoints c.in_err-point-in-None.field-0.0 c.blocking_variable_of.ensures.rates.1
    c.in_err-point-in-None.ensures.overflow)

pub returns-in_ok-unbounded_ending-in-None-clause-turn : goal.returns-in_ok-unbounded_ending-in-None-clause-turn
returns-in_ok-unbounded_ending-in-None-clause-turn g c =
    run_ends c.args.at.now.lp.now c.args.at.now.basis.now (value_at c.args.at.now.point.now) (g.R.Rates.state c.args.rates.now).matrix
    (g.R.Rates.state c.args.rates.now).basics c.requires.rates c.requires.point c.requires.uncrossed c.requires.inside c.args.moved c.requires.moves
    (value_at c.blocking_variable_of.new.direction) c.in_ok-blocking_variable_of.ensures.direction c.in_ok-point-in-None.point.items c.args.at.now.steps
    c.in_ok-unbounded_ending-in-None.field-0 (sym c.in-None.is ∙ c.in_ok-blocking_variable_of.ensures.blocking_variable)
    c.in_ok-point-in-None.ensures.places c.in_ok-point-in-None.ensures.point (rw c.values.ensures at c.in_ok-unbounded_ending-in-None.ensures)

pub returns-in_err-point-in-None-clause-rates : goal.returns-in_err-point-in-None-clause-rates
returns-in_err-point-in-None-clause-rates g c = kept_then c.blocking_variable_of.ensures.rates c.whole_point.ensures.rates

pub returns-in_err-unbounded_ending-in-None-clause-rates : goal.returns-in_err-unbounded_ending-in-None-clause-rates
returns-in_err-unbounded_ending-in-None-clause-rates g c = kept_then c.blocking_variable_of.ensures.rates c.whole_point.ensures.rates

pub returns-in_ok-unbounded_ending-in-None-clause-rates : goal.returns-in_ok-unbounded_ending-in-None-clause-rates
returns-in_ok-unbounded_ending-in-None-clause-rates g c = kept_then c.blocking_variable_of.ensures.rates c.whole_point.ensures.rates
