use Rattle.std.proofs.Common.{◌∙◌, arith}
use Rattle.lp_definitions.specs.LinearProgram.{value_at, size}
use Rattle.simplex_definitions.specs.Moves.{step_length}
use Rattle.basis_values.specs.Motions.{motion}
use Rattle.basis_values.proofs.Nearest.{found_within}
use Rattle.bounded_primal.proofs.BlockingVariableFacts.{stop_found, nothing_found}
use Rattle.bounded_primal.proofs.stopping.blocking_variable_from.Goals as goal
use Rattle.lp_laws.proofs.Places.{value_read}

pub returns-in-None-clause-blocking_variable : goal.returns-in-None-clause-blocking_variable
returns-in-None-clause-blocking_variable c =
    nothing_found c.args.lp.now (value_at c.args.point.now)
    (value_at c.args.direction.now) c.args.up c.in_ok-found.found c.in_ok-found.ensures.nearest c.in-None.is

pub returns-in-Some-clause-blocking_variable : goal.returns-in-Some-clause-blocking_variable
returns-in-Some-clause-blocking_variable c =
    let within =
    found_within (step_length c.args.lp.now (value_at c.args.point.now) (motion (value_at c.args.direction.now) c.args.up))
    (size c.args.lp.now.matrix) c.in_ok-found.found c.in-Some.nearest c.in_ok-found.ensures.nearest c.in-Some.is in
    stop_found c.args.lp.now (value_at c.args.point.now)
    (value_at c.args.direction.now) c.args.up c.in_ok-found.found c.in-Some.nearest c.reduced.result c.counted-speed.result c.counted.result
    c.limit_reached.result
    c.in_ok-found.ensures.nearest c.in-Some.is
    (c.reduced.ensures
    ∙ value_read c.args.direction.now c.in-Some.nearest.p c.index-rates-nearest.result (omega (arith, within.0, within.1))
    (rw c.values-rates.ensures at c.index-rates-nearest.is)) c.counted-speed.ensures c.counted.ensures c.limit_reached.ensures
