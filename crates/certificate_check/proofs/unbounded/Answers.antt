use Rattle.std.proofs.Common.{◌∙◌, sym, ◌++◌}
use Rattle.lp_definitions.specs.LinearProgram.{value_at}
use Rattle.check_definitions.specs.Checks.{feasible_point, equations, free_direction, improving}
use Rattle.certificate_check.proofs.Each.{goes_on, part_exit}
use Rattle.certificate_check.proofs.unbounded.Goals as goal

pub returns-in_err-point_is_feasible : goal.returns-in_err-point_is_feasible
returns-in_err-point_is_feasible c =
    let p = c.args.lp.now in
    let z = value_at c.args.point.now in
    let d = value_at c.args.direction.now in
    part_exit c.from_residual.result (feasible_point p z)
    (equations p 3 d ++
    (free_direction p d ++ improving p d)) c.in_err-point_is_feasible.field-0.0 c.in_err-point_is_feasible.ensures c.from_residual.ensures.1

pub returns-in_err-equations_hold : goal.returns-in_err-equations_hold
returns-in_err-equations_hold c =
    let p = c.args.lp.now in
    let z = value_at c.args.point.now in
    let d = value_at c.args.direction.now in
    part_exit c.from_residual-in_err-equations_hold.result (equations p 3 d)
    (free_direction p d ++ improving p d) c.in_err-equations_hold.field-0.0 c.in_err-equations_hold.ensures c.from_residual-in_err-equations_hold.ensures.1
    ∙ sym (goes_on (feasible_point p z) (equations p 3 d ++ (free_direction p d ++ improving p d)) (sym c.in_ok-point_is_feasible.ensures))

pub returns-in_err-direction_is_free : goal.returns-in_err-direction_is_free
returns-in_err-direction_is_free c =
    let p = c.args.lp.now in
    let z = value_at c.args.point.now in
    let d = value_at c.args.direction.now in
    part_exit c.from_residual-in_err-direction_is_free.result (free_direction p d)
    (improving p d) c.in_err-direction_is_free.field-0.0 c.in_err-direction_is_free.ensures c.from_residual-in_err-direction_is_free.ensures.1
    ∙ sym (goes_on (equations p 3 d) (free_direction p d ++ improving p d) (sym c.in_ok-equations_hold.ensures))
    ∙ sym (goes_on (feasible_point p z) (equations p 3 d ++ (free_direction p d ++ improving p d)) (sym c.in_ok-point_is_feasible.ensures))

pub returns : goal.returns
returns c =
    let p = c.args.lp.now in
    let z = value_at c.args.point.now in
    let d = value_at c.args.direction.now in
    c.direction_improves.ensures
    ∙ sym (goes_on (free_direction p d) (improving p d) (sym c.in_ok-direction_is_free.ensures))
    ∙ sym (goes_on (equations p 3 d) (free_direction p d ++ improving p d) (sym c.in_ok-equations_hold.ensures))
    ∙ sym (goes_on (feasible_point p z) (equations p 3 d ++ (free_direction p d ++ improving p d)) (sym c.in_ok-point_is_feasible.ensures))
