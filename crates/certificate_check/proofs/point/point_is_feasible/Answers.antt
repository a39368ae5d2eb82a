use Rattle.std.proofs.Common.{◌∙◌, sym}
use Rattle.lp_definitions.specs.LinearProgram.{value_at}
use Rattle.check_definitions.specs.Checks.{equations, within_limits}
use Rattle.certificate_check.proofs.Each.{goes_on, part_exit}
use Rattle.certificate_check.proofs.point.point_is_feasible.Goals as goal

pub returns-in_err-equations_hold : goal.returns-in_err-equations_hold
returns-in_err-equations_hold c =
    let z = value_at c.args.point.now in
    part_exit c.from_residual.result (equations c.args.lp.now 1 z)
    (within_limits c.args.lp.now z) c.in_err-equations_hold.field-0.0 c.in_err-equations_hold.ensures c.from_residual.ensures.1

pub returns : goal.returns
returns c =
    let z = value_at c.args.point.now in
    c.limits_hold.ensures ∙ sym (goes_on (equations c.args.lp.now 1 z) (within_limits c.args.lp.now z) (sym c.in_ok-equations_hold.ensures))
