use Rattle.std.proofs.Common.{rules}
use Rattle.lp_definitions.specs.LinearProgram.{value_at, size}
use Rattle.check_definitions.specs.Checks.{within_limit}
use Rattle.certificate_check.proofs.Each.{each_passed, each_exit}
use Rattle.certificate_check.proofs.point.limits_hold.Goals as goal

pub returns-in_err-limits_hold_at : goal.returns-in_err-limits_hold_at
returns-in_err-limits_hold_at c =
    each_exit c.from_residual.result (within_limit c.args.lp.now (value_at c.args.point.now)) (size c.args.lp.now.matrix) c.loop-i.i c.loop-i.invariant
    (search rules)
    c.in_err-limits_hold_at.field-0.0 c.in_err-limits_hold_at.ensures c.from_residual.ensures.1

pub loop-i-preserved : goal.loop-i-preserved
loop-i-preserved c =
    each_passed (within_limit c.args.lp.now (value_at c.args.point.now)) (size c.args.lp.now.matrix) c.loop-i.i c.loop-i.invariant
    (search rules) c.in_ok-limits_hold_at.ensures
