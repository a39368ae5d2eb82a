use Rattle.std.proofs.Common.{rules}
use Rattle.lp_definitions.specs.LinearProgram.{value_at}
use Rattle.check_definitions.specs.Checks.{ray_column}
use Rattle.certificate_check.proofs.Each.{each_passed, each_exit}
use Rattle.certificate_check.proofs.ray.vanishes.Goals as goal

pub returns-in_err-vanishes_on : goal.returns-in_err-vanishes_on
returns-in_err-vanishes_on c =
    each_exit c.from_residual.result (ray_column c.args.lp.now (value_at c.args.ray.now)) c.args.lp.now.cols c.loop-i.i c.loop-i.invariant (search rules)
    c.in_err-vanishes_on.field-0.0 c.in_err-vanishes_on.ensures c.from_residual.ensures.1

pub loop-i-preserved : goal.loop-i-preserved
loop-i-preserved c =
    each_passed (ray_column c.args.lp.now (value_at c.args.ray.now)) c.args.lp.now.cols c.loop-i.i c.loop-i.invariant (search rules) c.in_ok-vanishes_on.ensures
