use Rattle.std.proofs.Common.{◌∙◌, sym, ◌++◌}
use Rattle.exact_values.specs.Rational.{zero_ℚ}
use Rattle.lp_definitions.specs.LinearProgram.{value_at}
use Rattle.check_definitions.specs.Checks.{ray_columns, ray_limits, ray_sum, multiplied}
use Rattle.certificate_check.proofs.Each.{goes_on, part_exit}
use Rattle.certificate_check.proofs.infeasible.Goals as goal

pub returns-in_err-vanishes : goal.returns-in_err-vanishes
returns-in_err-vanishes c =
    let p = c.args.lp.now in
    let w = value_at c.args.ray.now in
    part_exit c.from_residual.result (ray_columns p w)
    (ray_limits p w zero_ℚ (multiplied p w) ++ ray_sum p w) c.in_err-vanishes.field-0.0 c.in_err-vanishes.ensures c.from_residual.ensures.1

pub returns : goal.returns
returns c =
    let p = c.args.lp.now in
    let w = value_at c.args.ray.now in
    c.limits_contradict.ensures
    ∙ sym (goes_on (ray_columns p w) (ray_limits p w zero_ℚ (multiplied p w) ++ ray_sum p w) (sym c.in_ok-vanishes.ensures))
