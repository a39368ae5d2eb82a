use Rattle.std.proofs.Common.{◌∙◌, sym, ap, ap₂, [], ◌∷◌}
use Rattle.exact_values.specs.Rational.{zero_ℚ}
use Rattle.exact_values.specs.Tests.{lt_ℚ}
use Rattle.lp_definitions.specs.LinearProgram.{value_at}
use Rattle.check_definitions.specs.Steps.{comparison, verdict_of}
use Rattle.check_definitions.specs.Checks.{ray_limits, ray_sum, multiplied}
use Rattle.certificate_check.proofs.Each.{goes_on, part_exit}
use Rattle.certificate_check.proofs.ray.limits_contradict.Goals as goal

pub returns-in_err-sum : goal.returns-in_err-sum
returns-in_err-sum c =
    let w = value_at c.args.ray.now in
    part_exit c.from_residual.result (ray_limits c.args.lp.now w zero_ℚ (multiplied c.args.lp.now w)) (ray_sum c.args.lp.now w)
    c.in_err-sum.field-0.0 c.in_err-sum.ensures c.from_residual.ensures.1

pub returns : goal.returns
returns c =
    let w = value_at c.args.ray.now in
    c.compare.ensures ∙ ap (λ b. verdict_of (comparison 3 0 b ∷ [])) (c.is_less.ensures ∙ ap₂ lt_ℚ c.in_ok-sum.ensures.1 c.whole.ensures)
    ∙ sym (goes_on (ray_limits c.args.lp.now w zero_ℚ (multiplied c.args.lp.now w)) (ray_sum c.args.lp.now w) c.in_ok-sum.ensures.0)
