use Rattle.std.proofs.Common.{◌∙◌, sym}
use Rattle.lp_definitions.specs.LinearProgram.{value_at}
use Rattle.certificate_check.proofs.Meaning.{meets_if_checked}
use Rattle.certificate_check.proofs.TrueClaims.{never_limits_met}
use Rattle.certificate_check.proofs.parts.check_ray_limits.Goals as goal

pub returns-clause-meets : goal.returns-clause-meets
returns-clause-meets c = λ checked. meets_if_checked c.args.lp.now (value_at c.args.ray.now) (sym (c.verdict.ensures ∙ c.limits_are_met.ensures) ∙ checked)

pub returns-clause-never_fails : goal.returns-clause-never_fails
returns-clause-never_fails c =
    λ holds part number failed. (never_limits_met c.args.lp.now (value_at c.args.ray.now) holds).never part number
    (sym (c.verdict.ensures ∙ c.limits_are_met.ensures) ∙ failed)
