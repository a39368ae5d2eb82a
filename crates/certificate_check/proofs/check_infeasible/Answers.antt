use Rattle.std.proofs.Common.{◌≡◌, ◌∙◌, sym}
use Rattle.lp_definitions.specs.LinearProgram.{value_at}
use Rattle.lp_definitions.specs.Solutions.{IsRay}
use Rattle.lp_laws.proofs.Duality.{infeasible_by_ray}
use Rattle.check_definitions.specs.declared.Verdict.TheVariants.{Checked}
use Rattle.certificate_check.proofs.TrueClaims.{never_infeasible}
use Rattle.certificate_check.proofs.Meaning.{infeasible_ray_if_checked}
use Rattle.certificate_check.proofs.check_infeasible.Goals as goal
use Rattle.certificate_check.proofs.check_infeasible.Goals.{After-verdict}

proved : (c : After-verdict) → c.verdict.result ≡ Checked → IsRay c.args.lp.now (value_at c.args.ray.now)
proved c checked =
    infeasible_ray_if_checked c.args.lp.now c.number_of_variables-size.ensures.lawful.is_matrix (value_at c.args.ray.now)
    (sym (c.verdict.ensures ∙ c.infeasible.ensures) ∙ checked)

pub returns-clause-ray : goal.returns-clause-ray
returns-clause-ray c = proved c

pub returns-clause-infeasible : goal.returns-clause-infeasible
returns-clause-infeasible c = λ checked. infeasible_by_ray c.args.lp.now (value_at c.args.ray.now) (proved c checked)

pub returns-clause-never_fails : goal.returns-clause-never_fails
returns-clause-never_fails c = λ ray part number failed.
    (never_infeasible c.args.lp.now c.number_of_variables-size.ensures.lawful.is_matrix (value_at c.args.ray.now) ray).never part number
    (sym (c.verdict.ensures ∙ c.infeasible.ensures) ∙ failed)
