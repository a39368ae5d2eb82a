use Rattle.std.proofs.Common.{◌∙◌, sym}
use Rattle.lp_definitions.specs.LinearProgram.{value_at}
use Rattle.certificate_check.proofs.Meaning.{vanishes_if_checked}
use Rattle.certificate_check.proofs.TrueClaims.{never_columns}
use Rattle.certificate_check.proofs.parts.check_combination.Goals as goal

pub returns-clause-vanishes : goal.returns-clause-vanishes
returns-clause-vanishes c =
    λ checked. vanishes_if_checked c.args.lp.now c.number_of_variables-size.ensures.lawful.is_matrix (value_at c.args.ray.now)
    (sym (c.verdict.ensures ∙ c.vanishes.ensures) ∙ checked)

pub returns-clause-never_fails : goal.returns-clause-never_fails
returns-clause-never_fails c =
    λ holds part number failed.
    (never_columns c.args.lp.now c.number_of_variables-size.ensures.lawful.is_matrix (value_at c.args.ray.now) holds).never part number
    (sym (c.verdict.ensures ∙ c.vanishes.ensures) ∙ failed)
