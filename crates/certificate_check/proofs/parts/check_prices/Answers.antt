use Rattle.std.proofs.Common.{◌∙◌, sym}
use Rattle.lp_definitions.specs.LinearProgram.{value_at}
use Rattle.certificate_check.proofs.Meaning.{reduced_if_checked}
use Rattle.certificate_check.proofs.TrueClaims.{never_costs}
use Rattle.certificate_check.proofs.parts.check_prices.Goals as goal

pub returns-clause-reduced : goal.returns-clause-reduced
returns-clause-reduced c =
    λ checked. reduced_if_checked c.args.lp.now c.number_of_variables-size.ensures.lawful.is_matrix (value_at c.args.prices.now)
    (sym (c.verdict.ensures ∙ c.are_reduced_costs.ensures) ∙ checked)

pub returns-clause-never_fails : goal.returns-clause-never_fails
returns-clause-never_fails c =
    λ holds part number failed.
    (never_costs c.args.lp.now c.number_of_variables-size.ensures.lawful.is_matrix (value_at c.args.prices.now) holds).never part number
    (sym (c.verdict.ensures ∙ c.are_reduced_costs.ensures) ∙ failed)
