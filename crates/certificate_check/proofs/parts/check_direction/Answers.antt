use Rattle.std.proofs.Common.{◌∙◌, sym}
use Rattle.lp_definitions.specs.LinearProgram.{value_at}
use Rattle.certificate_check.proofs.Meaning.{keeps_if_checked}
use Rattle.certificate_check.proofs.TrueClaims.{never_equations}
use Rattle.certificate_check.proofs.parts.check_direction.Goals as goal

pub returns-clause-keeps : goal.returns-clause-keeps
returns-clause-keeps c =
    λ checked. keeps_if_checked c.args.lp.now 3 (value_at c.args.direction.now) (sym (c.verdict.ensures ∙ c.equations_hold.ensures) ∙ checked)

pub returns-clause-never_fails : goal.returns-clause-never_fails
returns-clause-never_fails c =
    λ holds part number failed. (never_equations c.args.lp.now 3 (value_at c.args.direction.now) holds).never part number
    (sym (c.verdict.ensures ∙ c.equations_hold.ensures) ∙ failed)
