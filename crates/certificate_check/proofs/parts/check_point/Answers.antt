use Rattle.std.proofs.Common.{◌∙◌, sym}
use Rattle.lp_definitions.specs.LinearProgram.{value_at}
use Rattle.certificate_check.proofs.Meaning.{feasible_if_checked}
use Rattle.certificate_check.proofs.TrueClaims.{never_point}
use Rattle.certificate_check.proofs.parts.check_point.Goals as goal

pub returns-clause-feasible : goal.returns-clause-feasible
returns-clause-feasible c =
    λ checked. feasible_if_checked c.args.lp.now (value_at c.args.point.now) (sym (c.verdict.ensures ∙ c.point_is_feasible.ensures) ∙ checked)

pub returns-clause-never_fails : goal.returns-clause-never_fails
returns-clause-never_fails c =
    λ holds part number failed. (never_point c.args.lp.now (value_at c.args.point.now) holds).never part number
    (sym (c.verdict.ensures ∙ c.point_is_feasible.ensures) ∙ failed)
