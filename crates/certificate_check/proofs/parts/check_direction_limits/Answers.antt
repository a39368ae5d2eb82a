use Rattle.std.proofs.Common.{◌∙◌, sym}
use Rattle.lp_definitions.specs.LinearProgram.{value_at}
use Rattle.certificate_check.proofs.Meaning.{free_if_checked}
use Rattle.certificate_check.proofs.TrueClaims.{never_free}
use Rattle.certificate_check.proofs.parts.check_direction_limits.Goals as goal

pub returns-clause-free : goal.returns-clause-free
returns-clause-free c =
    λ checked. free_if_checked c.args.lp.now (value_at c.args.direction.now) (sym (c.verdict.ensures ∙ c.direction_is_free.ensures) ∙ checked)

pub returns-clause-never_fails : goal.returns-clause-never_fails
returns-clause-never_fails c =
    λ holds part number failed. (never_free c.args.lp.now (value_at c.args.direction.now) holds).never part number
    (sym (c.verdict.ensures ∙ c.direction_is_free.ensures) ∙ failed)
