use Rattle.std.proofs.Common.{◌≡◌, ◌∙◌, sym}
use Rattle.lp_definitions.specs.LinearProgram.{value_at}
use Rattle.lp_definitions.specs.Solutions.{ProvesUnbounded}
use Rattle.lp_laws.proofs.Duality.{unbounded_by_direction}
use Rattle.check_definitions.specs.declared.Verdict.TheVariants.{Checked}
use Rattle.certificate_check.proofs.TrueClaims.{never_unbounded}
use Rattle.certificate_check.proofs.Meaning.{unbounded_if_checked}
use Rattle.certificate_check.proofs.check_unbounded.Goals as goal
use Rattle.certificate_check.proofs.check_unbounded.Goals.{After-verdict}

proved : (c : After-verdict) → c.verdict.result ≡ Checked → ProvesUnbounded c.args.lp.now (value_at c.args.point.now) (value_at c.args.direction.now)
proved c checked =
    unbounded_if_checked c.args.lp.now (value_at c.args.point.now) (value_at c.args.direction.now) (sym (c.verdict.ensures ∙ c.unbounded.ensures) ∙ checked)

pub returns-clause-proof : goal.returns-clause-proof
returns-clause-proof c = proved c

pub returns-clause-unbounded : goal.returns-clause-unbounded
returns-clause-unbounded c = λ checked. unbounded_by_direction c.args.lp.now (value_at c.args.point.now) (value_at c.args.direction.now) (proved c checked)

pub returns-clause-never_fails : goal.returns-clause-never_fails
returns-clause-never_fails c = λ proof part number failed.
    (never_unbounded c.args.lp.now (value_at c.args.point.now) (value_at c.args.direction.now) proof).never part number
    (sym (c.verdict.ensures ∙ c.unbounded.ensures) ∙ failed)
