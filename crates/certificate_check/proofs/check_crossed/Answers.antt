use Rattle.std.proofs.Common.{rules, ◌≡◌, ◌∙◌, sym}
use Rattle.lp_definitions.specs.Solutions.{IsCrossed}
use Rattle.lp_laws.proofs.Duality.{infeasible_by_crossed}
use Rattle.check_definitions.specs.declared.Verdict.TheVariants.{Checked}
use Rattle.check_definitions.specs.Checks.{crossed_check}
use Rattle.certificate_check.proofs.TrueClaims.{crossed_holds}
use Rattle.certificate_check.proofs.Meaning.{crossed_if_checked}
use Rattle.certificate_check.proofs.check_crossed.Goals as goal
use Rattle.certificate_check.proofs.check_crossed.Goals.{After-verdict}

exact : (c : After-verdict) → c.verdict.result ≡ crossed_check c.args.lp.now c.args.k
exact c = search rules

proved : (c : After-verdict) → c.verdict.result ≡ Checked → IsCrossed c.args.lp.now c.args.k
proved c checked = crossed_if_checked c.args.lp.now c.args.k c.requires (sym (exact c) ∙ checked)

pub returns-clause-crossed : goal.returns-clause-crossed
returns-clause-crossed c = (proved c, λ crossed. exact c ∙ crossed_holds c.args.lp.now c.args.k crossed)

pub returns-clause-infeasible : goal.returns-clause-infeasible
returns-clause-infeasible c = λ checked. infeasible_by_crossed c.args.lp.now c.args.k (proved c checked)
