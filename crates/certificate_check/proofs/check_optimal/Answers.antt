use Rattle.std.proofs.Common.{◌≡◌, ◌∙◌, sym}
use Rattle.lp_definitions.specs.LinearProgram.{value_at}
use Rattle.lp_definitions.specs.Solutions.{IsFeasible, IsDualCertificate}
use Rattle.lp_laws.proofs.Duality.{best_by_prices}
use Rattle.check_definitions.specs.declared.Verdict.TheVariants.{Checked}
use Rattle.certificate_check.proofs.TrueClaims.{never_optimal}
use Rattle.certificate_check.proofs.Meaning.{optimal_if_checked}
use Rattle.certificate_check.proofs.check_optimal.Goals as goal
use Rattle.certificate_check.proofs.check_optimal.Goals.{After-verdict}

-- the point is feasible, and the prices prove it best
proved : (c : After-verdict) → c.verdict.result ≡ Checked →
    IsFeasible c.args.lp.now (value_at c.args.point.now) × IsDualCertificate c.args.lp.now (value_at c.args.point.now) (value_at c.args.prices.now)
proved c checked =
    optimal_if_checked c.args.lp.now c.number_of_variables-size.ensures.lawful.is_matrix (value_at c.args.point.now) (value_at c.args.prices.now)
    (sym (c.verdict.ensures ∙ c.optimal.ensures) ∙ checked)

pub returns-clause-feasible : goal.returns-clause-feasible
returns-clause-feasible c = λ checked. (proved c checked).0

pub returns-clause-best : goal.returns-clause-best
returns-clause-best c = λ checked.
    let both = proved c checked in
    best_by_prices c.args.lp.now c.number_of_variables-size.ensures.lawful (value_at c.args.point.now) (value_at c.args.prices.now) both.0 both.1

pub returns-clause-prices : goal.returns-clause-prices
returns-clause-prices c = λ checked. (proved c checked).1

pub returns-clause-never_fails : goal.returns-clause-never_fails
returns-clause-never_fails c = λ feasible certificate part number failed.
    (never_optimal c.args.lp.now c.number_of_variables-size.ensures.lawful.is_matrix (value_at c.args.point.now)
    (value_at c.args.prices.now) feasible certificate).never part number
    (sym (c.verdict.ensures ∙ c.optimal.ensures) ∙ failed)
