use Rattle.std.proofs.Common.{◌∙◌, sym, ap, ap₂, [], ◌∷◌}
use Rattle.exact_values.specs.Rational.{zero_ℚ}
use Rattle.exact_values.specs.Tests.{eq_ℚ}
use Rattle.lp_definitions.specs.LinearProgram.{value_at}
use Rattle.check_definitions.specs.Steps.{comparison, verdict_of, sum_steps, sum_of}
use Rattle.check_definitions.specs.Checks.{row_products}
use Rattle.certificate_check.proofs.Each.{goes_on, value_exit}
use Rattle.certificate_check.proofs.point.equation_holds.Goals as goal

pub returns-in_err-sum : goal.returns-in_err-sum
returns-in_err-sum c =
    let z = value_at c.args.values.now in
    let products = row_products c.args.lp.now z c.args.row in
    value_exit c.from_residual.result (sum_steps zero_ℚ products) (comparison c.args.part c.args.row (eq_ℚ (sum_of zero_ℚ products) (z c.args.row)) ∷ [])
    c.in_err-sum.field-0.0 c.in_err-sum.ensures c.from_residual.ensures.1

pub returns : goal.returns
returns c =
    let z = value_at c.args.values.now in
    let products = row_products c.args.lp.now z c.args.row in
    c.compare.ensures
    ∙ ap (λ b. verdict_of (comparison c.args.part c.args.row b ∷ [])) (c.is_equal.ensures ∙ ap₂ eq_ℚ c.in_ok-sum.ensures.1 c.value_of.ensures)
    ∙ sym (goes_on (sum_steps zero_ℚ products) (comparison c.args.part c.args.row (eq_ℚ (sum_of zero_ℚ products) (z c.args.row)) ∷ []) c.in_ok-sum.ensures.0)
