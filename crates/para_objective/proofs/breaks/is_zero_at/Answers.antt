use Rattle.std.proofs.Common.{◌≡◌, rules, sym, ap, subst, ◌∙◌}
use Rattle.exact_values.specs.Rational.{ℚ, zero_ℚ, neg_ℚ, ◌+ℚ◌, ◌*ℚ◌}
use Rattle.exact_values.specs.Tests.{eq_ℚ}
use Rattle.exact_values.proofs.TestsLaws.{eq_fails_from_apart}
use Rattle.frac128.specs.Operations.{TermsFit}
use Rattle.lp_laws.proofs.Values.{clash}
use Rattle.para_objective.proofs.EnteringVariables.{zero_test, opposite_if_zero}
use Rattle.para_objective.proofs.breaks.is_zero_at.Goals as goal

pub returns-in-Ok : goal.returns-in-Ok
returns-in-Ok c =
    let is : c.is_eq.result ≡ eq_ℚ c.in-Ok.product (neg_ℚ c.args.price) = search rules in
    is ∙ zero_test c.args.price c.in-Ok.product ∙ ap (λ q. eq_ℚ (c.args.price +ℚ q) zero_ℚ) c.in-Ok.ensures.value

pub returns-in-Err : goal.returns-in-Err
returns-in-Err c =
    let fits : TermsFit c.neg-opposite.result = search rules in
    sym (eq_fails_from_apart (c.args.price +ℚ c.args.theta *ℚ c.args.rate) zero_ℚ
    (λ z. clash (sym
    (c.in-Err.ensures.fits.1
    (subst (λ (q : ℚ). TermsFit q) (c.neg-opposite.ensures ∙ sym (opposite_if_zero c.args.price (c.args.theta *ℚ c.args.rate) z)) fits)))))
