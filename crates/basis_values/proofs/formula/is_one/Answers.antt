use Rattle.std.proofs.Common.{◌≡◌, sym, ◌∙◌, ap}
use Rattle.std.specs.Ordering.{is_eq}
use Rattle.exact_values.specs.Rational.{ℚ, one_ℚ, compare_ℚ}
use Rattle.exact_values.specs.Tests.{eq_ℚ}
use Rattle.exact_values.proofs.Compare.{compare_from_same, compare_ties}
use Rattle.exact_values.proofs.TestsLaws.{same_from_test}
use Rattle.basis_values.proofs.formula.is_one.Goals as goal

pub returns : goal.returns
returns c =
    let e : c.eq.result ≡ eq_ℚ c.args.x one_ℚ =
    c.eq.ensures ∙ compare_ties c.args.x c.whole.result ∙ ap (λ (y : ℚ). is_eq (compare_ℚ c.args.x y)) c.whole.ensures in
    (λ h. same_from_test c.args.x one_ℚ (sym e ∙ h), λ h. e ∙ ap is_eq (compare_from_same h))
