use Rattle.std.proofs.Common.{rules, ◌≡◌, sym, subst, ap, ◌∙◌}
use Rattle.exact_values.specs.Rational.{ℚ, ◌*ℚ◌}
use Rattle.exact_values.specs.Tests.{eq_ℚ}
use Rattle.exact_values.proofs.TestsLaws.{eq_fails_from_apart}
use Rattle.frac128.specs.Operations.{TermsFit}
use Rattle.lp_laws.proofs.Values.{clash}
use Rattle.para_rhs.proofs.breaks.is_product.Goals as goal

pub returns-in-Ok : goal.returns-in-Ok
returns-in-Ok c =
    let is : c.is_eq.result ≡ eq_ℚ c.in-Ok.product c.args.distance = search rules in
    is ∙ ap (λ (x : ℚ). eq_ℚ x c.args.distance) c.in-Ok.ensures.value

pub returns-in-Err : goal.returns-in-Err
returns-in-Err c =
    let fits : TermsFit c.args.distance = search rules in
    sym (eq_fails_from_apart (c.args.theta *ℚ c.args.closing) c.args.distance
    (λ e. clash (sym (c.in-Err.ensures.fits.1 (subst (λ (q : ℚ). TermsFit q) (sym e) fits)))))
