use Rattle.std.proofs.Common.{rules, ◌∙◌, ap, ap₂, sym, pos}
use Rattle.std.specs.Prelude.{int_lt, ◌*ℤ◌}
use Rattle.exact_values.specs.Tests.{lt_ℚ}
use Rattle.frac128.proofs.Parts.{read_fitting}
use Rattle.lp_model.proofs.RatioTerms.{above_zero_test, above_limit, read_is}
use Rattle.lp_model.proofs.ratio.Ratio.is_above.Goals as goal

pub returns-then-is_zero : goal.returns-then-is_zero
returns-then-is_zero c =
    let t = c.terms-num.ensures in
    ap (λ n. int_lt (pos 0) n) (read_fitting c.terms-num.result.0 t.num_fits)
    ∙ above_zero_test c.terms-num.result.0 c.terms-num.result.1 c.args.self.now
    (record { at_least_one = t.at_least_one; num_fits = t.num_fits; den_fits = t.den_fits }) t.value
    ∙ ap (λ x. lt_ℚ x c.args.self.now) (sym (c.is_zero.ensures.0 (search rules)))

pub returns-in-Some-Some : goal.returns-in-Some-Some
returns-in-Some-Some c =
    let t = c.terms-num.ensures in
    let left = c.in-Some-Some.ensures in
    let right = c.in-Some-Some.ensures' in
    above_limit c.terms-num.result.0 c.terms-num.result.1 c.args.self.now
    (record { at_least_one = t.at_least_one; num_fits = t.num_fits; den_fits = t.den_fits }) t.value c.args.limit _ _
    (read_is c.in-Some-Some.left _ left.0 left.1
    ∙ ap₂ ◌*ℤ◌ (read_fitting c.terms-num.result.0 t.num_fits) (read_fitting c.den.result c.den.ensures.fits ∙ c.den.ensures.value))
    (read_is c.in-Some-Some.right _ right.0 right.1
    ∙ ap₂ ◌*ℤ◌ (read_fitting c.num.result c.num.ensures.fits ∙ c.num.ensures.value) (read_fitting c.terms-num.result.1 t.den_fits))
