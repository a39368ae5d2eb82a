use Rattle.std.proofs.Common.{sym, ◌∙◌, ap₂}
use Rattle.exact_values.specs.Rational.{ℚ, ◌*ℚ◌}
use Rattle.exact_values.specs.Tests.{le_ℚ}
use Rattle.lp_laws.proofs.Values.{clash}
use Rattle.simplex_laws.proofs.Magnitudes.{ratios_by_products, zero_first, zero_last}
use Rattle.dual_step.proofs.ratios.by_products.Goals as goal

pub returns-then-is_zero : goal.returns-then-is_zero
returns-then-is_zero c =
    zero_first c.args.best.now.price c.args.best.now.rate c.args.other.now.price c.args.other.now.rate (c.is_zero.ensures.0 c.if-is_zero.true)

pub returns-then-is_zero-2 : goal.returns-then-is_zero-2
returns-then-is_zero-2 c =
    zero_last c.args.best.now.price c.args.best.now.rate c.args.other.now.price c.args.other.now.rate
    (λ e. clash (sym (c.is_zero.ensures.1 e) ∙ c.if-is_zero.false)) c.requires.best
    (c.is_zero-2.ensures.0 c.if-is_zero-2.true)

pub returns : goal.returns
returns c =
    c.is_at_most.ensures
    ∙ ap₂ (λ (x y : ℚ). le_ℚ x y) (c.in-Ok.ensures.value ∙ ap₂ (λ (x y : ℚ). x *ℚ y) c.magnitude.ensures c.magnitude-2.ensures)
    (c.in-Ok-mul.ensures.value ∙ ap₂ (λ (x y : ℚ). x *ℚ y) c.magnitude-3.ensures c.magnitude-4.ensures)
    ∙ ratios_by_products c.args.best.now.price c.args.best.now.rate c.args.other.now.price c.args.other.now.rate c.requires.best c.requires.other
