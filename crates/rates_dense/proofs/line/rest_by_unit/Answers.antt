use Rattle.std.proofs.Common.{◌∙◌, ap}
use Rattle.exact_values.specs.Rational.{ℚ, ◌-ℚ◌}
use Rattle.rates_dense.proofs.line.rest_by_unit.Goals as goal
use Rattle.lp_laws.proofs.Idle.{left_difference}

pub returns-then-is_zero : goal.returns-then-is_zero
returns-then-is_zero c =
    c.neg.ensures ∙ left_difference c.args.rate c.in_ok-product.product (c.is_zero.ensures.0 c.if-is_zero.true)
    ∙ ap (λ (v : ℚ). c.args.rate -ℚ v) c.in_ok-product.ensures
