use Rattle.std.proofs.Common.{◌≡◌, refl, rules}
use Rattle.exact_values.specs.Rational.{◌*ℚ◌}
use Rattle.bounded_primal.proofs.Still.{from_nothing}
use Rattle.bounded_primal.proofs.step.quickly_moved.Goals as goal

pub returns-then-is_zero : goal.returns-then-is_zero
returns-then-is_zero c =
    let product : c.in_ok-product.product ≡ c.args.step *ℚ c.args.rate = search rules in
    from_nothing c.args.value (c.args.step *ℚ c.args.rate) c.in_ok-product.product (c.if-is_zero.ensures.0 refl) product
