use Rattle.std.proofs.Common.{◌∙◌, ap, refl}
use Rattle.exact_values.specs.Rational.{◌-ℚ◌, ◌*ℚ◌}
use Rattle.exact_values.proofs.Ring.{by_ring3, ◌⊕◌, ◌⊖◌, ◌⊗◌, ◌≐◌, opposite}
use Rattle.price_row.proofs.sums.product_added.Goals as goal

pub returns-in-Some-clause-value : goal.returns-in-Some-clause-value
returns-in-Some-clause-value c =
    c.in-Some.ensures.exact.1 ∙ ap (λ x. c.args.sum -ℚ x *ℚ c.args.y) c.neg.ensures
    ∙ by_ring3 c.args.sum c.args.x c.args.y (λ s x y. s ⊖ opposite x ⊗ y ≐ s ⊕ x ⊗ y) refl
