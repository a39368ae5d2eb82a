use Rattle.std.proofs.Common.{◌∙◌, ap, refl}
use Rattle.exact_values.specs.Rational.{ℚ, ◌-ℚ◌, ◌*ℚ◌}
use Rattle.exact_values.proofs.Ring.{by_ring3, ◌≐◌, ◌⊕◌, ◌⊗◌, ◌⊖◌, opposite}
use Rattle.basis_values.proofs.Skips.{value_computed}
use Rattle.basis_values.proofs.formula.plus_product.Goals as goal

pub returns : goal.returns
returns c =
    value_computed c.sub_product.result _ _ _ c.sub_product.ensures.exact
    (ap (λ (s : ℚ). c.args.sum -ℚ s *ℚ c.args.y) c.neg.ensures
    ∙ by_ring3 c.args.sum c.args.x c.args.y (λ v s r. v ⊖ opposite s ⊗ r ≐ v ⊕ s ⊗ r) refl)
