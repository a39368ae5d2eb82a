use Rattle.std.proofs.Common.{◌∙◌, ap}
use Rattle.exact_values.specs.Rational.{ℚ, ◌*ℚ◌}
use Rattle.exact_values.proofs.RingLaws.{mul-zero}
use Rattle.basis_values.proofs.TermLaws.{OnErr-map}
use Rattle.basis_values.proofs.formula.Formula.plain_sum_with_product.Goals as goal

pub returns-clause-needed : goal.returns-clause-needed
returns-clause-needed c =
    OnErr-map c.sum.result
    (λ some vanishes. some (c.in_ok-product.ensures.value ∙ ap (λ (x : ℚ). c.args.x *ℚ x) vanishes ∙ mul-zero c.args.x)) c.sum.ensures.right
