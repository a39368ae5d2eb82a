use Rattle.std.proofs.Common.{rules, ℤ, ◌*ℤ◌, ap₂, to_z, of_z, ◌∙◌}
use Rattle.std.specs.Int.{w128}
use Rattle.std.proofs.lemmas.Int.{to_z-of_z}
use Rattle.bounded_primal.proofs.ScaledSteps.{scaled_by}
use Rattle.bounded_primal.proofs.scaled_step.ScaledStep.over.Goals as goal

pub invariant_of-result : goal.invariant_of-result
invariant_of-result c =
    scaled_by c.args.step c.in_ok-of_one.of_one c.new-across.result c.args.values c.args.rates (to_z w128 (of_z w128 c.num-2.result))
    (to_z w128 (of_z w128 c.in_ok-rate_factor.rate_factor)) (to_z w128 (of_z w128 c.in_ok-shared.shared)) c.requires.some_values c.requires.some_rates
    (search rules)
    (search rules)
    (to_z-of_z w128 c.num-2.result (search rules) ∙ c.num-2.ensures.value)
    (to_z-of_z w128 c.in_ok-rate_factor.rate_factor (search rules) ∙ c.in_ok-rate_factor.ensures.1
    ∙ ap₂ (λ (a b : ℤ). a *ℤ b) (to_z-of_z w128 c.num.result (search rules) ∙ c.num.ensures.value)
    (to_z-of_z w128 c.den-2.result (search rules) ∙ c.den-2.ensures.value))
    (to_z-of_z w128 c.in_ok-shared.shared (search rules) ∙ c.in_ok-shared.ensures.1
    ∙ ap₂ (λ (a b : ℤ). a *ℤ b) (to_z-of_z w128 c.den-3.result (search rules) ∙ c.den-3.ensures.value)
    (to_z-of_z w128 c.den-4.result (search rules) ∙ c.den-4.ensures.value))
