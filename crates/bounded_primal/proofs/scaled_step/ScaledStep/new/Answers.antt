use Rattle.std.proofs.Common.{rules, to_z, of_z, ◌∙◌}
use Rattle.std.specs.Int.{w128}
use Rattle.std.proofs.lemmas.Int.{to_z-of_z}
use Rattle.bounded_primal.proofs.ScaledSteps.{scaled_by_one}
use Rattle.bounded_primal.proofs.scaled_step.ScaledStep.new.Goals as goal

pub invariant_of-result : goal.invariant_of-result
invariant_of-result c =
    scaled_by_one c.args.step (to_z w128 (of_z w128 c.den.result)) (to_z w128 (of_z w128 c.num.result)) (to_z w128 (of_z w128 c.den-2.result))
    (to_z-of_z w128 c.den.result (search rules) ∙ c.den.ensures.value) (to_z-of_z w128 c.num.result (search rules) ∙ c.num.ensures.value)
    (to_z-of_z w128 c.den-2.result (search rules) ∙ c.den-2.ensures.value)
