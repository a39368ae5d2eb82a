use Rattle.std.proofs.Common.{◌∷◌, [], ap, ap₂, ◌∙◌}
use Rattle.exact_values.specs.Tests.{eq_ℚ}
use Rattle.lp_definitions.specs.LinearProgram.{value_at}
use Rattle.check_definitions.specs.Steps.{in_turn}
use Rattle.check_definitions.specs.Checks.{unbounded_check}
use Rattle.walk_definitions.specs.Tests.{asked}
use Rattle.checks_of_128_bits.proofs.claim_tests.test_pair.Goals as goal

pub returns : goal.returns
returns c =
    c.both.ensures
    ∙ ap₂ (λ v a. in_turn (v ∷ a ∷ []))
    (c.check_unbounded-proof.ensures.exact
    ∙ (λ i. unbounded_check c.args.lp.now (value_at (c.deref.ensures.value i)) (value_at (c.deref-2.ensures.value i))))
    (c.asked.ensures
    ∙ ap asked (c.is_equal.ensures
    ∙ ap (eq_ℚ c.args.objective) (c.objective_of.ensures ∙ ap (λ xs. value_at xs c.args.lp.now.objective) c.deref-3.ensures.value)))
