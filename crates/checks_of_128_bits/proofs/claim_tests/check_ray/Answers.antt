use Rattle.std.proofs.Common.{List, ap, ◌∙◌}
use Rattle.exact_values.specs.Rational.{ℚ}
use Rattle.lp_definitions.specs.LinearProgram.{value_at}
use Rattle.check_definitions.specs.Checks.{infeasible_check}
use Rattle.listing_claims.proofs.Passing.{judges_same}
use Rattle.checks_of_128_bits.proofs.claim_tests.check_ray.Goals as goal

pub returns : goal.returns
returns c =
    let p = c.args.lp.now in
    judges_same c.check_infeasible.result (infeasible_check p (value_at c.args.ray.now)) c.judge.result
    (c.check_infeasible.ensures.exact ∙ ap (λ (w : List ℚ). infeasible_check p (value_at w)) (c.deref.ensures.value ∙ c.in_ok-made.ensures)) c.judge.ensures
