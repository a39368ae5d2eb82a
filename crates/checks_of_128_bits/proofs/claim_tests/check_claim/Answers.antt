use Rattle.std.proofs.Common.{List, sym, subst}
use Rattle.exact_values.specs.Rational.{ℚ}
use Rattle.lp_definitions.specs.LinearProgram.{value_at}
use Rattle.check_definitions.specs.Checks.{infeasible_check}
use Rattle.walk_definitions.specs.Checkers.{checker_of_128_bits}
use Rattle.listing_claims.specs.declared.claims.Claim.{Claim}
use Rattle.listing_claims.specs.Claims.{claim_test}
use Rattle.listing_claims.specs.Passing.{Judges}
use Rattle.checks_of_128_bits.proofs.claim_tests.check_claim.Goals as goal

pub returns-in-Infeasible : goal.returns-in-Infeasible
returns-in-Infeasible c =
    let p = c.args.lp.now in
    let result = c.check_ray.result in
    subst (λ (claim : Claim). Judges (claim_test checker_of_128_bits p claim) result) (sym c.in-Infeasible.is)
    (subst (λ (w : List ℚ). Judges (infeasible_check p (value_at w)) result) c.deref.ensures.value c.check_ray.ensures)

pub returns-in-Unbounded : goal.returns-in-Unbounded
returns-in-Unbounded c =
    subst (λ (claim : Claim). Judges (claim_test checker_of_128_bits c.args.lp.now claim) c.check_pair.result) (sym c.in-Unbounded.is) c.check_pair.ensures
