use Rattle.std.proofs.Common.{subst}
use Rattle.exact_values.specs.Rational.{ℚ}
use Rattle.parametric_request.specs.Asking.{changing_of}
use Rattle.walk_definitions.specs.Checkers.{checker_of_128_bits}
use Rattle.listing_words.specs.Read.{sheet_view}
use Rattle.listing_claims.specs.Claims.{opening_test}
use Rattle.listing_claims.specs.Passing.{Judges}
use Rattle.checks_of_128_bits.proofs.checker.Of128BitsChecks.test_opening.Goals as goal

pub returns : goal.returns
returns c =
    let request = c.args.request.now in
    subst (λ (theta : ℚ). Judges
    (opening_test checker_of_128_bits (sheet_view c.args.sheet)
    (changing_of request.name request.change) theta c.args.claim.now) c.check_claim_at.result) c.in_ok-from.ensures.1 c.check_claim_at.ensures
