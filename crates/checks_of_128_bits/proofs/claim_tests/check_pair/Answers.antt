use Rattle.std.proofs.Common.{◌∙◌}
use Rattle.walk_definitions.specs.Checkers.{checker_of_128_bits}
use Rattle.listing_claims.specs.Claims.{pair_test}
use Rattle.listing_claims.proofs.Passing.{judges_same}
use Rattle.checks_of_128_bits.proofs.Carried.{pair_is}
use Rattle.checks_of_128_bits.proofs.claim_tests.check_pair.Goals as goal

pub returns : goal.returns
returns c =
    let p = c.args.lp.now in
    let pair = c.args.pair.now in
    let made = c.in_ok-made.ensures in
    judges_same c.test_pair.result (pair_test checker_of_128_bits p c.args.objective.now pair) c.judge.result
    (c.test_pair.ensures
    ∙ pair_is p c.in_ok-objective.objective c.args.objective.now c.in_ok-made.made pair c.in_ok-objective.ensures.1 made.0 made.1) c.judge.ensures
