use Rattle.std.proofs.Common.{subst, ◌∙◌}
use Rattle.lp_definitions.specs.LinearProgram.{LinearProgram}
use Rattle.walk_definitions.specs.Checkers.{checker_of_any_length}
use Rattle.listing_claims.specs.Claims.{claim_test}
use Rattle.long_programs.specs.Programs.{program_of, own_theta}
use Rattle.long_solutions.specs.Answers.{Answers}
use Rattle.checks_of_any_length.proofs.claim_tests.own_claim_holds.Goals as goal

pub claim_holds-requires-clause-number : goal.claim_holds-requires-clause-number
claim_holds-requires-clause-number c = record { number = own_theta c.args.lp.now; is = c.in_ok-theta.ensures }

pub returns : goal.returns
returns c =
    let p = c.args.lp.now in
    let at = c.as_it_is.result in
    let same = (λ i. program_of (c.as_it_is.ensures.program i) at.change (own_theta p)) ∙ c.as_it_is.ensures.same in
    subst (λ (q : LinearProgram). Answers c.in_ok-holds.holds (claim_test checker_of_any_length q c.args.claim.now)) same
    (c.in_ok-holds.ensures (own_theta p) c.in_ok-theta.ensures)
