use Rattle.std.proofs.Common.{List, sym, subst}
use Rattle.exact_values.specs.Rational.{ℚ}
use Rattle.lp_definitions.specs.LinearProgram.{value_at}
use Rattle.check_definitions.specs.Steps.{of_any_length, verdict_by}
use Rattle.check_definitions.specs.Checks.{infeasible_steps}
use Rattle.walk_definitions.specs.Checkers.{checker_of_any_length}
use Rattle.listing_claims.specs.declared.claims.Claim.{Claim}
use Rattle.listing_claims.specs.Claims.{claim_test}
use Rattle.long_programs.specs.Programs.{program_of}
use Rattle.long_solutions.specs.Answers.{Answers}
use Rattle.long_solutions.proofs.Answered.{answers_of}
use Rattle.checks_of_any_length.proofs.Claiming.{crossed_shown}
use Rattle.checks_of_any_length.proofs.claim_tests.claim_holds.Goals as goal

pub returns-in-Crossed : goal.returns-in-Crossed
returns-in-Crossed c = λ x is.
    let q = program_of c.args.at.now.program.lp.now c.args.at.now.program.change x in
    subst (λ (claim : Claim). Answers c.limits_cross-crosses.result (claim_test checker_of_any_length q claim)) (sym c.in-Crossed.is)
    (crossed_shown q _ c.limits_cross-crosses.result (c.limits_cross-crosses.ensures c.args.at.now.program.change x))

pub returns-in_ok-shown-in-Infeasible : goal.returns-in_ok-shown-in-Infeasible
returns-in_ok-shown-in-Infeasible c = λ x is.
    let q = program_of c.args.at.now.program.lp.now c.args.at.now.program.change x in
    let shown = c.in_ok-shown-in-Infeasible.shown in
    subst (λ (claim : Claim). Answers shown (claim_test checker_of_any_length q claim)) (sym c.in-Infeasible.is)
    (subst (λ (w : List ℚ). Answers shown (verdict_by of_any_length (infeasible_steps q (value_at w)))) c.deref.ensures.value
    (answers_of shown (infeasible_steps q (value_at c.deref.result.now)) (c.in_ok-shown-in-Infeasible.ensures x is)))

pub returns-in_ok-goes_on-in-Unbounded : goal.returns-in_ok-goes_on-in-Unbounded
returns-in_ok-goes_on-in-Unbounded c = λ x is.
    let q = program_of c.args.at.now.program.lp.now c.args.at.now.program.change x in
    subst (λ (claim : Claim). Answers c.in_ok-goes_on-in-Unbounded.goes_on (claim_test checker_of_any_length q claim)) (sym c.in-Unbounded.is)
    (c.in_ok-goes_on-in-Unbounded.ensures x is)
