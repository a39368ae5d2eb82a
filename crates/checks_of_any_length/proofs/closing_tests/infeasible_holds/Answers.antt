use Rattle.std.proofs.Common.{List, false, length, sym, ap, subst, ◌∙◌}
use Rattle.exact_values.specs.Rational.{ℚ}
use Rattle.lp_definitions.specs.LinearProgram.{value_at}
use Rattle.question_definitions.specs.Answers.{Set}
use Rattle.simplex_definitions.specs.RhsRun.{rhs_family}
use Rattle.parametric_request.specs.declared.request.Change.{Change}
use Rattle.parametric_request.specs.Asking.{changing_of}
use Rattle.walk_definitions.specs.Checkers.{checker_of_any_length}
use Rattle.walk_definitions.specs.Tests.{past_test, infeasible_past}
use Rattle.listing_words.specs.Read.{sheet_view}
use Rattle.listing_claims.specs.Closings.{infeasible_test}
use Rattle.long_solutions.specs.Answers.{Answers}
use Rattle.checks_of_any_length.proofs.Claiming.{past_shown}
use Rattle.checks_of_any_length.proofs.closing_tests.infeasible_holds.Goals as goal

pub past_ray_holds-requires-clause-shifts : goal.past_ray_holds-requires-clause-shifts
past_ray_holds-requires-clause-shifts c = let serves = rw c.in-Set.is at c.requires.serves in ap length c.deref.ensures.value ∙ serves.1

pub returns-in_ok-shown-in-Set : goal.returns-in_ok-shown-in-Set
returns-in_ok-shown-in-Set c = λ l is.
    let sheet = sheet_view c.args.run.now.sheet in
    let request = c.args.run.now.request.now in
    let ray = c.args.ray.now in
    let t = c.args.value.now in
    let result = c.both.result in
    let serves = rw c.in-Set.is at c.requires.serves in
    let shifts = c.deref.ensures.value ∙ sym serves.0 in
    subst (λ (change : Change). Answers result (infeasible_test checker_of_any_length sheet (changing_of request.name change) request.to l t ray))
    (sym c.in-Set.is)
    (subst (λ (shift : List ℚ). Answers result
    (past_test request.to l t (infeasible_past checker_of_any_length sheet (Set request.name) shift t (value_at ray)))) shifts
    (past_shown request.to l t c.in_ok-past-in-Set.past c.in_ok-shown-in-Set.shown result _ (c.in_ok-past-in-Set.ensures t l c.in_ok-theta-in-Set.ensures is)
    (c.in_ok-shown-in-Set.ensures t sheet.problem (Set request.name) c.in_ok-theta-in-Set.ensures
    (ap (λ (shift : List ℚ). rhs_family sheet.lp shift t) shifts)) c.both.ensures))

pub returns-in-Row : goal.returns-in-Row
returns-in-Row c = λ l is.
    let request = c.args.run.now.request.now in
    subst (λ (change : Change). Answers false
    (infeasible_test checker_of_any_length (sheet_view c.args.run.now.sheet) (changing_of request.name change) request.to l c.args.value.now c.args.ray.now))
    (sym c.in-Row.is) tt
