use Rattle.std.proofs.Common.{List, sym, subst, ◌∙◌}
use Rattle.exact_values.specs.Rational.{ℚ}
use Rattle.lp_definitions.specs.LinearProgram.{value_at}
use Rattle.question_definitions.specs.Answers.{Set}
use Rattle.parametric_request.specs.declared.request.Change.{Change}
use Rattle.parametric_request.specs.Asking.{changing_of}
use Rattle.walk_definitions.specs.Checkers.{checker_of_128_bits}
use Rattle.walk_definitions.specs.Tests.{past_test, infeasible_past}
use Rattle.listing_words.specs.Read.{sheet_view}
use Rattle.listing_claims.specs.Passing.{Judges}
use Rattle.listing_claims.specs.Closings.{infeasible_test}
use Rattle.checks_of_128_bits.proofs.closing_tests.check_infeasible.Goals as goal

pub returns-in-Set : goal.returns-in-Set
returns-in-Set c =
    let sheet = sheet_view c.args.run.now.sheet in
    let request = c.args.run.now.request.now in
    let w = value_at c.args.ray.now in
    let result = c.check_past_infeasible.result in
    let serves = rw c.in-Set.is at c.requires.asked.serves in
    subst (λ (change : Change). Judges
    (infeasible_test checker_of_128_bits sheet (changing_of request.name change) request.to c.args.last c.args.value c.args.ray.now) result)
    (sym c.in-Set.is)
    (subst (λ (shift : List ℚ). Judges
    (past_test request.to c.args.last c.args.value (infeasible_past checker_of_128_bits sheet (Set request.name) shift c.args.value w)) result)
    (c.deref.ensures.value ∙ sym serves.0)
    (subst (λ (change : Change). Judges
    (past_test request.to c.args.last c.args.value
    (infeasible_past checker_of_128_bits sheet
    (changing_of request.name change) c.deref.result.now c.args.value w)) result) c.in-Set.is c.check_past_infeasible.ensures))
