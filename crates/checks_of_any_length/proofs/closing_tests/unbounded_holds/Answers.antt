use Rattle.std.proofs.Common.{ℕ, false, sym, subst}
use Rattle.lp_definitions.specs.LinearProgram.{value_at}
use Rattle.question_definitions.specs.Answers.{Row}
use Rattle.parametric_request.specs.declared.request.Change.{Change}
use Rattle.parametric_request.specs.Asking.{changing_of}
use Rattle.walk_definitions.specs.Checkers.{checker_of_any_length}
use Rattle.walk_definitions.specs.Tests.{past_test, unbounded_past}
use Rattle.listing_words.specs.Read.{sheet_view}
use Rattle.listing_claims.specs.Closings.{unbounded_test}
use Rattle.long_solutions.specs.Answers.{Answers}
use Rattle.checks_of_any_length.proofs.Claiming.{past_shown}
use Rattle.checks_of_any_length.proofs.closing_tests.unbounded_holds.Goals as goal

pub past_pair_holds-requires-clause-row : goal.past_pair_holds-requires-clause-row
past_pair_holds-requires-clause-row c = let serves = rw c.in-Row.is at c.requires.serves in serves.1

pub past_pair_holds-requires-clause-number : goal.past_pair_holds-requires-clause-number
past_pair_holds-requires-clause-number c = record { number = c.args.value.now; is = c.in_ok-theta-in-Row.ensures }

pub returns-in_ok-shown-in-Row : goal.returns-in_ok-shown-in-Row
returns-in_ok-shown-in-Row c = λ l is.
    let sheet = sheet_view c.args.run.now.sheet in
    let request = c.args.run.now.request.now in
    let pair = c.args.pair.now in
    let t = c.args.value.now in
    let result = c.both.result in
    let serves = rw c.in-Row.is at c.requires.serves in
    subst (λ (change : Change). Answers result
    (unbounded_test checker_of_any_length sheet (changing_of request.name change) request.to l t pair.point.items pair.direction.items)) (sym c.in-Row.is)
    (subst (λ (h : ℕ). Answers result
    (past_test request.to l t
    (unbounded_past checker_of_any_length sheet (Row request.name) h t (value_at pair.point.items) (value_at pair.direction.items)))) (sym serves.0)
    (past_shown request.to l t c.in_ok-past-in-Row.past c.in_ok-shown-in-Row.shown result _ (c.in_ok-past-in-Row.ensures t l c.in_ok-theta-in-Row.ensures is)
    (c.in_ok-shown-in-Row.ensures t sheet.problem (Row request.name) c.in_ok-theta-in-Row.ensures) c.both.ensures))

pub returns-in-Set : goal.returns-in-Set
returns-in-Set c = λ l is.
    let request = c.args.run.now.request.now in
    let pair = c.args.pair.now in
    subst (λ (change : Change). Answers false
    (unbounded_test checker_of_any_length (sheet_view c.args.run.now.sheet)
    (changing_of request.name change) request.to l c.args.value.now pair.point.items pair.direction.items)) (sym c.in-Set.is) tt
