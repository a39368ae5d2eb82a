use Rattle.std.proofs.Common.{ℕ, sym, subst}
use Rattle.lp_definitions.specs.LinearProgram.{value_at}
use Rattle.question_definitions.specs.Answers.{Row}
use Rattle.parametric_request.specs.declared.request.Change.{Change}
use Rattle.parametric_request.specs.Asking.{changing_of}
use Rattle.walk_definitions.specs.Checkers.{checker_of_128_bits}
use Rattle.walk_definitions.specs.Tests.{past_test, unbounded_past}
use Rattle.listing_words.specs.Read.{sheet_view}
use Rattle.listing_claims.specs.Passing.{Judges}
use Rattle.listing_claims.specs.Closings.{unbounded_test}
use Rattle.checks_of_128_bits.proofs.closing_tests.check_unbounded.Goals as goal

pub returns-in-Row : goal.returns-in-Row
returns-in-Row c =
    let sheet = sheet_view c.args.run.now.sheet in
    let request = c.args.run.now.request.now in
    let pair = c.args.pair.now in
    let result = c.check_past_unbounded.result in
    let serves = rw c.in-Row.is at c.requires.serves in
    subst (λ (change : Change). Judges
    (unbounded_test checker_of_128_bits sheet
    (changing_of request.name change) request.to c.args.last c.args.value pair.point.items pair.direction.items) result) (sym c.in-Row.is)
    (subst (λ (h : ℕ). Judges
    (past_test request.to c.args.last c.args.value
    (unbounded_past checker_of_128_bits sheet (Row request.name) h c.args.value (value_at pair.point.items) (value_at pair.direction.items))) result)
    (sym serves.0)
    (c.check_past_unbounded.ensures (Row request.name)))
