use Rattle.std.proofs.Common.{List, sym, subst}
use Rattle.exact_values.specs.Rational.{ℚ}
use Rattle.parametric_request.specs.Asking.{changing_of}
use Rattle.walk_definitions.specs.Checkers.{checker_of_any_length}
use Rattle.listing_words.specs.Read.{sheet_view}
use Rattle.listing_claims.specs.declared.claims.Closing.{Closing}
use Rattle.listing_claims.specs.Closings.{infeasible_test, closing_test}
use Rattle.long_solutions.specs.Answers.{Answers}
use Rattle.checks_of_any_length.proofs.closing_tests.closing_holds.Goals as goal

pub returns-in-At : goal.returns-in-At
returns-in-At c =
    let request = c.args.run.now.request.now in
    subst (λ (closing : Closing). Answers c.in_ok-ends-in-At.ends
    (closing_test checker_of_any_length (sheet_view c.args.run.now.sheet) (changing_of request.name request.change) request.to c.args.last.now closing))
    (sym c.in-At.is)
    (c.in_ok-ends-in-At.ensures c.args.last.now c.in_ok-end.ensures)

pub returns-in-Unbounded : goal.returns-in-Unbounded
returns-in-Unbounded c =
    let request = c.args.run.now.request.now in
    subst (λ (closing : Closing). Answers c.in_ok-goes_on-in-Unbounded.goes_on
    (closing_test checker_of_any_length (sheet_view c.args.run.now.sheet) (changing_of request.name request.change) request.to c.args.last.now closing))
    (sym c.in-Unbounded.is)
    (c.in_ok-goes_on-in-Unbounded.ensures c.args.last.now c.in_ok-end.ensures)

pub returns : goal.returns
returns c =
    let request = c.args.run.now.request.now in
    let shown = c.in_ok-shown-in-Infeasible.shown in
    subst (λ (closing : Closing). Answers shown
    (closing_test checker_of_any_length (sheet_view c.args.run.now.sheet) (changing_of request.name request.change) request.to c.args.last.now closing))
    (sym c.in-Infeasible.is)
    (subst (λ (w : List ℚ). Answers shown
    (infeasible_test checker_of_any_length (sheet_view c.args.run.now.sheet)
    (changing_of request.name request.change) request.to c.args.last.now c.in-Infeasible.value w)) c.deref.ensures.value
    (c.in_ok-shown-in-Infeasible.ensures c.args.last.now c.in_ok-end.ensures))
