use Rattle.std.proofs.Common.{Some, ap, sym, subst, ◌∙◌}
use Rattle.check_definitions.specs.declared.Verdict.{Verdict}
use Rattle.listing_definitions.specs.declared.Solver.{Solver}
use Rattle.question_definitions.specs.Answers.{parametric_solver}
use Rattle.parametric_request.specs.Asking.{changing_of}
use Rattle.walk_definitions.specs.Tests.{close_test}
use Rattle.walk_definitions.specs.Words.{fraction_in}
use Rattle.walk_definitions.specs.Reading.{close_in, tested_by}
use Rattle.listing_words.specs.Read.{sheet_view}
use Rattle.listing_claims.specs.Passing.{Stops}
use Rattle.listing_answers.specs.Taken.{IsUnread}
use Rattle.listing_answers.proofs.Judging.{handed_on, right_by, test_stops, reading_stops}
use Rattle.listing_answers.proofs.ClosingFacts.{closing_fits, closing_value, closing_tested}
use Rattle.listing_answers.proofs.Runs.{EndsChain}
use Rattle.listing_answers.proofs.closing.read_close.Goals as goal

pub test_close-requires-clause-fits : goal.test_close-requires-clause-fits
test_close-requires-clause-fits g c =
    let found = c.in_ok-closing.ensures in
    closing_fits (sheet_view c.args.sheet) c.in_ok-closing.closing found.answer found.shows

pub returns-in_err-closing : goal.returns-in_err-closing
returns-in_err-closing g c =
    let C = g.T.Checks.checker in
    let sheet = sheet_view c.args.sheet in
    let changing = changing_of c.args.request.now.name c.args.request.now.change in
    let test = close_test C sheet changing c.args.request.now.to c.args.last.now in
    let stop = c.in_err-closing.field-0.0 in
    handed_on EndsChain
    (tested_by C test (λ of. close_in of sheet (parametric_solver changing)) c.args.cursor.now) c.run_closing.new.cursor c.from_residual.result stop
    (reading_stops C (λ of. close_in of sheet (parametric_solver changing)) c.args.cursor.now test stop
    (subst (λ (solver : Solver). IsUnread C (λ of. close_in of sheet solver) c.args.cursor.now stop) c.solver_of.ensures c.in_err-closing.ensures))
    c.from_residual.ensures.1

pub returns-in_err-test_close : goal.returns-in_err-test_close
returns-in_err-test_close g c =
    let C = g.T.Checks.checker in
    let sheet = sheet_view c.args.sheet in
    let changing = changing_of c.args.request.now.name c.args.request.now.change in
    let max = c.args.request.now.to in
    let test = close_test C sheet changing max c.args.last.now in
    let found = c.in_ok-closing.ensures in
    let stop = c.in_err-test_close.field-0.0 in
    handed_on EndsChain
    (tested_by C test
    (λ of. close_in of sheet (parametric_solver changing)) c.args.cursor.now) c.run_closing.new.cursor c.from_residual-in_err-test_close.result stop
    (test_stops C (λ of. close_in of sheet (parametric_solver changing)) c.args.cursor.now test found.answer c.run_closing.new.cursor stop
    (ap (λ solver. close_in (fraction_in C) sheet solver c.args.cursor.now) (sym c.solver_of.ensures) ∙ found.is_found)
    (subst (λ (v : Verdict). Stops stop v)
    (closing_tested C sheet changing max c.args.last.now c.in_ok-closing.closing found.answer found.shows) c.in_err-test_close.ensures))
    c.from_residual-in_err-test_close.ensures.1

pub returns : goal.returns
returns g c =
    let C = g.T.Checks.checker in
    let sheet = sheet_view c.args.sheet in
    let changing = changing_of c.args.request.now.name c.args.request.now.change in
    let max = c.args.request.now.to in
    let found = c.in_ok-closing.ensures in
    let left =
    ap (λ solver. close_in (fraction_in C) sheet solver c.args.cursor.now) (sym c.solver_of.ensures) ∙ found.is_found
    ∙ ap (λ rest. Some (found.answer, rest)) (sym c.set_allowance.ensures) in
    record {
      answer = found.answer;
      is_right =
          right_by C (λ of. close_in of sheet (parametric_solver changing)) c.args.cursor.now
          (close_test C sheet changing max c.args.last.now) found.answer c.set_allowance.new.self left
          (sym (closing_tested C sheet changing max c.args.last.now c.in_ok-closing.closing found.answer found.shows) ∙ c.in_ok-test_close.ensures);
      shows = c.value_of.ensures ∙ closing_value sheet c.in_ok-closing.closing found.answer found.shows;
    }
