use Rattle.std.proofs.Common.{◌≡◌, List, Some, ap, sym, subst, ◌∙◌}
use Rattle.exact_values.specs.Rational.{ℚ}
use Rattle.lp_definitions.specs.LinearProgram.{value_at}
use Rattle.check_definitions.specs.declared.Verdict.{Verdict}
use Rattle.listing_definitions.specs.Report.{SolutionLines}
use Rattle.walk_definitions.specs.Tests.{point_of, solution_test}
use Rattle.walk_definitions.specs.Reading.{solution_in, tested_by}
use Rattle.listing_words.specs.Read.{sheet_view}
use Rattle.listing_claims.specs.Passing.{Stops}
use Rattle.listing_answers.proofs.Judging.{handed_on, right_by, test_stops, reading_stops}
use Rattle.listing_answers.proofs.Solutions.{printed_shows, printed_counted, printed_tested}
use Rattle.listing_answers.proofs.answer.answer_to_solution.Goals as goal

pub test_solution-requires-clause-counted : goal.test_solution-requires-clause-counted
test_solution-requires-clause-counted g c =
    let found = c.in_ok-lines.ensures in
    printed_counted (sheet_view c.args.sheet) c.in_ok-lines.lines found.answer c.in_ok-printed.printed found.shows c.in_ok-printed.ensures

pub returns-in_err-lines : goal.returns-in_err-lines
returns-in_err-lines g c =
    let C = g.T.Checks.checker in
    let sheet = sheet_view c.args.sheet in
    let stop = c.in_err-lines.field-0.0 in
    handed_on (λ (objective : ℚ) (lines : SolutionLines). objective ≡ point_of sheet lines sheet.lp.objective)
    (tested_by C (solution_test C sheet c.args.mark)
    (λ of. solution_in of sheet c.args.mark) c.args.cursor.now) c.solution_lines.new.cursor c.from_residual.result stop
    (reading_stops C (λ of. solution_in of sheet c.args.mark) c.args.cursor.now
    (solution_test C sheet c.args.mark) stop c.in_err-lines.ensures) c.from_residual.ensures.1

pub returns-in_err-test_solution : goal.returns-in_err-test_solution
returns-in_err-test_solution g c =
    let C = g.T.Checks.checker in
    let sheet = sheet_view c.args.sheet in
    let found = c.in_ok-lines.ensures in
    let shows = printed_shows sheet c.in_ok-lines.lines found.answer c.in_ok-printed.printed found.shows c.in_ok-printed.ensures in
    let stop = c.in_err-test_solution.field-0.0 in
    handed_on (λ (objective : ℚ) (lines : SolutionLines). objective ≡ point_of sheet lines sheet.lp.objective)
    (tested_by C (solution_test C sheet c.args.mark)
    (λ of. solution_in of sheet c.args.mark) c.args.cursor.now) c.solution_lines.new.cursor c.from_residual-in_err-test_solution.result stop
    (test_stops C (λ of. solution_in of sheet c.args.mark) c.args.cursor.now
    (solution_test C sheet c.args.mark) found.answer c.solution_lines.new.cursor stop found.is_found
    (subst (λ (v : Verdict). Stops stop v) (printed_tested C sheet c.args.mark c.in_ok-printed.printed found.answer shows) c.in_err-test_solution.ensures))
    c.from_residual-in_err-test_solution.ensures.1

pub returns : goal.returns
returns g c =
    let C = g.T.Checks.checker in
    let sheet = sheet_view c.args.sheet in
    let found = c.in_ok-lines.ensures in
    let shows = printed_shows sheet c.in_ok-lines.lines found.answer c.in_ok-printed.printed found.shows c.in_ok-printed.ensures in
    let left = found.is_found ∙ ap (λ rest. Some (found.answer, rest)) (sym c.set_allowance.ensures) in
    record {
      answer = found.answer;
      is_right =
          right_by C (λ of. solution_in of sheet c.args.mark) c.args.cursor.now
          (solution_test C sheet c.args.mark) found.answer c.set_allowance.new.self left
          (sym (printed_tested C sheet c.args.mark c.in_ok-printed.printed found.answer shows) ∙ c.in_ok-test_solution.ensures);
      shows = c.objective_of.ensures ∙ ap (λ (z : List ℚ). value_at z sheet.lp.objective) (c.deref.ensures.value ∙ shows.point);
    }
