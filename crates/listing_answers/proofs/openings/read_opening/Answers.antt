use Rattle.std.proofs.Common.{[], ◌∷◌, Some, ap, sym, subst, ◌∙◌}
use Rattle.check_definitions.specs.Steps.{in_turn}
use Rattle.listing_definitions.specs.declared.Solver.{Solver}
use Rattle.question_definitions.specs.Answers.{parametric_solver, Opening}
use Rattle.answer_definitions.specs.ParametricRuns.{sheet_at}
use Rattle.parametric_request.specs.Asking.{changing_of}
use Rattle.walk_definitions.specs.Words.{fraction_in}
use Rattle.walk_definitions.specs.Tests.{says, making_steps, verdict_test}
use Rattle.walk_definitions.specs.Reading.{Claim, verdict_in, tested_by, judged_map}
use Rattle.listing_words.specs.Read.{sheet_view}
use Rattle.listing_answers.specs.Claims.{IsStated}
use Rattle.listing_answers.specs.Taken.{IsOpened, IsUnread}
use Rattle.listing_answers.specs.Words.{IsFound}
use Rattle.listing_answers.proofs.Judging.{handed_on, made_stops, right_by, test_stops, reading_stops}
use Rattle.listing_answers.proofs.Claimed.{marked, family_matrix, opening_stops, opening_word_stops, opening_passes}
use Rattle.listing_answers.proofs.openings.read_opening.Goals as goal

pub test_opening-requires-clause-fits : goal.test_opening-requires-clause-fits
test_opening-requires-clause-fits g c = c.in_ok-stated.ensures.shows.fits

pub returns-in_err-stated : goal.returns-in_err-stated
returns-in_err-stated g c limit =
    let C = g.T.Checks.checker in
    let sheet = sheet_view c.args.sheet in
    let from = c.args.request.now.from in
    let changing = changing_of c.args.request.now.name c.args.request.now.change in
    let test = λ (claim : Claim). in_turn (says C (making_steps sheet changing from) ∷ verdict_test C (sheet_at sheet changing from) claim.0 claim.1 ∷ []) in
    let made = λ (claim : Claim). Opening [] claim.0 claim.1 in
    let judged = tested_by C test (λ of. verdict_in of sheet (parametric_solver changing)) c.args.cursor.now in
    let stop = c.in_err-stated.field-0.0 in
    let read = subst (λ (solver : Solver). IsUnread C (λ of. verdict_in of sheet solver) c.args.cursor.now stop) c.solver_of.ensures c.in_err-stated.ensures in
    handed_on IsOpened (judged_map made judged) c.verdict.new.cursor c.from_residual.result stop
    (made_stops made judged stop
    (reading_stops C (λ of. verdict_in of sheet (parametric_solver changing)) c.args.cursor.now test stop read)) c.from_residual.ensures.1

pub returns-in_err-test_opening : goal.returns-in_err-test_opening
returns-in_err-test_opening g c limit =
    let C = g.T.Checks.checker in
    let sheet = sheet_view c.args.sheet in
    let from = c.args.request.now.from in
    let changing = changing_of c.args.request.now.name c.args.request.now.change in
    let making = says C (making_steps sheet changing from) in
    let other = sheet_at sheet changing from in
    let test = λ (claim : Claim). in_turn (making ∷ verdict_test C other claim.0 claim.1 ∷ []) in
    let made = λ (claim : Claim). Opening [] claim.0 claim.1 in
    let judged = tested_by C test (λ of. verdict_in of sheet (parametric_solver changing)) c.args.cursor.now in
    let stated = c.in_ok-stated.stated in
    let found =
    subst (λ (solver : Solver). IsFound (IsStated sheet)
    (verdict_in (fraction_in C) sheet solver c.args.cursor.now) c.verdict.new.cursor stated) c.solver_of.ensures c.in_ok-stated.ensures in
    let stop = c.in_err-test_opening.field-0.0 in
    handed_on IsOpened (judged_map made judged) c.verdict.new.cursor c.from_residual-in_err-test_opening.result stop
    (made_stops made judged stop
    (test_stops C (λ of. verdict_in of sheet (parametric_solver changing)) c.args.cursor.now test found.answer c.verdict.new.cursor stop found.is_found
    (opening_stops C sheet other
    (family_matrix sheet changing from) making stated.claim found.answer.0 found.answer.1 found.shows.says stop c.in_err-test_opening.ensures)))
    c.from_residual-in_err-test_opening.ensures.1

pub returns-in_err-take_word : goal.returns-in_err-take_word
returns-in_err-take_word g c limit =
    let C = g.T.Checks.checker in
    let sheet = sheet_view c.args.sheet in
    let from = c.args.request.now.from in
    let changing = changing_of c.args.request.now.name c.args.request.now.change in
    let making = says C (making_steps sheet changing from) in
    let other = sheet_at sheet changing from in
    let test = λ (claim : Claim). in_turn (making ∷ verdict_test C other claim.0 claim.1 ∷ []) in
    let made = λ (claim : Claim). Opening [] claim.0 claim.1 in
    let judged = tested_by C test (λ of. verdict_in of sheet (parametric_solver changing)) c.args.cursor.now in
    let stated = c.in_ok-stated.stated in
    let found =
    subst (λ (solver : Solver). IsFound (IsStated sheet)
    (verdict_in (fraction_in C) sheet solver c.args.cursor.now) c.verdict.new.cursor stated) c.solver_of.ensures c.in_ok-stated.ensures in
    let stop = c.in_err-take_word.field-0.0 in
    handed_on IsOpened (judged_map made judged) c.set_allowance.new.self c.from_residual-in_err-take_word.result stop
    (made_stops made judged stop
    (test_stops C (λ of. verdict_in of sheet (parametric_solver changing)) c.args.cursor.now test found.answer c.verdict.new.cursor stop found.is_found
    (opening_word_stops C sheet other
    (family_matrix sheet changing from) making stated.claim found.answer.0 found.answer.1 found.shows.says stop c.in_ok-test_opening.ensures
    (c.in_err-take_word.ensures found.answer.1 (sym found.shows.says_check)))))
    c.from_residual-in_err-take_word.ensures.1

pub returns : goal.returns
returns g c limit =
    let C = g.T.Checks.checker in
    let sheet = sheet_view c.args.sheet in
    let from = c.args.request.now.from in
    let changing = changing_of c.args.request.now.name c.args.request.now.change in
    let making = says C (making_steps sheet changing from) in
    let other = sheet_at sheet changing from in
    let test = λ (claim : Claim). in_turn (making ∷ verdict_test C other claim.0 claim.1 ∷ []) in
    let made = λ (claim : Claim). Opening [] claim.0 claim.1 in
    let stated = c.in_ok-stated.stated in
    let found =
    subst (λ (solver : Solver). IsFound (IsStated sheet)
    (verdict_in (fraction_in C) sheet solver c.args.cursor.now) c.verdict.new.cursor stated) c.solver_of.ensures c.in_ok-stated.ensures in
    let left = found.is_found ∙ ap (λ rest. Some (found.answer, rest)) (sym c.set_allowance.ensures) in
    record {
      answer = Opening [] found.answer.0 found.answer.1;
      is_right =
          ap (judged_map made)
          (right_by C (λ of. verdict_in of sheet (parametric_solver changing)) c.args.cursor.now test found.answer c.set_allowance.new.self left
          (opening_passes C sheet other
          (family_matrix sheet changing from) making stated.claim found.answer.0 found.answer.1 found.shows.says c.in_ok-test_opening.ensures
          (c.in_ok-take_word.ensures found.answer.1 (sym found.shows.says_check))));
      shows = c.mark_left.ensures ∙ marked sheet stated.claim found.answer.0 found.shows.says;
    }
