use Rattle.std.proofs.Common.{[], Some, refl, ap, sym, ◌∙◌}
use Rattle.question_definitions.specs.Answers.{Reached}
use Rattle.walk_definitions.specs.Tests.{verdict_test}
use Rattle.walk_definitions.specs.Reading.{Claim, verdict_in, tested_by, judged_map}
use Rattle.listing_words.specs.Read.{sheet_view}
use Rattle.listing_answers.specs.Taken.{IsConclusion}
use Rattle.listing_answers.proofs.Judging.{handed_on, made_stops, right_by, test_stops, reading_stops}
use Rattle.listing_answers.proofs.Claimed.{claim_stops, word_stops, claim_passes, concluded}
use Rattle.listing_answers.proofs.answer.answer_to_path.Goals as goal

pub test_claim-requires-clause-fits : goal.test_claim-requires-clause-fits
test_claim-requires-clause-fits g c = c.in_ok-stated.ensures.shows.fits

pub returns-in_err-stated : goal.returns-in_err-stated
returns-in_err-stated g c limit =
    let C = g.T.Checks.checker in
    let sheet = sheet_view c.args.sheet in
    let test = λ (claim : Claim). verdict_test C sheet claim.0 claim.1 in
    let made = λ (claim : Claim). Reached [] claim.0 claim.1 in
    let judged = tested_by C test (λ of. verdict_in of sheet c.args.solver) c.args.cursor.now in
    let stop = c.in_err-stated.field-0.0 in
    handed_on IsConclusion (judged_map made judged) c.verdict.new.cursor c.from_residual.result stop
    (made_stops made judged stop
    (reading_stops C (λ of. verdict_in of sheet c.args.solver) c.args.cursor.now test stop c.in_err-stated.ensures)) c.from_residual.ensures.1

pub returns-in_err-test_claim : goal.returns-in_err-test_claim
returns-in_err-test_claim g c limit =
    let C = g.T.Checks.checker in
    let sheet = sheet_view c.args.sheet in
    let test = λ (claim : Claim). verdict_test C sheet claim.0 claim.1 in
    let made = λ (claim : Claim). Reached [] claim.0 claim.1 in
    let judged = tested_by C test (λ of. verdict_in of sheet c.args.solver) c.args.cursor.now in
    let found = c.in_ok-stated.ensures in
    let stop = c.in_err-test_claim.field-0.0 in
    handed_on IsConclusion (judged_map made judged) c.verdict.new.cursor c.from_residual-in_err-test_claim.result stop
    (made_stops made judged stop
    (test_stops C (λ of. verdict_in of sheet c.args.solver) c.args.cursor.now test found.answer c.verdict.new.cursor stop found.is_found
    (claim_stops C sheet sheet refl c.in_ok-stated.stated.claim found.answer.0 found.answer.1 found.shows.says stop c.in_err-test_claim.ensures)))
    c.from_residual-in_err-test_claim.ensures.1

pub returns-in_err-take_word : goal.returns-in_err-take_word
returns-in_err-take_word g c limit =
    let C = g.T.Checks.checker in
    let sheet = sheet_view c.args.sheet in
    let test = λ (claim : Claim). verdict_test C sheet claim.0 claim.1 in
    let made = λ (claim : Claim). Reached [] claim.0 claim.1 in
    let judged = tested_by C test (λ of. verdict_in of sheet c.args.solver) c.args.cursor.now in
    let found = c.in_ok-stated.ensures in
    let stop = c.in_err-take_word.field-0.0 in
    handed_on IsConclusion (judged_map made judged) c.set_allowance.new.self c.from_residual-in_err-take_word.result stop
    (made_stops made judged stop
    (test_stops C (λ of. verdict_in of sheet c.args.solver) c.args.cursor.now test found.answer c.verdict.new.cursor stop found.is_found
    (word_stops C sheet sheet refl c.in_ok-stated.stated.claim found.answer.0 found.answer.1 found.shows.says stop c.in_ok-test_claim.ensures
    (c.in_err-take_word.ensures found.answer.1 (sym found.shows.says_check)))))
    c.from_residual-in_err-take_word.ensures.1

pub returns : goal.returns
returns g c limit =
    let C = g.T.Checks.checker in
    let sheet = sheet_view c.args.sheet in
    let test = λ (claim : Claim). verdict_test C sheet claim.0 claim.1 in
    let made = λ (claim : Claim). Reached [] claim.0 claim.1 in
    let found = c.in_ok-stated.ensures in
    let stated = c.in_ok-stated.stated in
    let left = found.is_found ∙ ap (λ rest. Some (found.answer, rest)) (sym c.set_allowance.ensures) in
    record {
      answer = Reached [] found.answer.0 found.answer.1;
      is_right =
          ap (judged_map made) (right_by C (λ of. verdict_in of sheet c.args.solver) c.args.cursor.now test found.answer c.set_allowance.new.self left
          (claim_passes C sheet sheet refl stated.claim found.answer.0 found.answer.1 found.shows.says c.in_ok-test_claim.ensures
          (c.in_ok-take_word.ensures found.answer.1 (sym found.shows.says_check))));
      shows = c.comes_to.ensures ∙ concluded sheet stated.claim stated.is_checked found.answer.0 found.answer.1 found.shows.says found.shows.says_check;
    }
