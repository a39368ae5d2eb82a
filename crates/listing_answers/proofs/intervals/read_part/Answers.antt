use Rattle.std.proofs.Common.{nat_eq, Some, ap, sym, subst, ◌∙◌}
use Rattle.check_definitions.specs.declared.Verdict.{Verdict}
use Rattle.parametric_request.specs.Asking.{changing_of}
use Rattle.walk_definitions.specs.Tests.{interval_test}
use Rattle.walk_definitions.specs.Reading.{interval_in, tested_by}
use Rattle.listing_words.specs.Read.{sheet_view}
use Rattle.listing_claims.specs.Passing.{Stops}
use Rattle.listing_answers.proofs.Judging.{handed_on, right_by, test_stops, reading_stops}
use Rattle.listing_answers.proofs.Claimed.{part_tested}
use Rattle.listing_answers.proofs.Runs.{EndsPart}
use Rattle.listing_answers.proofs.intervals.read_part.Goals as goal

pub test_interval-requires-clause-counted : goal.test_interval-requires-clause-counted
test_interval-requires-clause-counted g c = c.in_ok-part.ensures.shows.columns.counted

pub returns-in_err-part : goal.returns-in_err-part
returns-in_err-part g c =
    let C = g.T.Checks.checker in
    let sheet = sheet_view c.args.sheet in
    let changing = changing_of c.args.request.now.name c.args.request.now.change in
    let test = interval_test C sheet changing (nat_eq c.args.number 1) c.args.request.now.to in
    let stop = c.in_err-part.field-0.0 in
    handed_on EndsPart
    (tested_by C test (λ of. interval_in of sheet c.args.number c.args.last.now) c.args.cursor.now) c.interval.new.cursor c.from_residual.result stop
    (reading_stops C (λ of. interval_in of sheet c.args.number c.args.last.now) c.args.cursor.now test stop c.in_err-part.ensures) c.from_residual.ensures.1

pub returns-in_err-test_interval : goal.returns-in_err-test_interval
returns-in_err-test_interval g c =
    let C = g.T.Checks.checker in
    let sheet = sheet_view c.args.sheet in
    let changing = changing_of c.args.request.now.name c.args.request.now.change in
    let first = nat_eq c.args.number 1 in
    let max = c.args.request.now.to in
    let test = interval_test C sheet changing first max in
    let found = c.in_ok-part.ensures in
    let stop = c.in_err-test_interval.field-0.0 in
    handed_on EndsPart
    (tested_by C test
    (λ of. interval_in of sheet c.args.number c.args.last.now) c.args.cursor.now) c.interval.new.cursor c.from_residual-in_err-test_interval.result stop
    (test_stops C (λ of. interval_in of sheet c.args.number c.args.last.now) c.args.cursor.now test found.answer c.interval.new.cursor stop found.is_found
    (subst (λ (v : Verdict). Stops stop v)
    (part_tested C sheet changing first max c.args.last.now c.in_ok-part.part found.answer found.shows) c.in_err-test_interval.ensures))
    c.from_residual-in_err-test_interval.ensures.1

pub returns : goal.returns
returns g c =
    let C = g.T.Checks.checker in
    let sheet = sheet_view c.args.sheet in
    let changing = changing_of c.args.request.now.name c.args.request.now.change in
    let first = nat_eq c.args.number 1 in
    let max = c.args.request.now.to in
    let found = c.in_ok-part.ensures in
    let left = found.is_found ∙ ap (λ rest. Some (found.answer, rest)) (sym c.set_allowance.ensures) in
    record {
      answer = found.answer;
      is_right =
          right_by C (λ of. interval_in of sheet c.args.number c.args.last.now) c.args.cursor.now
          (interval_test C sheet changing first max) found.answer c.set_allowance.new.self left
          (sym (part_tested C sheet changing first max c.args.last.now c.in_ok-part.part found.answer found.shows) ∙ c.in_ok-test_interval.ensures);
      shows = sym found.shows.ends;
    }
