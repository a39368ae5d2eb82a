use Rattle.std.proofs.Common.{◌≡◌, Some, None, ap, sym, ◌∙◌}
use Rattle.walk_definitions.specs.Words.{left_after}
use Rattle.walk_definitions.specs.Reading.{parametric_run_head}
use Rattle.listing_words.specs.Read.{taken, sheet_view}
use Rattle.listing_claims.specs.Asked.{parametric_run_of}
use Rattle.listing_answers.proofs.ParametricRunFacts.{parametric_run_opened, parametric_run_opening_stops, parametric_ran, parametric_run_stops}
use Rattle.listing_answers.proofs.answer.answer_to_parametric_run.Goals as goal

pub read_opening-requires-clause-asked : goal.read_opening-requires-clause-asked
read_opening-requires-clause-asked g c = record { lawful = c.requires.lawful; no_change = c.requires.no_change; serves = c.requires.serves }

pub read_run-requires-clause-asked : goal.read_run-requires-clause-asked
read_run-requires-clause-asked g c = record { lawful = c.requires.lawful; no_change = c.requires.no_change; serves = c.requires.serves }

pub returns-in_err-mark : goal.returns-in_err-mark
returns-in_err-mark g c limit =
    let C = g.T.Checks.checker in
    let sheet = sheet_view c.args.sheet in
    let parametric_run = parametric_run_of limit c.args.request.now in
    let old = c.args.cursor.now in
    let start = c.again-ahead.ensures in
    let ahead = c.take_parametric_run_head.new.cursor in
    let head = ap (left_after (parametric_run_head parametric_run)) (sym start) ∙ c.take_parametric_run_head.ensures limit in
    let missing : left_after (parametric_run_head parametric_run) old ≡ None = head ∙ ap (λ b. taken b ahead) c.if-not-take_parametric_run_head.true in
    parametric_run_opening_stops C sheet parametric_run old missing c.in_err-mark.field-0.0 c.read_opening.new.cursor c.from_residual.result
    (c.in_err-mark.ensures limit) c.from_residual.ensures.1

pub returns-then-not-take_parametric_run_head : goal.returns-then-not-take_parametric_run_head
returns-then-not-take_parametric_run_head g c limit =
    let C = g.T.Checks.checker in
    let sheet = sheet_view c.args.sheet in
    let parametric_run = parametric_run_of limit c.args.request.now in
    let old = c.args.cursor.now in
    let start = c.again-ahead.ensures in
    let ahead = c.take_parametric_run_head.new.cursor in
    let head = ap (left_after (parametric_run_head parametric_run)) (sym start) ∙ c.take_parametric_run_head.ensures limit in
    let missing : left_after (parametric_run_head parametric_run) old ≡ None = head ∙ ap (λ b. taken b ahead) c.if-not-take_parametric_run_head.true in
    parametric_run_opened C sheet parametric_run old missing c.in_ok-mark.mark c.read_opening.new.cursor (c.in_ok-mark.ensures limit)

pub returns-in_err-last : goal.returns-in_err-last
returns-in_err-last g c limit =
    let C = g.T.Checks.checker in
    let sheet = sheet_view c.args.sheet in
    let parametric_run = parametric_run_of limit c.args.request.now in
    let old = c.args.cursor.now in
    let start = c.again-ahead.ensures in
    let ahead = c.take_parametric_run_head.new.cursor in
    let head = ap (left_after (parametric_run_head parametric_run)) (sym start) ∙ c.take_parametric_run_head.ensures limit in
    let stands : left_after (parametric_run_head parametric_run) old ≡ Some ahead = head ∙ ap (λ b. taken b ahead) c.if-not-take_parametric_run_head.false in
    parametric_run_stops C sheet parametric_run old ahead stands c.in_err-last.field-0.0 c.read_run.new.cursor c.from_residual-in_err-last.result
    (c.in_err-last.ensures limit) c.from_residual-in_err-last.ensures.1

pub returns : goal.returns
returns g c limit =
    let C = g.T.Checks.checker in
    let sheet = sheet_view c.args.sheet in
    let parametric_run = parametric_run_of limit c.args.request.now in
    let old = c.args.cursor.now in
    let start = c.again-ahead.ensures in
    let ahead = c.take_parametric_run_head.new.cursor in
    let head = ap (left_after (parametric_run_head parametric_run)) (sym start) ∙ c.take_parametric_run_head.ensures limit in
    let stands : left_after (parametric_run_head parametric_run) old ≡ Some ahead = head ∙ ap (λ b. taken b ahead) c.if-not-take_parametric_run_head.false in
    parametric_ran C sheet parametric_run old ahead stands c.in_ok-last.last c.read_run.new.cursor (c.in_ok-last.ensures limit)
