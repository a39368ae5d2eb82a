use Rattle.std.proofs.Common.{◌≡◌, ◌<◌, ◌+◌, ◌∷◌, codes, Some, None, length, get_or, drop, ap, ◌∙◌, arith}
use Rattle.walk_definitions.specs.Words.{left_after}
use Rattle.walk_definitions.specs.Reading.{run_in}
use Rattle.listing_words.specs.Read.{taken, sheet_view}
use Rattle.listing_claims.specs.Asked.{parametric_run_of}
use Rattle.listing_answers.proofs.Judging.{handed_on}
use Rattle.listing_answers.proofs.Runs.{EndsRun, IsRunSoFar, run_begins, first_stops, room_left, run_goes_on, run_stops, run_closes}
use Rattle.listing_answers.proofs.parametric_runs.read_run.Goals as goal

pub returns-in_err-last : goal.returns-in_err-last
returns-in_err-last g c limit =
    let C = g.T.Checks.checker in
    let sheet = sheet_view c.args.sheet in
    let parametric_run = parametric_run_of limit c.args.request.now in
    let bytes = c.args.cursor.now in
    let stop = c.in_err-last.field-0.0 in
    handed_on EndsRun (run_in C sheet parametric_run bytes 1 parametric_run.from bytes) c.first_part.new.cursor c.from_residual.result stop
    (first_stops C sheet parametric_run bytes stop (c.in_err-last.ensures limit)) c.from_residual.ensures.1

pub loop-index-init : goal.loop-index-init
loop-index-init g c limit =
    run_begins g.T.Checks.checker (sheet_view c.args.sheet)
    (parametric_run_of limit c.args.request.now) c.args.cursor.now c.in_ok-last.last c.first_part.new.cursor (c.in_ok-last.ensures limit)

pub returns-then-not-begins_interval : goal.returns-then-not-begins_interval
returns-then-not-begins_interval g c limit =
    let C = g.T.Checks.checker in
    let sheet = sheet_view c.args.sheet in
    let parametric_run = parametric_run_of limit c.args.request.now in
    let bytes = c.args.cursor.now in
    let whole = run_in C sheet parametric_run bytes 1 parametric_run.from bytes in
    let i = c.loop-index.index in
    let last = c.loop-index.last in
    let rest = c.loop-index.cursor in
    let below : i < length bytes = omega (arith, c.loop-index-test.true, ap length c.rest-room.ensures) in
    let so_far : IsRunSoFar C sheet parametric_run whole (get_or bytes i 0 ∷ drop (i + 1) bytes) (i + 1) last rest =
    room_left C sheet parametric_run whole bytes i last rest below (c.loop-index.invariant limit) in
    let begins = c.begins_interval.ensures in
    let missing : left_after (codes "INTERVAL ") rest ≡ None = begins.1 ∙ ap (λ b. taken b begins.0) c.if-not-begins_interval.true in
    run_closes C sheet parametric_run whole (get_or bytes i 0) (drop (i + 1) bytes) (i + 1) last rest so_far missing
    (omega arith) c.read_close.new.cursor c.read_close.result c.read_close.ensures

pub returns-in_err-last-2 : goal.returns-in_err-last-2
returns-in_err-last-2 g c limit =
    let C = g.T.Checks.checker in
    let sheet = sheet_view c.args.sheet in
    let parametric_run = parametric_run_of limit c.args.request.now in
    let bytes = c.args.cursor.now in
    let whole = run_in C sheet parametric_run bytes 1 parametric_run.from bytes in
    let i = c.loop-index.index in
    let last = c.loop-index.last in
    let rest = c.loop-index.cursor in
    let below : i < length bytes = omega (arith, c.loop-index-test.true, ap length c.rest-room.ensures) in
    let so_far : IsRunSoFar C sheet parametric_run whole (get_or bytes i 0 ∷ drop (i + 1) bytes) (i + 1) last rest =
    room_left C sheet parametric_run whole bytes i last rest below (c.loop-index.invariant limit) in
    let begins = c.begins_interval.ensures in
    let stands : left_after (codes "INTERVAL ") rest ≡ Some begins.0 = begins.1 ∙ ap (λ b. taken b begins.0) c.if-not-begins_interval.false in
    run_stops C sheet parametric_run whole (get_or bytes i 0) (drop (i + 1) bytes)
    (i + 1) last rest so_far begins.0 stands c.in_err-last-2.field-0.0 c.read_part.new.cursor c.from_residual-in_err-last-2.result c.in_err-last-2.ensures
    c.from_residual-in_err-last-2.ensures.1

pub loop-index-preserved : goal.loop-index-preserved
loop-index-preserved g c limit =
    let C = g.T.Checks.checker in
    let sheet = sheet_view c.args.sheet in
    let parametric_run = parametric_run_of limit c.args.request.now in
    let bytes = c.args.cursor.now in
    let whole = run_in C sheet parametric_run bytes 1 parametric_run.from bytes in
    let i = c.loop-index.index in
    let last = c.loop-index.last in
    let rest = c.loop-index.cursor in
    let below : i < length bytes = omega (arith, c.loop-index-test.true, ap length c.rest-room.ensures) in
    let so_far : IsRunSoFar C sheet parametric_run whole (get_or bytes i 0 ∷ drop (i + 1) bytes) (i + 1) last rest =
    room_left C sheet parametric_run whole bytes i last rest below (c.loop-index.invariant limit) in
    let begins = c.begins_interval.ensures in
    let stands : left_after (codes "INTERVAL ") rest ≡ Some begins.0 = begins.1 ∙ ap (λ b. taken b begins.0) c.if-not-begins_interval.false in
    run_goes_on C sheet parametric_run whole (get_or bytes i 0) (drop (i + 1) bytes)
    (i + 1) last rest so_far begins.0 stands c.in_ok-last-2.last c.read_part.new.cursor c.in_ok-last-2.ensures
