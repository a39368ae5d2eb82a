-- What is open comes first, and then the run.
use Rattle.std.proofs.Common.{true, refl}
use Rattle.question_definitions.specs.Answers.{OfParametricRun}
use Rattle.listing_claims.specs.Asked.{parametric_run_of}
use Rattle.listing_answers.specs.Taken.{IsParametricRunAnswer}
use Rattle.listing_words.specs.Read.{sheet_view}
use Rattle.listing_walk.specs.Walking.{open_by}
use Rattle.listing_walk.proofs.Asked.{parametric_run_answered, open_handed, stopped_answered}
use Rattle.listing_walk.proofs.answering.answer_parametric_run.Goals as goal

pub returns-in_err-rest-clause-answered : goal.returns-in_err-rest-clause-answered
returns-in_err-rest-clause-answered g c = λ limit.
    open_handed g.T.Checks.checker (OfParametricRun (parametric_run_of limit c.args.request.now)) (sheet_view c.args.sheet) c.args.place.now true (λ w go. refl)
    IsParametricRunAnswer c.args.place.now c.from_residual.result c.in_err-rest.field-0.0 c.in_err-rest.ensures c.from_residual.ensures.1

pub returns-in-Ok-clause-answered : goal.returns-in-Ok-clause-answered
returns-in-Ok-clause-answered g c = λ limit.
    parametric_run_answered g.T.Checks.checker (parametric_run_of limit c.args.request.now)
    (sheet_view c.args.sheet) c.args.place.now _ c.in_ok-rest.ensures.1 refl refl c.in-Ok.answer (c.in-Ok.ensures limit)

pub returns-in-Err-clause-answered : goal.returns-in-Err-clause-answered
returns-in-Err-clause-answered g c = λ limit.
    rw c.stopped_by.ensures
    (stopped_answered g.T.Checks.checker (OfParametricRun (parametric_run_of limit c.args.request.now)) (sheet_view c.args.sheet) c.args.place.now
    (open_by true true)
    (λ w go. refl) c.in_ok-rest.ensures.1 IsParametricRunAnswer IsParametricRunAnswer c.args.place.now c.answer_to_parametric_run.new.cursor c.in-Err.stop
    c.in_ok-rest.rest c.in_ok-rest.ensures.0 (c.in-Err.ensures limit))
