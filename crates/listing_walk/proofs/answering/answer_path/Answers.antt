-- What is open comes first, and then the verdict.
use Rattle.std.proofs.Common.{refl}
use Rattle.question_definitions.specs.Answers.{OfPath}
use Rattle.listing_answers.specs.Taken.{IsConclusion}
use Rattle.listing_words.specs.Read.{sheet_view}
use Rattle.listing_walk.specs.Asking.{IsMarked}
use Rattle.listing_walk.specs.Walking.{open_by}
use Rattle.std.proofs.Common.{true}
use Rattle.listing_walk.proofs.Asked.{path_answered, open_handed, stopped_answered}
use Rattle.listing_walk.proofs.answering.answer_path.Goals as goal

pub returns-in_err-rest-clause-answered : goal.returns-in_err-rest-clause-answered
returns-in_err-rest-clause-answered g c = λ limit.
    open_handed g.T.Checks.checker (OfPath c.args.solver limit) (sheet_view c.args.sheet) c.args.place.now true (λ w go. refl)
    IsMarked c.args.place.now c.from_residual.result c.in_err-rest.field-0.0 c.in_err-rest.ensures c.from_residual.ensures.1

pub returns-in-Ok-clause-answered : goal.returns-in-Ok-clause-answered
returns-in-Ok-clause-answered g c = λ limit.
    path_answered g.T.Checks.checker c.args.solver limit
    (sheet_view c.args.sheet) c.args.place.now _ c.in_ok-rest.ensures.1 refl c.in-Ok.conclusion c.mark_of.result c.in_ok-rest.rest.now c.in_ok-rest.ensures.0
    (record { marks = c.mark_of.ensures; pends = c.pending_after-place.ensures }) (c.in-Ok.ensures limit)

pub returns-in-Err-clause-answered : goal.returns-in-Err-clause-answered
returns-in-Err-clause-answered g c = λ limit.
    rw c.stopped_by.ensures
    (stopped_answered g.T.Checks.checker (OfPath c.args.solver limit) (sheet_view c.args.sheet) c.args.place.now (open_by true true)
    (λ w go. refl) c.in_ok-rest.ensures.1 IsConclusion IsMarked c.args.place.now c.answer_to_path.new.cursor c.in-Err.stop c.in_ok-rest.rest
    c.in_ok-rest.ensures.0 (c.in-Err.ensures limit))
