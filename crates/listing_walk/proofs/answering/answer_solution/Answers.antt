-- What is open comes first, and then the lines.
use Rattle.std.proofs.Common.{true, false, sym, refl, ◌∙◌}
use Rattle.question_definitions.specs.Answers.{OfSolution}
use Rattle.listing_words.specs.Read.{sheet_view}
use Rattle.listing_walk.specs.Asking.{IsAny}
use Rattle.listing_walk.specs.Walking.{open_by}
use Rattle.listing_walk.proofs.Asked.{IsReportedObjective, opens_view, optimal_by, other_answered, open_handed, stopped_answered}
use Rattle.listing_walk.proofs.answering.answer_solution.Goals as goal

pub returns-in_err-rest-clause-answered : goal.returns-in_err-rest-clause-answered
returns-in_err-rest-clause-answered g c =
    open_handed g.T.Checks.checker (OfSolution c.args.mark) (sheet_view c.args.sheet) c.args.place.now false (opens_view (sheet_view c.args.sheet) c.args.mark)
    (IsAny (OfSolution c.args.mark)) c.args.place.now c.from_residual.result c.in_err-rest.field-0.0 c.in_err-rest.ensures c.from_residual.ensures.1

pub returns-then-not-is_optimal-clause-answered : goal.returns-then-not-is_optimal-clause-answered
returns-then-not-is_optimal-clause-answered g c =
    other_answered g.T.Checks.checker
    (sheet_view c.args.sheet) c.args.place.now c.in_ok-rest.ensures.1 c.answer_to_solution.new.cursor c.in-Ok.objective _ refl refl refl c.args.mark
    (sym c.is_optimal.ensures ∙ c.if-not-is_optimal.true) c.in-Ok.ensures

pub returns-in_default-clause-answered : goal.returns-in_default-clause-answered
returns-in_default-clause-answered g c =
    optimal_by g.T.Checks.checker (sheet_view c.args.sheet) c.args.place.now c.in_ok-rest.ensures.1 c.answer_to_solution.new.cursor
    c.in-Ok.objective c.args.mark
    (sym c.is_optimal.ensures ∙ c.if-not-is_optimal.false) c.in_default.ensures _ refl refl refl c.in-Ok.ensures

pub returns-in-Err-clause-answered : goal.returns-in-Err-clause-answered
returns-in-Err-clause-answered g c =
    rw c.stopped_by.ensures
    (stopped_answered g.T.Checks.checker (OfSolution c.args.mark) (sheet_view c.args.sheet) c.args.place.now (open_by true false)
    (opens_view (sheet_view c.args.sheet) c.args.mark) c.in_ok-rest.ensures.1
    (IsReportedObjective (sheet_view c.args.sheet))
    (IsAny (OfSolution c.args.mark)) c.args.place.now c.answer_to_solution.new.cursor c.in-Err.stop c.in_ok-rest.rest c.in_ok-rest.ensures.0 c.in-Err.ensures)
