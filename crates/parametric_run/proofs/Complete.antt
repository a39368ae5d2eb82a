-- Where the run ends within the limit and no evidence holds, the call answers.
use Rattle.std.proofs.Common.{ℕ, List, map, length, Result, Ok, Err, inl, inr, refl, sym, ap, subst, ◌∙◌}
use Rattle.std.specs.Prelude.{IfOk, IfErr}
use Rattle.exact_values.specs.Rational.{ℚ}
use Rattle.lp_definitions.specs.LinearProgram.{Matrix, LinearProgram}
use Rattle.lp_definitions.specs.Basis.{Basics}
use Rattle.lp_definitions.specs.declared.Evidence.{Evidence}
use Rattle.lp_definitions.specs.declared.Status.{Status}
use Rattle.lp_model.specs.declared.reports.ParaReport.{ParaReport}
use Rattle.lp_model.specs.declared.reports.ParaReport.TheVariants.{Opening, Run}
use Rattle.simplex_definitions.specs.Counts.{counted_steps}
use Rattle.simplex_definitions.specs.Path.{last_of}
use Rattle.simplex_laws.specs.Laws.{IsNonsingularBasis}
use Rattle.simplex_definitions.specs.Chain.{RunReport, FailedOpening, Chain, FaceTurn, IsReport}
use Rattle.parametric_laws.specs.Laws.{SameReports}
use Rattle.parametric_laws.proofs.OneRun.{one_report}
use Rattle.parametric_laws.specs.Families.{HasOneFace}
use Rattle.parametric_laws.proofs.NotBoth.{not_both}
use Rattle.bounded_primal.specs.declared.moves.PrimalStop.{PrimalStop}
use Rattle.bounded_primal.specs.declared.moves.PrimalStop.TheVariants.{Limit, Overflow, NoMemory}
use Rattle.parametric_run.specs.Calls.{part_of, end_of, IsReported, RunEnds, RunStops}
use Rattle.parametric_run.specs.Complete.{IsReportOf, RunEndsOverflowFree, IsRunOrMemory}

module _ (family : ℚ → LinearProgram) (Face : ℚ → List Status → FaceTurn → Type 0) (from max : ℚ) (s : List Status) where
  -- the answer in the words of runs
  record HasReported (answer : ParaReport) (bases : List (List Status)) : Type 0 where
    report : RunReport
    is_report : IsReport family Face from max s report bases
    is_answer : IsReportOf report (counted_steps (length bases)) answer

  reported : (answer : ParaReport) (bases : List (List Status)) → IsReported family Face from max s answer bases → HasReported answer bases
  reported (Opening outcome) bases is = record { report = FailedOpening is.ending; is_report = is.opens; is_answer = ap Opening is.is_outcome }
  reported (Run run) bases is = record { report = Chain (map part_of run.parts) (end_of run.end); is_report = is; is_answer = (run, refl, refl, refl) }

  module _ (p : LinearProgram) (one : HasOneFace p family Face) (at : IsNonsingularBasis p s) (limit : ℕ)
      (Overflows : List Status → List Basics → Evidence → Type 0) where
    pub run_answers : (a : Matrix) (now : List Status) (before after : List Basics) (result : Result ParaReport PrimalStop) →
        IfOk result (RunEnds family Face from max s now limit a before after) → IfErr result (RunStops family Face from max s now limit (Overflows now after)) →
        (report : RunReport) (path : List (List Status)) → RunEndsOverflowFree family Face from max s limit Overflows report path →
        IsRunOrMemory s report path now result
    run_answers a now before after (Ok answer) ends stops report path goes =
        let given = reported answer ends.bases ends.is_report in
        let same : SameReports report given.report path ends.bases =
        one_report p family Face one from max s report given.report path ends.bases at goes.ends given.is_report in
        inl (
          answer,
          refl,
          subst (λ (r : RunReport). IsReportOf r (counted_steps (length path)) answer) (sym same.same_report)
              (subst (λ (xs : List (List Status)). IsReportOf given.report (counted_steps (length xs)) answer) (sym same.same_path) given.is_answer),
          ap (last_of s) same.same_path ∙ ends.reaches,
        )
    run_answers a now before after (Err Limit) ends stops report path goes =
        absurd (not_both p family Face one from max s report path limit at goes.ends goes.within stops.goes_on)
    run_answers a now before after (Err (Overflow e)) ends stops report path goes = absurd (goes.no_evidence now after e stops)
    run_answers a now before after (Err NoMemory) ends stops report path goes = inr refl
