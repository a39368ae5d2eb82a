-- Each report of the run of a job holds of the state in which it was made.
use Rattle.std.proofs.Common.{ℕ, List, []}
use Rattle.std.specs.Prelude.{All}
use Rattle.std.proofs.lemmas.List.Elements.{All-nil, All-cons}
use Rattle.control_definitions.specs.Program.{Program}
use Rattle.listing_definitions.specs.declared.Mark.TheVariants.{Optimal, Infeasible, Unbounded}
use Rattle.listing_definitions.specs.declared.Solver.TheVariants.{Primal as ByPrimal, Dual as ByDual, Paraobj as ByParaobj, Pararhs as ByPararhs}
use Rattle.listing_definitions.specs.Report.{Report, Titled, Converted, Revised, SetUp, BcdOut, BasisOut, Inserted, Solved, Solution, Ranges, Parametric}
use Rattle.listing_definitions.specs.Ending.{Ending, Ended, WordsRefused, ControlStop, VerbStop, SingularStop, PriceStop, DeckStop, CardStop, LimitStop}
use Rattle.listing_definitions.specs.Ending.{StatementLimit, OverflowStop, ReadFault, PrintFault, PunchFault, Memory}
use Rattle.question_definitions.specs.Solving.{Solving}
use Rattle.answer_definitions.specs.Real.{linear_programming}
use Rattle.run_definitions.specs.State.{State}
use Rattle.run_definitions.specs.Moves.{Gain, Nothing, Prints, Punches, printed_by, StatementOutcome, Goes, Ends}
use Rattle.run_definitions.specs.Run.{counted, Step, Reaches, begun, stepped, IsRun, is_over, is_ended}
use Rattle.run_definitions.specs.Answer.{Job, Failures, Answer, IsProgramOf, job_decks, IsJobRun, card_fault, control_fault, run, MayEnd, words_refused}
use Rattle.run_definitions.specs.Answer.{read_fails, by_itself, memory_at_start, memory_in_run, memory_at_punch, punch_fails, IsCutShort, in_report, in_end}
use Rattle.run_definitions.specs.Answer.{IsAnswer, whole, print_fails, print_wants_memory}
use Rattle.soundness_laws.specs.Truth.{Holds, HoldsAtEnd}
use Rattle.soundness_laws.specs.Headline.{HoldSoFar, HoldInRun, HoldInJob, HoldInEnd, HoldInCut, HoldInAnswer}
use Rattle.soundness_laws.specs.Laws.{KnowsSolving, reports_of, ReportsTheTruth}
use Rattle.soundness_laws.proofs.Moves.{HasProblem, Knows, HoldsGain, Keeps, unmarked, without_setup}
use Rattle.soundness_laws.proofs.Verbs.{verb_kept}
use Rattle.soundness_laws.proofs.Filed.{job_reaching}

-- to count a statement as executed changes nothing of which a report speaks
uncounted : (state : State) (report : Report) → Holds (counted state) report → Holds state report
uncounted state (Titled text) holds = tt
uncounted state (Converted filed) holds = tt
uncounted state (Revised filed) holds = tt
uncounted state (SetUp name sense) holds = tt
uncounted state (BcdOut name cards) holds = tt
uncounted state (BasisOut name cards) holds = holds
uncounted state (Inserted name basic) holds = holds
uncounted state (Solved ByPrimal verdict check) holds = holds
uncounted state (Solved ByDual verdict check) holds = holds
uncounted state (Solved ByParaobj verdict check) holds = holds
uncounted state (Solved ByPararhs verdict check) holds = holds
uncounted state (Solution Optimal lines) holds = holds
uncounted state (Solution Infeasible lines) holds = tt
uncounted state (Solution Unbounded lines) holds = tt
uncounted state (Ranges lines) holds = holds
uncounted state (Parametric solver chain) holds = holds

-- and nothing of which an end speaks
uncounted_end : (state : State) (ending : Ending) → HoldsAtEnd (counted state) ending → HoldsAtEnd state ending
uncounted_end state (Ended code) holds = tt
uncounted_end state WordsRefused holds = tt
uncounted_end state (ControlStop fault) holds = tt
uncounted_end state (VerbStop fault) holds = tt
uncounted_end state (SingularStop basis) holds = holds
uncounted_end state (PriceStop price) holds = holds
uncounted_end state (DeckStop fault) holds = tt
uncounted_end state (CardStop fault) holds = tt
uncounted_end state (LimitStop reached) holds = tt
uncounted_end state StatementLimit holds = tt
uncounted_end state (OverflowStop overflow) holds = tt
uncounted_end state ReadFault holds = tt
uncounted_end state PrintFault holds = tt
uncounted_end state PunchFault holds = tt
uncounted_end state Memory holds = tt

-- the report of a gain
printed_holds : (state : State) (gain : Gain) → HoldsGain (counted state) gain → All (Holds state) (printed_by gain)
printed_holds state Nothing holds = All-nil (Holds state)
printed_holds state (Prints report) holds = All-cons (Holds state) report [] (uncounted state report holds) (All-nil (Holds state))
printed_holds state (Punches report cards) holds = All-cons (Holds state) report [] (uncounted state report holds) (All-nil (Holds state))

outcome_holds : (state : State) (outcome : StatementOutcome) → Keeps (counted state) outcome → All (Holds state) (reports_of outcome)
outcome_holds state (Goes gain after) keeps = printed_holds state gain keeps.0
outcome_holds state (Ends gain ending) keeps = printed_holds state gain keeps.0

module _ (S : Solving) (solving : KnowsSolving S) where
  step_keeps : (program : Program) (state : State) (outcome : StatementOutcome) → HasProblem state.setup → Knows state → Step S program state outcome →
      Keeps (counted state) outcome
  step_keeps program state outcome lawful knows step =
      (verb_kept S solving step.statement.verb step.statement.card (counted state) lawful
      (record { marked = knows.marked; bases = knows.bases })).by outcome step.gives

  module _ (bytes : List ℕ) (program : Program) (is_program : IsProgramOf bytes program) where
    pub has_problem : (reports : List Report) (cards : List (List ℕ)) (state : State) → Reaches S program (job_decks program bytes) reports cards state →
        HasProblem state.setup
    has_problem reports cards state reaches = (job_reaching S bytes program reports cards state (record { is_program = is_program; reaches = reaches })).setup

    pub known : (reports : List Report) (cards : List (List ℕ)) (state : State) → Reaches S program (job_decks program bytes) reports cards state → Knows state
    known _ _ _ begun = record { marked = unmarked _ _ _; bases = without_setup }
    known _ _ _ (stepped {reports} {cards} {state} gain after before step) =
        (step_keeps program state (Goes gain after) (has_problem reports cards state before) (known reports cards state before) step).1

    step_holds : (reports : List Report) (cards : List (List ℕ)) (state : State) (outcome : StatementOutcome) →
        Reaches S program (job_decks program bytes) reports cards state → Step S program state outcome →
        All (Holds state) (reports_of outcome)
    step_holds reports cards state outcome reaches step =
        outcome_holds state outcome (step_keeps program state outcome (has_problem reports cards state reaches) (known reports cards state reaches) step)

    end_of_step_holds : (reports : List Report) (cards : List (List ℕ)) (state : State) (gain : Gain) (ending : Ending) →
        Reaches S program (job_decks program bytes) reports cards state →
        Step S program state (Ends gain ending) → HoldsAtEnd state ending
    end_of_step_holds reports cards state gain ending reaches step =
        uncounted_end state ending
        (step_keeps program state (Ends gain ending) (has_problem reports cards state reaches) (known reports cards state reaches) step).1

    so_far_holds : (reports : List Report) (cards : List (List ℕ)) (state : State) (reaches : Reaches S program (job_decks program bytes) reports cards state) →
        HoldSoFar S Holds program (job_decks program bytes) reaches
    so_far_holds _ _ _ begun = tt
    so_far_holds _ _ _ (stepped {reports} {cards} {state} gain after before step) =
        (so_far_holds reports cards state before, step_holds reports cards state (Goes gain after) before step)

    run_holds : (reports : List Report) (cards : List (List ℕ)) (ending : Ending) (runs : IsRun S program (job_decks program bytes) reports cards ending) →
        HoldInRun S Holds HoldsAtEnd program (job_decks program bytes) runs
    run_holds _ _ _ (is_over {reports} {cards} {state} before over) = so_far_holds reports cards state before
    run_holds _ _ ending (is_ended {reports} {cards} {state} gain before step) = (
      so_far_holds reports cards state before,
      step_holds reports cards state
          (Ends gain ending) before step,
      end_of_step_holds reports cards state gain ending before step,
    )

  job_holds : (bytes : List ℕ) (reports : List Report) (cards : List (List ℕ)) (ending : Ending) (runs : IsJobRun S bytes reports cards ending) →
      HoldInJob S Holds HoldsAtEnd runs
  job_holds bytes _ _ _ (card_fault fault is) = tt
  job_holds bytes _ _ _ (control_fault fault is compiled) = tt
  job_holds bytes reports cards ending (run program is runs) = run_holds bytes program is reports cards ending runs

  end_holds : {job : Job} {failures : Failures} (reports : List Report) (cards deck : List (List ℕ)) (ending : Ending)
      (may_end : MayEnd S job failures reports cards deck ending) → HoldInEnd S may_end
  end_holds _ _ _ _ (words_refused is) = tt
  end_holds _ _ _ _ (read_fails bytes is failed) = tt
  end_holds reports cards _ ending (by_itself bytes is runs) = job_holds bytes reports cards ending runs
  end_holds _ _ _ _ memory_at_start = tt
  end_holds _ _ _ _ (memory_in_run bytes program state is so_far) = so_far_holds bytes program so_far.is_program _ _ state so_far.reaches
  end_holds _ _ _ _ (memory_at_punch bytes program state deck is so_far punching) = so_far_holds bytes program so_far.is_program _ _ state so_far.reaches
  end_holds _ _ _ _ (punch_fails bytes program state deck failed is so_far punching) = so_far_holds bytes program so_far.is_program _ _ state so_far.reaches

  cut_holds : {job : Job} {failures : Failures} {answer : Answer} (cut : IsCutShort S job failures answer) → HoldInCut S cut
  cut_holds (in_report bytes program state outcome part is so_far step prefix printed punched) =
      (so_far_holds bytes program so_far.is_program _ _ state so_far.reaches, step_holds bytes program so_far.is_program _ _ state outcome so_far.reaches step)
  cut_holds (in_end ending part may_end prefix printed punched) = end_holds _ _ _ ending may_end

  -- each report of an answer to a job holds of the state in which it was made
  pub answer_holds : {job : Job} {failures : Failures} {answer : Answer} (is : IsAnswer S job failures answer) → HoldInAnswer S is
  answer_holds (whole {reports} {cards} {deck} ending may_end status printed punched) = end_holds reports cards deck ending may_end
  answer_holds (print_fails failed status cut) = cut_holds cut
  answer_holds (print_wants_memory wanted status cut) = cut_holds cut

  pub tells_truth : ReportsTheTruth S
  tells_truth = record {
    step = λ bytes program reports cards state outcome so_far step. step_holds bytes program so_far.is_program reports cards state outcome so_far.reaches step;
    stop =
        λ bytes program reports cards state gain ending so_far step. end_of_step_holds bytes program so_far.is_program reports cards state gain ending
        so_far.reaches step;
    job = job_holds;
  }

pub knows_linear_programming : KnowsSolving linear_programming
unfolding linear_programming
knows_linear_programming = record {
  solves = λ solver sheet s limit end solved. solved;
  shows = λ mark sheet s lines viewed. viewed;
  ranges = λ sheet s lines ranged. ranged;
  parametric_runs = λ sheet s parametric_run end ran. ran;
  punches = λ sheet s cards punched. punched;
  installs = λ sheet t end installed. installed;
}
