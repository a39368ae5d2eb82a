-- A run whose answers fit is a run of its job, and its reports fit.
use Rattle.std.proofs.Common.{ℕ, List, [], ◌∷◌, ◌++◌, Option}
use Rattle.lp_definitions.specs.declared.Evidence.{Evidence}
use Rattle.card_definitions.specs.Cards.{Card}
use Rattle.control_definitions.specs.Program.{Program}
use Rattle.listing_definitions.specs.Report.{Report}
use Rattle.listing_definitions.specs.Ending.{Place, Ending}
use Rattle.question_definitions.specs.Answers.{Basis, Sheet, Question, OfPath, OfSolution, OfRanges, OfParametricRun, OfPunch, OfInstall, AnswerTo}
use Rattle.question_definitions.specs.Solving.{IsRight}
use Rattle.answer_definitions.specs.Real.{linear_programming}
use Rattle.run_definitions.specs.State.{State}
use Rattle.run_definitions.specs.Moves.{Gain, Nothing, Prints, Punches, printed_by, StatementOutcome, gain_of, StatementMove, Gives}
use Rattle.run_definitions.specs.Run.{counted, Step, Reaches, begun, stepped, IsRun, is_over, is_ended}
use Rattle.run_definitions.specs.Answer.{Job, Failures, job_decks, card_fault, control_fault, run, IsAnswered}
use Rattle.fitting_answers.specs.Fitting.{ReportsFit, GainFits}
use Rattle.fitting_answers.specs.Real.{linear_programming_of_128_bits}
use Rattle.fitting_laws.specs.Laws.{AreRuns, PrintsFitting}
use Rattle.fitting_laws.proofs.Weaker.{gives, reaches, job_run, is_answered}
use Rattle.fitting_laws.proofs.Outcomes.{outcome_fits}

-- ---- it is a run

pub right_too : (question : Question) (sheet : Sheet) (s : Basis) (answer : AnswerTo question) →
    IsRight linear_programming_of_128_bits question sheet s answer → IsRight linear_programming question sheet s answer
unfolding linear_programming linear_programming_of_128_bits
right_too (OfPath solver limit) sheet s answer right = right.0
right_too (OfSolution mark) sheet s answer right = right.0
right_too OfRanges sheet s answer right = right
right_too (OfParametricRun parametric_run) sheet s answer right = right.0
right_too OfPunch sheet s answer right = right
right_too (OfInstall t) sheet s answer right = right

overflows_too : (question : Question) (sheet : Sheet) (bases : List Basis) (e : Evidence) (place : Option Place) →
    linear_programming_of_128_bits.Overflows question sheet bases e place → linear_programming.Overflows question sheet bases e place
unfolding linear_programming linear_programming_of_128_bits
overflows_too question sheet bases e place shown = shown.0

pub gives_too : (card : ℕ) (move : StatementMove) (outcome : StatementOutcome) → Gives linear_programming_of_128_bits card move outcome →
    Gives linear_programming card move outcome
gives_too = gives linear_programming_of_128_bits linear_programming right_too overflows_too

pub reaches_too : (program : Program) (decks : List (List Card)) (reports : List Report) (cards : List (List ℕ)) (s : State) →
    Reaches linear_programming_of_128_bits program decks reports cards s → Reaches linear_programming program decks reports cards s
reaches_too = reaches linear_programming_of_128_bits linear_programming right_too overflows_too

pub answered_too : (job : Job) (failures : Failures) (status : ℕ) (PrintGains PunchGains : List ℕ → Type 0) →
    IsAnswered linear_programming_of_128_bits job failures status PrintGains PunchGains →
    IsAnswered linear_programming job failures status PrintGains PunchGains
answered_too = is_answered linear_programming_of_128_bits linear_programming right_too overflows_too

pub are_runs : AreRuns
are_runs = job_run linear_programming_of_128_bits linear_programming right_too overflows_too

-- ---- its reports fit

fit_both : (reports more : List Report) → ReportsFit reports → ReportsFit more → ReportsFit (reports ++ more)
fit_both [] more first second = second
fit_both (report ∷ reports) more first second = (first.0, fit_both reports more first.1 second)

printed_fit : (gain : Gain) → GainFits gain → ReportsFit (printed_by gain)
printed_fit Nothing fit = tt
printed_fit (Prints report) fit = (fit, tt)
printed_fit (Punches report cards) fit = (fit, tt)

module _ (program : Program) where
  pub step_fits : (s : State) (outcome : StatementOutcome) → Step linear_programming_of_128_bits program s outcome → GainFits (gain_of outcome)
  step_fits s outcome step = outcome_fits step.statement.verb step.statement.card (counted s) outcome step.gives

  module _ (decks : List (List Card)) where
    so_far_fit : (reports : List Report) (cards : List (List ℕ)) (s : State) → Reaches linear_programming_of_128_bits program decks reports cards s →
        ReportsFit reports
    so_far_fit _ _ _ begun = tt
    so_far_fit _ _ _ (stepped {reports} {cards} {state} gain after before step) =
        fit_both reports (printed_by gain) (so_far_fit reports cards state before) (printed_fit gain (step_fits state _ step))

    run_fits : (reports : List Report) (cards : List (List ℕ)) (ending : Ending) → IsRun linear_programming_of_128_bits program decks reports cards ending →
        ReportsFit reports
    run_fits _ _ _ (is_over {reports} {cards} {state} before is) = so_far_fit reports cards state before
    run_fits _ _ _ (is_ended {reports} {cards} {state} gain before step) =
        fit_both reports (printed_by gain) (so_far_fit reports cards state before) (printed_fit gain (step_fits state _ step))

pub prints_fitting : PrintsFitting
prints_fitting bytes _ _ _ (card_fault fault is) = tt
prints_fitting bytes _ _ _ (control_fault fault none is) = tt
prints_fitting bytes reports cards ending (run program is_program runs) = run_fits program (job_decks program bytes) reports cards ending runs
