-- A run is a function but for the choice to stop with an overflow, as the function of src/lib.rt
-- promises it.
--     IsAsked question sheet s     how a statement of a run asks a question
--     HasOneAnswer S question      where it is asked so, it has one answer at most
--     AnswersOnce S                so has each question
--     AsksOnce S move              so has the question that a move asks where it asks it
--     IsSameOrStop a b             two outcomes are the same, or one is a stop for an overflow
--     HasEvidence S move           the evidence of an operation of a move holds
--     MeetsNoEvidence S bytes      no evidence holds at any moment of a run of the job
--     AreSame, Continues           two runs are the same; the one begins with the other
--     IsFunction S                 what is the same in two runs of one job
use Rattle.std.specs.Prelude.{◌≡◌, ◌⊎◌, ℕ, ◌-◌, ◌<◌, false, List, ◌++◌, Option, None, Some, Ok, slice_get}
use Rattle.exact_values.specs.Tests.{lt_ℚ}
use Rattle.lp_definitions.specs.declared.Evidence.{Evidence}
use Rattle.lp_definitions.specs.LinearProgram.{IsLinearProgram}
use Rattle.lp_definitions.specs.Basis.{IsBasis, IsOptimalBasis}
use Rattle.simplex_laws.specs.Laws.{IsNonsingularBasis}
use Rattle.problem_definitions.specs.Valid.{IsProblem}
use Rattle.selection_definitions.specs.Choice.{Choice}
use Rattle.selection_definitions.specs.Selection.{selected}
use Rattle.control_definitions.specs.Program.{Statement, Program}
use Rattle.listing_definitions.specs.declared.Mark.{Mark}
use Rattle.listing_definitions.specs.declared.Solver.{Solver}
use Rattle.listing_definitions.specs.Report.{SolutionLines, RangeLines, Report}
use Rattle.listing_definitions.specs.Ending.{Place, Overflow, Ending, OverflowStop}
use Rattle.question_definitions.specs.Answers.{Basis, Sheet, ParametricRun, Question, AnswerTo, OfPath, OfSolution, OfRanges, OfParametricRun, OfPunch}
use Rattle.question_definitions.specs.Answers.{OfInstall, PathEnd}
use Rattle.question_definitions.specs.Solving.{Solving, IsRight}
use Rattle.answer_definitions.specs.Verdicts.{IsSolved, IsDualSolved}
use Rattle.answer_definitions.specs.Sections.{IsSolutionOf, IsRanged}
use Rattle.answer_definitions.specs.Real.{linear_programming}
use Rattle.run_definitions.specs.State.{State}
use Rattle.run_definitions.specs.Moves.{StatementOutcome, stops, StatementMove, Does, MayStop, Asks, Shows, Gives}
use Rattle.run_definitions.specs.Verbs.{verb_move}
use Rattle.run_definitions.specs.Run.{max_executed, counted, Step}
use Rattle.run_definitions.specs.Answer.{IsJobRun, IsSoFar}
use Rattle.soundness_laws.specs.Truth.{IsOfProblem}

-- RANGE asks at an optimal basis; a parametric run changes something of the problem, and its last
-- value isn't less than its first; and what INSERT has read is a status list of a basis, but that its
-- columns may depend on each other.
abbrev pub Suits : Question → Sheet → Basis → Type 0
Suits (OfPath solver limit) sheet s = Unit {0}
Suits (OfSolution mark) sheet s = Unit {0}
Suits OfRanges sheet s = IsOptimalBasis sheet.lp s
Suits (OfParametricRun parametric_run) sheet s =
    IsOfProblem parametric_run.changing sheet.problem × (lt_ℚ parametric_run.to parametric_run.from ≡ false)
Suits OfPunch sheet s = Unit {0}
Suits (OfInstall t) sheet s = IsBasis sheet.lp t

-- How a statement of a run asks a question: about a linear program that is selected of a lawful
-- problem, at a nonsingular basis of it.
pub record IsAsked (question : Question) (sheet : Sheet) (s : Basis) : Type 0 where
  pub is_problem : IsProblem sheet.problem
  pub choice : Choice
  pub is_selected : selected sheet.problem choice ≡ Ok sheet.lp
  pub is_basis : IsNonsingularBasis sheet.lp s
  pub suits : Suits question sheet s

-- Where the question is asked so, it has one right answer at most.
abbrev pub HasOneAnswer : Solving → Question → Type 0
HasOneAnswer S question = (sheet : Sheet) (s : Basis) (a b : AnswerTo question) →
    IsAsked question sheet s → IsRight S question sheet s a → IsRight S question sheet s b → a ≡ b

-- So it is with each question that PRIMAL, DUAL, SOLUTION, RANGE, PARAOBJ, PARARHS, PUNCH and INSERT ask.
pub record AnswersOnce (S : Solving) : Type 0 where
  pub paths : (solver : Solver) (limit : Option ℕ) → HasOneAnswer S (OfPath solver limit)
  pub solutions : (mark : Mark) → HasOneAnswer S (OfSolution mark)
  pub ranges : HasOneAnswer S OfRanges
  pub parametric_runs : (parametric_run : ParametricRun) → HasOneAnswer S (OfParametricRun parametric_run)
  pub punches : HasOneAnswer S OfPunch
  pub installs : (t : Basis) → HasOneAnswer S (OfInstall t)

-- If a move asks a question, this has one right answer at most, about the linear program and at the
-- basis at which it is asked.
abbrev pub AsksOnce : Solving → StatementMove → Type 0
AsksOnce S (Does outcome) = Unit {0}
AsksOnce S (MayStop refusals move) = AsksOnce S move
AsksOnce S (Asks question sheet s go) = (a b : AnswerTo question) →
    IsRight S question sheet s a → IsRight S question sheet s b → a ≡ b

-- a stop for an overflow
abbrev pub IsOverflow : Ending → Type 0
IsOverflow ending = (overflow : Overflow) × (ending ≡ OverflowStop overflow)

abbrev pub IsOverflowStop : StatementOutcome → Type 0
IsOverflowStop outcome = (overflow : Overflow) × (outcome ≡ stops (OverflowStop overflow))

abbrev pub IsSameOrStop : StatementOutcome → StatementOutcome → Type 0
IsSameOrStop a b = (a ≡ b) ⊎ (IsOverflowStop a ⊎ IsOverflowStop b)

-- two runs report and punch the same, and end alike
pub record AreSame (reports others : List Report) (cards other_cards : List (List ℕ))
    (ending other : Ending) : Type 0 where
  pub same_reports : reports ≡ others
  pub same_cards : cards ≡ other_cards
  pub same_ending : ending ≡ other

-- the reports and the punched cards of the other run begin with those of the one
pub record Continues (reports others : List Report) (cards other_cards : List (List ℕ)) :
    Type 0 where
  pub more_reports : List Report
  pub more_cards : List (List ℕ)
  pub are_reports : others ≡ reports ++ more_reports
  pub are_cards : other_cards ≡ cards ++ more_cards

-- Evidence holds that an operation of a move doesn't fit.
abbrev pub HasEvidence : Solving → StatementMove → Type 0
HasEvidence S (Does outcome) = ⊥
HasEvidence S (MayStop refusals move) =
    ((evidence : Evidence) × (place : Option Place) × Shows S refusals evidence place) ⊎
    HasEvidence S move
HasEvidence S (Asks question sheet s go) = ⊥

-- However far a run of the job has come, no evidence holds at the statement that it executes next.
abbrev pub MeetsNoEvidence : Solving → List ℕ → Type 0
MeetsNoEvidence S bytes = (program : Program) (reports : List Report) (cards : List (List ℕ))
    (state : State) (statement : Statement ℕ) → IsSoFar S bytes reports cards program state →
    slice_get program.statements (state.position - 1) ≡ Some statement →
    state.executed < max_executed →
    HasEvidence S (verb_move statement.verb statement.card (counted state)) → ⊥

-- What is the same in two runs of one job. Two outcomes of one statement are the same, or one of
-- them is a stop for an overflow. Of two runs so far, the one begins with the other. Two runs that
-- both don't stop with an overflow report and punch the same, and end alike. Such a run begins with
-- every other, so that a stop for an overflow only breaks it off. And where no evidence holds at any
-- moment, no run stops with an overflow, and so all are the same.
pub record IsFunction (S : Solving) : Type 0 where
  pub step : (bytes : List ℕ) (program : Program) (reports : List Report) (cards : List (List ℕ))
      (state : State) (a b : StatementOutcome) → IsSoFar S bytes reports cards program state →
      Step S program state a → Step S program state b → IsSameOrStop a b
  pub so_far : (bytes : List ℕ) (program : Program) (reports others : List Report)
      (cards other_cards : List (List ℕ)) (state other : State) →
      IsSoFar S bytes reports cards program state →
      IsSoFar S bytes others other_cards program other →
      Continues reports others cards other_cards ⊎ Continues others reports other_cards cards
  pub job : (bytes : List ℕ) (reports others : List Report) (cards other_cards : List (List ℕ))
      (ending other : Ending) → IsJobRun S bytes reports cards ending →
      IsJobRun S bytes others other_cards other → (IsOverflow ending → ⊥) → (IsOverflow other → ⊥) →
      AreSame reports others cards other_cards ending other
  pub breaks_off : (bytes : List ℕ) (reports others : List Report)
      (cards other_cards : List (List ℕ)) (ending other : Ending) →
      IsJobRun S bytes reports cards ending → IsJobRun S bytes others other_cards other →
      (IsOverflow other → ⊥) → Continues reports others cards other_cards
  pub unstopped : (bytes : List ℕ) (reports : List Report) (cards : List (List ℕ))
      (ending : Ending) → MeetsNoEvidence S bytes → IsJobRun S bytes reports cards ending → IsOverflow ending → ⊥
  pub one_run : (bytes : List ℕ) (reports others : List Report) (cards other_cards : List (List ℕ))
      (ending other : Ending) → MeetsNoEvidence S bytes → IsJobRun S bytes reports cards ending →
      IsJobRun S bytes others other_cards other →
      AreSame reports others cards other_cards ending other

-- At a nonsingular basis of a lawful linear program a path has one end, be it the simplex or the dual
-- path and be there a limit or not, with one verdict and one check of it, and SOLUTION prints one list of lines; and so does RANGE at an
-- optimal basis of a linear program without a change row.
pub record AnswerLaws : Type 0 where
  pub path : (sheet : Sheet) (s : Basis) (limit : Option ℕ) (a b : PathEnd) → IsLinearProgram sheet.lp →
      IsNonsingularBasis sheet.lp s → IsSolved sheet s limit a → IsSolved sheet s limit b → a ≡ b
  pub dual_path : (sheet : Sheet) (s : Basis) (limit : Option ℕ) (a b : PathEnd) → IsLinearProgram sheet.lp →
      IsNonsingularBasis sheet.lp s → IsDualSolved sheet s limit a → IsDualSolved sheet s limit b → a ≡ b
  pub solution : (sheet : Sheet) (s : Basis) (a b : SolutionLines) → IsLinearProgram sheet.lp →
      IsNonsingularBasis sheet.lp s → IsSolutionOf sheet s a → IsSolutionOf sheet s b → a ≡ b
  pub ranges : (sheet : Sheet) (s : Basis) (a b : RangeLines) → IsLinearProgram sheet.lp →
      sheet.lp.change ≡ None → IsOptimalBasis sheet.lp s →
      IsRanged sheet s a → IsRanged sheet s b → a ≡ b

-- Two outcomes of a move that asks its question where it has one answer at most are the same, or
-- one of them is a stop for an overflow. Where a statement asks a question, it has one answer at
-- most; and so a run is a function.
pub record RunFunctions : Type 0 where
  pub answers : AnswerLaws
  pub moves : (card : ℕ) (move : StatementMove) (a b : StatementOutcome) → AsksOnce linear_programming move →
      Gives linear_programming card move a → Gives linear_programming card move b →
      IsSameOrStop a b
  pub answered : AnswersOnce linear_programming
  pub runs : IsFunction linear_programming
