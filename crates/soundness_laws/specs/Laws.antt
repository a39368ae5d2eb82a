-- The law of whole runs, as the function of src/lib.rt promises it.
--     KnowsSolving S               the ends of paths and of parametric runs, the lines of SOLUTION and RANGE,
--                                  punched bases and what comes of inserted ones are those of the linear
--                                  program
--     ReportsTheTruth S            each report of the run of a job holds of the state in which it is made,
--                                  and so does its end
--     FilesProblems S              every problem that is filed in the run of a job is one
--     EndsUnlimited S              where there is no limit on steps, PRIMAL doesn't stop at one
--     RunLaws                      these of linear programming, and what holds of printed parametric runs
use Rattle.std.specs.Prelude.{◌≡◌, ℕ, List, All, Option, None, Some}
use Rattle.problem_definitions.specs.Valid.{IsProblem}
use Rattle.control_definitions.specs.Program.{Primal, Program}
use Rattle.listing_definitions.specs.declared.Mark.{Mark}
use Rattle.listing_definitions.specs.declared.Solver.{Solver}
use Rattle.listing_definitions.specs.Report.{SolutionLines, RangeLines, Report}
use Rattle.listing_definitions.specs.Ending.{Ending, LimitStop}
use Rattle.question_definitions.specs.Answers.{Basis, Sheet, ParametricRun, PathEnd, ParametricRunEnd, InstallEnd}
use Rattle.question_definitions.specs.Solving.{Solving}
use Rattle.answer_definitions.specs.Verdicts.{IsSolvedBy}
use Rattle.answer_definitions.specs.Sections.{IsSolutionOf, IsRanged}
use Rattle.answer_definitions.specs.ParametricRuns.{IsParametricRun}
use Rattle.answer_definitions.specs.Bases.{ArePunched, IsInstalled}
use Rattle.answer_definitions.specs.Real.{linear_programming}
use Rattle.run_definitions.specs.State.{Present, State}
use Rattle.run_definitions.specs.Moves.{Gain, printed_by, StatementOutcome, Ends, gain_of, Gives}
use Rattle.run_definitions.specs.Verbs.{verb_move}
use Rattle.run_definitions.specs.Run.{Step}
use Rattle.run_definitions.specs.Answer.{IsJobRun, IsSoFar}
use Rattle.soundness_laws.specs.ParametricRuns.{ParametricRunLaws}
use Rattle.soundness_laws.specs.Truth.{Holds, HoldsAtEnd}
use Rattle.soundness_laws.specs.Headline.{HoldInJob}

-- the ends of paths and of parametric runs, the lines of SOLUTION and RANGE, the cards of PUNCH and what
-- comes of the basis that INSERT reads are those of the linear program
pub record KnowsSolving (S : Solving) : Type 0 where
  pub solves : (solver : Solver) (sheet : Sheet) (s : Basis) (limit : Option ℕ) (end : PathEnd) → S.Solves solver sheet s limit end →
      IsSolvedBy solver sheet s limit end
  pub shows : (mark : Mark) (sheet : Sheet) (s : Basis) (lines : SolutionLines) → S.Shows mark sheet s lines → IsSolutionOf sheet s lines
  pub ranges : (sheet : Sheet) (s : Basis) (lines : RangeLines) → S.Ranges sheet s lines → IsRanged sheet s lines
  pub parametric_runs : (sheet : Sheet) (s : Basis) (parametric_run : ParametricRun) (end : ParametricRunEnd) → S.ParametricRuns sheet s parametric_run end →
      IsParametricRun sheet s parametric_run end
  pub punches : (sheet : Sheet) (s : Basis) (cards : List (List ℕ)) → S.Punches sheet s cards → ArePunched sheet s cards
  pub installs : (sheet : Sheet) (t : Basis) (end : InstallEnd) → S.Installs sheet t end → IsInstalled sheet t end

-- what a statement prints, where the run goes on and where it ends
abbrev pub reports_of : StatementOutcome → List Report
reports_of outcome = printed_by (gain_of outcome)

-- In the run of a job, each report of a statement holds of the state in which it is executed, and so does
-- the end to which a statement brings the run; and so each report of a job that ends by itself, and its end,
-- holds of the state in which it was made.
pub record ReportsTheTruth (S : Solving) : Type 0 where
  pub step : (bytes : List ℕ) (program : Program) (reports : List Report) (cards : List (List ℕ)) (state : State)
      (outcome : StatementOutcome) → IsSoFar S bytes reports cards program state → Step S program state outcome →
      All (Holds state) (reports_of outcome)
  pub stop : (bytes : List ℕ) (program : Program) (reports : List Report) (cards : List (List ℕ)) (state : State)
      (gain : Gain) (ending : Ending) → IsSoFar S bytes reports cards program state →
      Step S program state (Ends gain ending) → HoldsAtEnd state ending
  pub job : (bytes : List ℕ) (reports : List Report) (cards : List (List ℕ)) (ending : Ending) →
      (runs : IsJobRun S bytes reports cards ending) → HoldInJob S Holds HoldsAtEnd runs

-- In the run of a job, every problem that is filed keeps what is asked of one, and so does that of the
-- setup.
pub record FilesProblems (S : Solving) : Type 0 where
  pub filed : (bytes : List ℕ) (program : Program) (reports : List Report) (cards : List (List ℕ)) (state : State) →
      IsSoFar S bytes reports cards program state → All IsProblem state.file
  pub set_up : (bytes : List ℕ) (program : Program) (reports : List Report) (cards : List (List ℕ)) (state : State)
      (present : Present) → IsSoFar S bytes reports cards program state → state.setup ≡ Some present →
      IsProblem present.problem

-- the run doesn't end at the limit on steps
abbrev pub IsNoLimitStop : StatementOutcome → Type 0
IsNoLimitStop (Ends gain (LimitStop reached)) = ⊥
IsNoLimitStop _ = Unit {0}

-- Where there is no limit, PRIMAL doesn't stop at one.
abbrev pub EndsUnlimited : Solving → Type 0
EndsUnlimited S = (card : ℕ) (state : State) (outcome : StatementOutcome) → state.cells.xiterlim ≡ None →
    Gives S card (verb_move Primal card state) outcome → IsNoLimitStop outcome

-- of the runs whose answers are those of linear programming
pub record RunLaws : Type 0 where
  pub parametric_runs : ParametricRunLaws
  pub truth : ReportsTheTruth linear_programming
  pub problems : FilesProblems linear_programming
  pub unlimited : EndsUnlimited linear_programming
