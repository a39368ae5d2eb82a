-- What an attested listing proves.
--     IsTaken C question sheet answer  an answer was read of some text and judged right there
--     attested C                   what is right by the tests of a checker
--     SaysVerdict state solver v   what a verdict says of the state in which it is reported
--     Says C state report          what an attested report says of the state in which it is made
--     IsTrueListing C bytes lines  THE THEOREM
use Rattle.std.specs.Prelude.{◌≡◌, ℕ, true, List, map, Option}
use Rattle.lp_definitions.specs.Solutions.{IsBest, IsDualCertificate}
use Rattle.control_definitions.specs.Cells.{Cells}
use Rattle.listing_definitions.specs.declared.Mark.TheVariants.{Optimal}
use Rattle.listing_definitions.specs.declared.Solver.{Solver}
use Rattle.listing_definitions.specs.declared.Solver.TheVariants.{Primal as ByPrimal, Dual as ByDual}
use Rattle.listing_definitions.specs.Report.{SolutionLines, PathVerdict, Chain, Report, Solved, Solution, Parametric}
use Rattle.listing_definitions.specs.Ending.{Ending}
use Rattle.listing_definitions.specs.Listing.{listing}
use Rattle.question_definitions.specs.Answers.{Sheet, changing_name, ParametricRun, Question, OfPath, OfSolution, OfParametricRun, AnswerTo}
use Rattle.question_definitions.specs.Solving.{Solving}
use Rattle.answer_definitions.specs.ParametricRuns.{family_of, sheet_at}
use Rattle.run_definitions.specs.State.{Present, State}
use Rattle.run_definitions.specs.Answer.{IsJobRun}
use Rattle.parametric_laws.specs.Truth.{IsTrueRun}
use Rattle.soundness_laws.specs.Truth.{PresentProgram, sheet_of, IsTrueOf, IsNotUnbounded, ReportsOfRun}
use Rattle.soundness_laws.specs.Headline.{HoldInJob}
use Rattle.determinism_laws.specs.Laws.{IsOverflow}
use Rattle.walk_definitions.specs.Checkers.{Checker}
use Rattle.walk_definitions.specs.Tests.{point_of, prices_of}
use Rattle.walk_definitions.specs.Reading.{Right, judged}
use Rattle.walk_laws.specs.Views.{part_of, past_of, IsTrueAtFirst}

abbrev pub IsTaken : Checker → (question : Question) → Sheet → AnswerTo question → Type 0
IsTaken C question sheet answer = (rest : List ℕ) × (after : List ℕ) × (judged C question sheet rest ≡ Right answer after)

-- no basis is looked at, and no stop at an operation that is refused is one of the answers
abbrev pub attested : Checker → Solving
attested C = record {
  Solves = λ solver sheet s limit end. IsTaken C (OfPath solver limit) sheet end;
  ParametricRuns = λ sheet s parametric_run end. IsTaken C (OfParametricRun parametric_run) sheet end;
  Shows = λ mark sheet s lines. IsTaken C (OfSolution mark) sheet lines;
  Ranges = λ sheet s lines. ⊥;
  Punches = λ sheet s cards. ⊥;
  Installs = λ sheet s end. ⊥;
  Overflows = λ question sheet bases e place. ⊥;
}

-- SOLUTION shows a point that is best in the linear program that is selected, and prices that prove it
pub record ShowsProved (setup : Option Present) (cells : Cells) (lines : SolutionLines) : Type 0 where
  pub program : PresentProgram setup cells
  pub best : IsBest program.lp (point_of (sheet_of program) lines)
  pub certificate : IsDualCertificate program.lp (point_of (sheet_of program) lines) (prices_of (sheet_of program) lines)

-- At every value of the parameter in an interval that is printed the point is best and the prices prove it; there is no gap; and the last
-- interval ends at the last value, or what is printed proves for every greater one that there is no best point, or no feasible one.
pub record ShowsProvedChain (chain : Chain) (sheet : Sheet) (parametric_run : ParametricRun) : Type 0 where
  pub is_from : chain.from ≡ parametric_run.from
  pub is_change : chain.change ≡ changing_name parametric_run.changing
  pub is_true : IsTrueRun (family_of sheet parametric_run.changing) parametric_run.from parametric_run.to (map part_of chain.intervals)
      (past_of sheet chain.end)

-- a verdict is true of the linear program that is selected, and that of an opening of the one at the first value
abbrev pub SaysVerdict : State → Solver → PathVerdict → Type 0
SaysVerdict state ByPrimal verdict = (program : PresentProgram state.setup state.cells) × IsTrueOf (sheet_of program) verdict
SaysVerdict state ByDual verdict = (program : PresentProgram state.setup state.cells) × IsTrueOf (sheet_of program) verdict × IsNotUnbounded verdict
SaysVerdict state solver verdict =
    ReportsOfRun state.setup state.cells solver (λ sheet parametric_run. IsTrueAtFirst (sheet_at sheet parametric_run.changing parametric_run.from) verdict)

-- The checker takes the word of each verdict's check: that of 128 bits takes CHECKED alone. Ranges, punched bases and inserted ones don't
-- come: the walk goes past none of them.
abbrev pub Says : Checker → State → Report → Type 0
Says C state (Solution Optimal lines) = ShowsProved state.setup state.cells lines
Says C state (Solved solver verdict check) = SaysVerdict state solver verdict × (C.takes check ≡ true)
Says C state (Parametric solver chain) = ReportsOfRun state.setup state.cells solver (ShowsProvedChain chain)
Says C state report = Unit {0}

-- no end to which an attested listing comes speaks of a linear program
abbrev pub SaysAtEnd : State → Ending → Type 0
SaysAtEnd state ending = Unit {0}

-- THE THEOREM. The listing is that of a run of the job's program in which the answers are those that passed; each report says the truth of
-- the state in which it was made; and the run doesn't stop with an overflow, in a selection either.
pub record IsTrueListing (C : Checker) (bytes lines : List ℕ) : Type 0 where
  pub reports : List Report
  pub cards : List (List ℕ)
  pub ending : Ending
  pub runs : IsJobRun (attested C) bytes reports cards ending
  pub is_listing : lines ≡ listing reports ending
  pub each : HoldInJob (attested C) (Says C) SaysAtEnd runs
  pub unstopped : IsOverflow ending → ⊥
