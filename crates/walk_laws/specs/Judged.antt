-- What is judged right in a listing is true of the linear program.
--     IsTrueUnlessOptimal sheet verdict    what a verdict says, but that of an optimal one, which SOLUTION has to show
--     JudgedLaws                   what passed its test says the truth
use Rattle.std.specs.Prelude.{◌≡◌, ℕ, List, Option, None, map}
use Rattle.lp_definitions.specs.LinearProgram.{IsLinearProgram}
use Rattle.parametric_laws.specs.Truth.{IsBestBy, IsTrueRun}
use Rattle.listing_definitions.specs.declared.Mark.TheVariants.{Optimal}
use Rattle.listing_definitions.specs.declared.Solver.{Solver}
use Rattle.listing_definitions.specs.declared.Solver.TheVariants.{Dual}
use Rattle.listing_definitions.specs.Report.{PathVerdict, OptimalAt, Check, SolutionLines, ParametricInterval, ChainEnd}
use Rattle.question_definitions.specs.Answers.{Basis, Sheet, ParametricRun, OfPath, OfSolution, OfParametricRun, Reached, Opening, Chained}
use Rattle.answer_definitions.specs.ParametricRuns.{family_of, sheet_at}
use Rattle.soundness_laws.specs.Truth.{IsTrueOf, IsNotUnbounded}
use Rattle.walk_definitions.specs.Checkers.{Checker}
use Rattle.walk_definitions.specs.Tests.{point_of, prices_of}
use Rattle.walk_definitions.specs.Reading.{Right, judged}
use Rattle.soundness_laws.specs.ParametricRuns.{ChangesFreely}
use Rattle.walk_laws.specs.Views.{part_of, past_of, IsTrueAtFirst}

abbrev pub IsTrueUnlessOptimal : Sheet → PathVerdict → Type 0
IsTrueUnlessOptimal sheet (OptimalAt steps objective) = Unit {0}
IsTrueUnlessOptimal sheet verdict = IsTrueOf sheet verdict

pub record JudgedLaws (C : Checker) : Type 0 where
  -- under OPTIMAL the point of SOLUTION is best, and its prices prove that
  pub solution : (sheet : Sheet) (rest after : List ℕ) (lines : SolutionLines) → IsLinearProgram sheet.lp →
      judged C (OfSolution Optimal) sheet rest ≡ Right lines after → IsBestBy sheet.lp (point_of sheet lines) (prices_of sheet lines)
  -- a verdict other than OPTIMAL is proved by what is printed with it; a linear program that is selected has no change row
  pub verdict : (solver : Solver) (limit : Option ℕ) (sheet : Sheet) (rest after : List ℕ) (bases : List Basis) (verdict : PathVerdict) (check : Check) →
      IsLinearProgram sheet.lp → sheet.lp.change ≡ None →
      judged C (OfPath solver limit) sheet rest ≡ Right (Reached bases verdict check) after → IsTrueUnlessOptimal sheet verdict
  -- DUAL is never taken to find that there is no best point
  pub dual : (limit : Option ℕ) (sheet : Sheet) (rest after : List ℕ) (bases : List Basis) (verdict : PathVerdict) (check : Check) →
      judged C (OfPath Dual limit) sheet rest ≡ Right (Reached bases verdict check) after → IsNotUnbounded verdict
  -- the verdict of an opening is true at the first value, where its objective is the activity of the objective row
  pub opening : (parametric_run : ParametricRun) (sheet : Sheet) (rest after : List ℕ) (bases : List Basis) (verdict : PathVerdict) (check : Check) →
      IsLinearProgram sheet.lp →
      ChangesFreely sheet parametric_run.changing → judged C (OfParametricRun parametric_run) sheet rest ≡ Right (Opening bases verdict check) after →
      IsTrueAtFirst (sheet_at sheet parametric_run.changing parametric_run.from) verdict
  -- a parametric run is true at every value of the parameter between its first and its last end, and past that by how it closes
  pub chain : (parametric_run : ParametricRun) (sheet : Sheet) (rest after : List ℕ) (bases : List Basis) (intervals : List ParametricInterval)
      (end : ChainEnd) → IsLinearProgram sheet.lp →
      ChangesFreely sheet parametric_run.changing → judged C (OfParametricRun parametric_run) sheet rest ≡ Right (Chained bases intervals end) after →
      IsTrueRun (family_of sheet parametric_run.changing) parametric_run.from parametric_run.to (map part_of intervals) (past_of sheet end)
