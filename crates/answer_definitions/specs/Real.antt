-- What a run knows of linear programming, in terms of the linear program alone.
use Rattle.question_definitions.specs.Solving.{Solving}
use Rattle.answer_definitions.specs.Verdicts.{IsSolvedBy}
use Rattle.answer_definitions.specs.Sections.{IsSolutionOf, IsRanged}
use Rattle.answer_definitions.specs.Bases.{ArePunched, IsInstalled}
use Rattle.answer_definitions.specs.ParametricRuns.{IsParametricRun}
use Rattle.answer_definitions.specs.Evidence.{OverflowsAt}

unfoldable pub linear_programming : Solving
linear_programming = record {
  Solves = IsSolvedBy;
  ParametricRuns = IsParametricRun;
  Shows = λ mark. IsSolutionOf;
  Ranges = IsRanged;
  Punches = ArePunched;
  Installs = IsInstalled;
  Overflows = OverflowsAt;
}
