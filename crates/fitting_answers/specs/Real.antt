-- What a run knows of linear programming, where each fraction that comes of a verdict, of SOLUTION, of a parametric run or of the
-- evidence of an overflow has 128 bits. The fractions of RANGE, and those of INSERT's dependency lines, have any length.
use Rattle.question_definitions.specs.Solving.{Solving}
use Rattle.answer_definitions.specs.Verdicts.{IsSolvedBy}
use Rattle.answer_definitions.specs.Sections.{IsSolutionOf, IsRanged}
use Rattle.answer_definitions.specs.Bases.{ArePunched, IsInstalled}
use Rattle.answer_definitions.specs.ParametricRuns.{IsParametricRun}
use Rattle.answer_definitions.specs.Evidence.{OverflowsAt}
use Rattle.fitting_answers.specs.Fitting.{PathEndFits, SolutionFits, ParametricRunEndFits, EvidenceFits}

unfoldable pub linear_programming_of_128_bits : Solving
linear_programming_of_128_bits = record {
  Solves = λ solver sheet s limit end. IsSolvedBy solver sheet s limit end × PathEndFits end;
  ParametricRuns = λ sheet s parametric_run end. IsParametricRun sheet s parametric_run end × ParametricRunEndFits end;
  Shows = λ mark sheet s lines. IsSolutionOf sheet s lines × SolutionFits lines;
  Ranges = IsRanged;
  Punches = ArePunched;
  Installs = IsInstalled;
  Overflows = λ question sheet bases e place. OverflowsAt question sheet bases e place × EvidenceFits e;
}
