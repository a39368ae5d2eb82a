-- What a statement asks of linear programming, and the answers to it.
--     Sheet                        a problem, which has the names, and the linear program that is selected from it
--     PathEnd, ParametricRunEnd    where a path or a parametric run ends
--     InstallEnd                   what comes of a basis that a deck gives
--     Question, AnswerTo           what a statement asks, and what an answer to it is
use Rattle.std.specs.Prelude.{ℕ, List, Option}
use Rattle.exact_values.specs.Rational.{ℚ}
use Rattle.lp_definitions.specs.declared.Status.{Status}
use Rattle.lp_definitions.specs.LinearProgram.{LinearProgram}
use Rattle.problem_definitions.specs.Names.{Name}
use Rattle.problem_definitions.specs.Problem.{Problem}
use Rattle.listing_definitions.specs.declared.Mark.{Mark}
use Rattle.listing_definitions.specs.declared.Solver.{Solver}
use Rattle.listing_definitions.specs.declared.Solver.TheVariants.{Paraobj, Pararhs}
use Rattle.listing_definitions.specs.Report.{Line, SolutionLines, RangeLines, PathVerdict, Check, ParametricInterval, ChainEnd}

-- a basis says where each variable stands
abbrev pub Basis : Type 0
Basis = List Status

pub record Sheet : Type 0 where
  pub problem : Problem ℕ
  pub lp : LinearProgram

-- what changes along a parametric run: theta times a row is added to the objective, or theta times a right-hand side set to the
-- limits of the rows
pub data Changing : Type 0 where
  Row Set : Name → Changing

abbrev pub changing_name : Changing → Name
changing_name (Row name) = name
changing_name (Set name) = name

abbrev pub parametric_solver : Changing → Solver
parametric_solver (Row name) = Paraobj
parametric_solver (Set name) = Pararhs

-- a parametric run, from the first value of the parameter to the last, in at most so many steps
pub record ParametricRun : Type 0 where
  pub changing : Changing
  pub from : ℚ
  pub to : ℚ
  pub limit : ℕ

-- Where a path ends: it went through these bases, one a step, and its verdict and the check of it are these; or it hasn't ended
-- within its limit; or it doesn't begin, since the price of this variable is wrong.
pub data PathEnd : Type 0 where
  Reached : List Basis → PathVerdict → Check → PathEnd
  PathLimit : PathEnd
  PricesWrong : ℕ → PathEnd

-- Where a parametric run ends: its opening path isn't optimal; or it went on, through all these bases, with these intervals; or it
-- hasn't ended within its limit.
pub data ParametricRunEnd : Type 0 where
  Opening : List Basis → PathVerdict → Check → ParametricRunEnd
  Chained : List Basis → List ParametricInterval → ChainEnd → ParametricRunEnd
  ParametricRunLimit : ParametricRunEnd

-- What comes of a basis that a deck gives: its inverse is there; or it is singular, and these lines show a dependency of its columns.
pub data InstallEnd : Type 0 where
  Installed : InstallEnd
  DependsBy : List Line → InstallEnd

-- A statement asks for the path of a solving verb in at most so many steps, or in any number of them; for the lines of SOLUTION after a
-- verdict with this mark, or of RANGE; for a parametric run; for the cards of the basis deck that PUNCH writes; or for what comes of the
-- basis that INSERT has read.
pub data Question : Type 0 where
  OfPath : Solver → Option ℕ → Question
  OfSolution : Mark → Question
  OfRanges : Question
  OfParametricRun : ParametricRun → Question
  OfPunch : Question
  OfInstall : Basis → Question

abbrev pub AnswerTo : Question → Type 0
AnswerTo (OfPath solver limit) = PathEnd
AnswerTo (OfSolution mark) = SolutionLines
AnswerTo OfRanges = RangeLines
AnswerTo (OfParametricRun parametric_run) = ParametricRunEnd
AnswerTo OfPunch = List (List ℕ)
AnswerTo (OfInstall basis) = InstallEnd
