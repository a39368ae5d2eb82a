-- What a run needs to know of linear programming: a record of relations, each of which has one answer at most.
--
-- The real ones are those of the linear program alone: Solves and ParametricRuns follow the path and the chain of bases, Shows and Ranges
-- read off the point, the prices and the intervals of a basis, Punches its deck, Installs says whether a set of columns is a basis, and
-- Overflows is the evidence that holds.
use Rattle.std.specs.Prelude.{ℕ, List, Option}
use Rattle.lp_definitions.specs.declared.Evidence.{Evidence}
use Rattle.listing_definitions.specs.declared.Mark.{Mark}
use Rattle.listing_definitions.specs.declared.Solver.{Solver}
use Rattle.listing_definitions.specs.Report.{SolutionLines, RangeLines}
use Rattle.listing_definitions.specs.Ending.{Place}
use Rattle.question_definitions.specs.Answers.{Basis, Sheet, ParametricRun, Question, OfPath, OfSolution, OfRanges, OfParametricRun, OfPunch, OfInstall}
use Rattle.question_definitions.specs.Answers.{AnswerTo, PathEnd, ParametricRunEnd, InstallEnd}

pub record Solving : Type 1 where
  -- the path of a solving verb from a basis ends so, where it may take so many steps, or any number of them
  pub Solves : Solver → Sheet → Basis → Option ℕ → PathEnd → Type 0
  -- the parametric run from a basis ends so
  pub ParametricRuns : Sheet → Basis → ParametricRun → ParametricRunEnd → Type 0
  -- SOLUTION under this mark prints these lines of a basis
  pub Shows : Mark → Sheet → Basis → SolutionLines → Type 0
  -- RANGE prints these lines of a basis
  pub Ranges : Sheet → Basis → RangeLines → Type 0
  -- PUNCH punches these cards of a basis
  pub Punches : Sheet → Basis → List (List ℕ) → Type 0
  -- this comes of the basis that INSERT has read
  pub Installs : Sheet → Basis → InstallEnd → Type 0
  -- a statement that asks this may stop with this evidence, where the path in hand went through these bases up to now
  pub Overflows : Question → Sheet → List Basis → Evidence → Option Place → Type 0

-- the answer to a question about a linear program at a basis is right
abbrev pub IsRight : Solving → (question : Question) → Sheet → Basis → AnswerTo question → Type 0
IsRight S (OfPath solver limit) sheet s = S.Solves solver sheet s limit
IsRight S (OfSolution mark) sheet s = S.Shows mark sheet s
IsRight S OfRanges sheet s = S.Ranges sheet s
IsRight S (OfParametricRun parametric_run) sheet s = S.ParametricRuns sheet s parametric_run
IsRight S OfPunch sheet s = S.Punches sheet s
IsRight S (OfInstall basis) sheet s = S.Installs sheet basis
