-- Each question that a run asks has an answer.
--     IsOfVerb question            PRIMAL and DUAL alone ask for a path
--     HasAnswer S question         where a statement of a run asks it, the question has a right answer
--     AnswersAlways S              so has each question that PRIMAL, DUAL, SOLUTION, RANGE, PARAOBJ, PARARHS, PUNCH and INSERT ask
use Rattle.std.specs.Prelude.{ℕ, Option}
use Rattle.listing_definitions.specs.declared.Mark.{Mark}
use Rattle.listing_definitions.specs.declared.Solver.TheVariants.{Primal, Dual, Paraobj, Pararhs}
use Rattle.question_definitions.specs.Answers.{Basis, Sheet, ParametricRun, Question, AnswerTo, OfPath, OfSolution, OfRanges, OfParametricRun, OfPunch}
use Rattle.question_definitions.specs.Answers.{OfInstall}
use Rattle.question_definitions.specs.Solving.{Solving, IsRight}
use Rattle.determinism_laws.specs.Laws.{IsAsked}

abbrev pub IsOfVerb : Question → Type 0
IsOfVerb (OfPath Primal limit) = Unit {0}
IsOfVerb (OfPath Dual limit) = Unit {0}
IsOfVerb (OfPath Paraobj limit) = ⊥
IsOfVerb (OfPath Pararhs limit) = ⊥
IsOfVerb (OfSolution mark) = Unit {0}
IsOfVerb OfRanges = Unit {0}
IsOfVerb (OfParametricRun parametric_run) = Unit {0}
IsOfVerb OfPunch = Unit {0}
IsOfVerb (OfInstall basis) = Unit {0}

abbrev pub HasAnswer : Solving → Question → Type 0
HasAnswer S question = (sheet : Sheet) (s : Basis) → IsAsked question sheet s → (answer : AnswerTo question) × IsRight S question sheet s answer

pub record AnswersAlways (S : Solving) : Type 0 where
  pub paths : (limit : Option ℕ) → HasAnswer S (OfPath Primal limit)
  pub dual_paths : (limit : Option ℕ) → HasAnswer S (OfPath Dual limit)
  pub solutions : (mark : Mark) → HasAnswer S (OfSolution mark)
  pub ranges : HasAnswer S OfRanges
  pub parametric_runs : (parametric_run : ParametricRun) → HasAnswer S (OfParametricRun parametric_run)
  pub punches : HasAnswer S OfPunch
  pub installs : (t : Basis) → HasAnswer S (OfInstall t)
