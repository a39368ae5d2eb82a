-- What the checker of any length finds of the listing that a run itself prints.
--     RefusesSelection ..          where so much of the listing is left, the walk stands before a statement of which an operation of a
--                                  selection is refused
--     IsFoundOfOwn ..              what may be found: that the listing isn't wrong, and only a selection can be refused
--     NeverWrongAtAnyLength        nothing else is found of a run's own listing
--     JudgedRightAtAnyLength       each verdict, each SOLUTION and each parametric run is judged right
use Rattle.std.specs.Prelude.{◌≡◌, ℕ, ◌-◌, true, false, List, [], ◌++◌, Option, Some, None, slice_get}
use Rattle.lp_definitions.specs.LinearProgram.{IsLinearProgram}
use Rattle.simplex_laws.specs.Laws.{IsNonsingularBasis}
use Rattle.control_definitions.specs.Program.{Statement, Program}
use Rattle.listing_definitions.specs.declared.Mark.TheVariants.{Optimal}
use Rattle.listing_definitions.specs.declared.Mark.{Mark}
use Rattle.listing_definitions.specs.declared.Solver.{Solver}
use Rattle.listing_definitions.specs.Report.{PathVerdict, Check, SolutionLines, ParametricInterval, ChainEnd, Report}
use Rattle.listing_definitions.specs.Text.{verdict_text, solution_text, chain_text}
use Rattle.listing_definitions.specs.Ending.{Ending}
use Rattle.listing_definitions.specs.Listing.{listing}
use Rattle.question_definitions.specs.Answers.{Basis, Sheet, parametric_solver, ParametricRun, OfPath, OfSolution, OfParametricRun, Reached, Opening, Chained}
use Rattle.answer_definitions.specs.Verdicts.{IsSolvedBy}
use Rattle.answer_definitions.specs.Sections.{IsSolutionOf}
use Rattle.answer_definitions.specs.ParametricRuns.{FailsToOpen, IsChained}
use Rattle.soundness_laws.specs.ParametricRuns.{ChangesFreely}
use Rattle.run_definitions.specs.Verbs.{verb_move}
use Rattle.run_definitions.specs.Run.{counted}
use Rattle.run_definitions.specs.Answer.{job_decks, IsProgramOf, IsJobRun}
use Rattle.walk_definitions.specs.Checkers.{checker_of_any_length}
use Rattle.walk_definitions.specs.Tables.{begins_table_line}
use Rattle.walk_definitions.specs.Reading.{Right, judged}
use Rattle.walk_definitions.specs.Walker.{Walker, Found, Attested, Wrong, Open, Unchecked, refuses_selection}
use Rattle.walk_definitions.specs.Found.{Reaches, EndsIn}
use Rattle.fitting_answers.specs.Real.{linear_programming_of_128_bits}
use Rattle.fitting_answers.specs.Fitting.{LinesFit, VerdictFits, CheckFits, IntervalsFit, EndFits}
use Rattle.own_listing_laws.specs.Laws.{EndsBest, chain_of}

-- the walk comes to a statement where so much of the listing is left, and an operation of a selection that it makes is refused
pub record RefusesSelection (bytes lines rest : List ℕ) : Type 0 where
  pub program : Program
  pub walker : Walker
  pub statement : Statement ℕ
  pub is_program : IsProgramOf bytes program
  pub reaches : Reaches checker_of_any_length program (job_decks program bytes) lines walker
  pub is_rest : walker.rest ≡ rest
  pub is_at_position : slice_get program.statements (walker.state.position - 1) ≡ Some statement
  pub refuses : refuses_selection (verb_move statement.verb statement.card (counted walker.state)) ≡ true

-- Not that a line is wrong. A line may be of those that can't be attested; and the walk may come to a selection that is refused, but to no
-- test of which an operation is refused, and to no number that is too long.
abbrev pub IsFoundOfOwn : List ℕ → List ℕ → Found → Type 0
IsFoundOfOwn bytes lines (Attested count) = Unit {0}
IsFoundOfOwn bytes lines (Wrong rest) = ⊥
IsFoundOfOwn bytes lines (Open rest) = Unit {0}
IsFoundOfOwn bytes lines (Unchecked rest) = RefusesSelection bytes lines rest

-- What the walk of the checker of any length finds of the listing of a job's run, where the answers that the run goes by fit 128 bits: it is
-- attested, or a line of it can't be attested, or an operation of a selection is refused. So it is whether a verdict is printed with the word
-- CHECKED or with UNCHECKED, and though an operation of a test doesn't fit 128 bits.
abbrev pub NeverWrongAtAnyLength : Type 0
NeverWrongAtAnyLength =
    (bytes : List ℕ) (reports : List Report) (cards : List (List ℕ)) (ending : Ending) (found : Found) →
    IsJobRun linear_programming_of_128_bits bytes reports cards ending →
    EndsIn checker_of_any_length bytes (listing reports ending) found → IsFoundOfOwn bytes (listing reports ending) found

-- What a run prints of a linear program, from a nonsingular basis, is judged right where its numbers have 128 bits, whatever the word of its
-- check and whatever operations of its test don't fit.
pub record JudgedRightAtAnyLength : Type 0 where
  -- the verdict of a path, with either word
  pub verdict : (solver : Solver) (sheet : Sheet) (s : Basis) (limit : Option ℕ) (bases : List Basis) (verdict : PathVerdict) (check : Check)
      (after : List ℕ) → IsLinearProgram sheet.lp → sheet.lp.change ≡ None → IsNonsingularBasis sheet.lp s →
      IsSolvedBy solver sheet s limit (Reached bases verdict check) → VerdictFits verdict → CheckFits check → begins_table_line after ≡ false →
      judged checker_of_any_length (OfPath solver limit) sheet (verdict_text solver verdict check ++ after) ≡ Right (Reached [] verdict check) after
  -- SOLUTION, where the mark is OPTIMAL only if the path has ended optimal at the basis
  pub solution : (mark : Mark) (sheet : Sheet) (s : Basis) (lines : SolutionLines) (after : List ℕ) → IsLinearProgram sheet.lp →
      IsNonsingularBasis sheet.lp s → (mark ≡ Optimal → EndsBest sheet.lp s) → IsSolutionOf sheet s lines → LinesFit lines.rows →
      LinesFit lines.columns →
      judged checker_of_any_length (OfSolution mark) sheet (solution_text mark lines ++ after) ≡ Right lines after
  -- the intervals of a parametric run, and how it closes
  pub run : (sheet : Sheet) (s : Basis) (parametric_run : ParametricRun) (bases : List Basis) (intervals : List ParametricInterval) (end : ChainEnd)
      (after : List ℕ) → IsLinearProgram sheet.lp → ChangesFreely sheet parametric_run.changing →
      IsNonsingularBasis sheet.lp s → IsChained sheet s parametric_run bases intervals end → IntervalsFit intervals → EndFits end →
      begins_table_line after ≡ false →
      judged checker_of_any_length (OfParametricRun parametric_run) sheet
      (chain_text (parametric_solver parametric_run.changing) (chain_of parametric_run intervals end) ++ after) ≡ Right (Chained [] intervals end) after
  -- the verdict of its opening, where that isn't optimal
  pub opening : (sheet : Sheet) (s : Basis) (parametric_run : ParametricRun) (bases : List Basis) (verdict : PathVerdict) (check : Check)
      (after : List ℕ) → IsLinearProgram sheet.lp → ChangesFreely sheet parametric_run.changing → IsNonsingularBasis sheet.lp s →
      FailsToOpen sheet s parametric_run bases verdict check → VerdictFits verdict → CheckFits check → begins_table_line after ≡ false →
      judged checker_of_any_length (OfParametricRun parametric_run) sheet
      (verdict_text (parametric_solver parametric_run.changing) verdict check ++ after) ≡ Right (Opening [] verdict check) after
