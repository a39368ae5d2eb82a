-- The listing that a run itself prints is never found wrong by the walk of the listing checker.
--     IsNotWrong found             what is found isn't that a line is wrong
--     ReadsBack                    what is printed of a linear program is read back
--     TestsPass                    its tests never fail
--     JudgedRight                  a verdict of PRIMAL or DUAL with the word CHECKED, and its SOLUTION, are judged right
--     WalksOn                      and the walk goes on past it
--     NeverWrong                   the listing of a run isn't found wrong
use Rattle.std.specs.Prelude.{◌≡◌, ◌⊎◌, ℕ, true, false, List, [], ◌++◌, Option, Some, None, is_none, length}
use Rattle.exact_values.specs.Rational.{ℚ}
use Rattle.frac128.specs.Operations.{TermsFit}
use Rattle.lp_definitions.specs.LinearProgram.{LinearProgram, IsLinearProgram}
use Rattle.lp_definitions.specs.Basis.{Tableau}
use Rattle.simplex_definitions.specs.Path.{EndsOptimal, EndsAt, last_of}
use Rattle.simplex_definitions.specs.Chain.{Part}
use Rattle.simplex_laws.specs.Laws.{IsNonsingularBasis}
use Rattle.certificate_check.specs.Results.{IsNotFailed}
use Rattle.problem_definitions.specs.Problem.{Problem}
use Rattle.selection_definitions.specs.Choice.{Choice}
use Rattle.selection_definitions.specs.Making.{is_made}
use Rattle.listing_definitions.specs.declared.Mark.TheVariants.{Optimal}
use Rattle.listing_definitions.specs.declared.Mark.{Mark}
use Rattle.listing_definitions.specs.declared.Solver.{Solver}
use Rattle.listing_definitions.specs.Report.{PathVerdict, OptimalAt, Check, Checked, SolutionLines, ParametricInterval, ChainEnd, Chain, Report}
use Rattle.listing_definitions.specs.Text.{report_text, verdict_text, solution_text, interval_text, chain_end_text, chain_text}
use Rattle.listing_definitions.specs.Ending.{Ending}
use Rattle.listing_definitions.specs.Listing.{ending_text, listing}
use Rattle.question_definitions.specs.Answers.{PathEnd, Basis, Sheet, changing_name, parametric_solver, ParametricRun, OfPath, OfSolution, OfParametricRun}
use Rattle.question_definitions.specs.Answers.{Reached}
use Rattle.answer_definitions.specs.Verdicts.{IsSolvedBy}
use Rattle.answer_definitions.specs.Sections.{IsSolutionOf, solution_lines}
use Rattle.answer_definitions.specs.ParametricRuns.{interval_of, IsChained}
use Rattle.soundness_laws.specs.ParametricRuns.{ChangesFreely}
use Rattle.run_definitions.specs.State.{Present}
use Rattle.run_definitions.specs.Moves.{printed_by, gain_text, gain_of, StatementOutcome, Goes, Ends, InSelection, StatementMove, MayStop, DecidesAlone}
use Rattle.run_definitions.specs.Verbs.{asks}
use Rattle.run_definitions.specs.Answer.{IsJobRun}
use Rattle.walk_definitions.specs.Checkers.{Checker, checker_of_128_bits}
use Rattle.walk_definitions.specs.Words.{fraction_in}
use Rattle.walk_definitions.specs.Forms.{is_open_stop}
use Rattle.walk_definitions.specs.Tests.{point_of, verdict_test, solution_test}
use Rattle.walk_definitions.specs.Tables.{begins_table_line}
use Rattle.walk_definitions.specs.Reading.{Judged, Right, Fails, verdict_in, solution_in, interval_in, close_in, judged}
use Rattle.walk_definitions.specs.Walker.{Walker, Found, Attested, Wrong, Finds, closes, follows, passed, pending_after, refuses_selection, settles, walk_move}
use Rattle.walk_definitions.specs.Found.{EndsIn}
use Rattle.fitting_answers.specs.Real.{linear_programming_of_128_bits}
use Rattle.fitting_answers.specs.Fitting.{LinesFit, VerdictFits, CheckFits, IntervalsFit, EndFits}
use Rattle.own_listing_laws.specs.Slacks.{SlacksFit}
use Rattle.own_listing_laws.specs.Printed.{IsReadable, IsPrinted, IsEndOf}

-- the path has ended optimal at a basis
pub record EndsBest (p : LinearProgram) (s : Basis) : Type 0 where
  pub point : List ℚ
  pub prices : List ℚ
  pub ends : EndsAt p s (EndsOptimal point prices)

-- what is read is of its form, and no test of it fails
abbrev pub IsNoFailure : {X : Type 0} → Judged X → Type 0
IsNoFailure Fails = ⊥
IsNoFailure _ = Unit {0}

-- what is printed of a parametric run
abbrev pub chain_of : ParametricRun → List ParametricInterval → ChainEnd → Chain
chain_of parametric_run intervals end = record { from = parametric_run.from; change = changing_name parametric_run.changing; intervals = intervals; end = end }

abbrev pub IsNotWrong : Found → Type 0
IsNotWrong (Wrong rest) = ⊥
IsNotWrong found = Unit {0}

-- What is printed of the variables of a linear program is read of its text, where its numbers fit, and what follows the text is left. The
-- lines of a ray are read as far as table lines go, so none may follow.
pub record ReadsBack : Type 0 where
  pub verdict : (sheet : Sheet) (solver : Solver) (verdict : PathVerdict) (check : Check) (after : List ℕ) → IsReadable solver verdict →
      IsPrinted sheet verdict →
      VerdictFits verdict → CheckFits check → begins_table_line after ≡ false →
      verdict_in (fraction_in checker_of_128_bits) sheet solver (verdict_text solver verdict check ++ after) ≡ Some ((verdict, check), after)
  pub solution : (sheet : Sheet) (s : Basis) (t : Tableau) (mark : Mark) (after : List ℕ) → LinesFit (solution_lines sheet s t).rows →
      LinesFit (solution_lines sheet s t).columns →
      solution_in (fraction_in checker_of_128_bits) sheet mark (solution_text mark (solution_lines sheet s t) ++ after) ≡ Some (solution_lines sheet s t, after)
  pub interval : (sheet : Sheet) (number : ℕ) (part : Part) (after : List ℕ) → TermsFit part.to → LinesFit (interval_of sheet part).lines →
      interval_in (fraction_in checker_of_128_bits) sheet number part.from (interval_text (number, interval_of sheet part) ++ after) ≡ Some
      (interval_of sheet part, after)
  pub close : (sheet : Sheet) (solver : Solver) (end : ChainEnd) (after : List ℕ) → IsEndOf sheet solver end → EndFits end → begins_table_line after ≡ false →
      close_in (fraction_in checker_of_128_bits) sheet solver (chain_end_text solver end ++ after) ≡ Some (end, after)

-- A test of what a run prints never fails; an operation of it may be refused.
pub record TestsPass : Type 0 where
  -- the verdict of a path
  pub verdict : (solver : Solver) (sheet : Sheet) (s : Basis) (limit : Option ℕ) (bases : List Basis) (verdict : PathVerdict) (check : Check) →
      IsSolvedBy solver sheet s limit (Reached bases verdict check) →
      IsNotFailed (verdict_test checker_of_128_bits sheet verdict check)
  -- SOLUTION, where the mark is OPTIMAL only if the path has ended optimal at the basis
  pub solution : (mark : Mark) (sheet : Sheet) (s : Basis) (lines : SolutionLines) → IsLinearProgram sheet.lp → IsNonsingularBasis sheet.lp s →
      (mark ≡ Optimal → EndsBest sheet.lp s) → IsSolutionOf sheet s lines →
      IsNotFailed (solution_test checker_of_128_bits sheet mark lines)
  -- a parametric run, whose intervals and close are tested as they are read of its text
  pub run : (sheet : Sheet) (s : Basis) (parametric_run : ParametricRun) (bases : List Basis) (intervals : List ParametricInterval) (end : ChainEnd)
      (after : List ℕ) → IsLinearProgram sheet.lp → ChangesFreely sheet parametric_run.changing →
      IsNonsingularBasis sheet.lp s → IsChained sheet s parametric_run bases intervals end → IntervalsFit intervals → EndFits end →
      begins_table_line after ≡ false →
      IsNoFailure (judged checker_of_128_bits (OfParametricRun parametric_run) sheet
      (chain_text (parametric_solver parametric_run.changing) (chain_of parametric_run intervals end) ++ after))

-- The path of a solving verb has ended optimal after these bases, its check was made, and these are the lines of SOLUTION at the last of them.
-- No difference is refused by which a slack is tested, and the numbers that are printed fit.
pub record IsShownChecked (solver : Solver) (sheet : Sheet) (s : Basis) (limit : Option ℕ) (bases : List Basis) (steps : ℕ) (objective : ℚ)
    (lines : SolutionLines) : Type 0 where
  pub lawful : IsLinearProgram sheet.lp
  pub nonsingular : IsNonsingularBasis sheet.lp (last_of s bases)
  pub solved : IsSolvedBy solver sheet s limit (Reached bases (OptimalAt steps objective) Checked)
  pub shown : IsSolutionOf sheet (last_of s bases) lines
  pub slacks : SlacksFit sheet lines
  pub rows : LinesFit lines.rows
  pub columns : LinesFit lines.columns

-- A verdict of PRIMAL or DUAL that a run prints with the word CHECKED, and the SOLUTION that shows it, are judged right where numbers fit.
pub record JudgedRight : Type 0 where
  -- the verdict of a path
  pub verdict : (solver : Solver) (sheet : Sheet) (s : Basis) (limit : Option ℕ) (bases : List Basis) (verdict : PathVerdict) (after : List ℕ) →
      IsSolvedBy solver sheet s limit (Reached bases verdict Checked) →
      VerdictFits verdict → begins_table_line after ≡ false →
      judged checker_of_128_bits (OfPath solver limit) sheet (verdict_text solver verdict Checked ++ after) ≡ Right (Reached [] verdict Checked) after
  -- SOLUTION under OPTIMAL, after an optimal verdict
  pub solution : (solver : Solver) (sheet : Sheet) (s : Basis) (limit : Option ℕ) (bases : List Basis) (steps : ℕ) (objective : ℚ) (lines : SolutionLines)
      (after : List ℕ) →
      IsShownChecked solver sheet s limit bases steps objective lines →
      judged checker_of_128_bits (OfSolution Optimal) sheet (solution_text Optimal lines ++ after) ≡ Right lines after
  -- and it settles that verdict, wherever it stands
  pub settled : (solver : Solver) (sheet : Sheet) (s : Basis) (limit : Option ℕ) (bases : List Basis) (steps : ℕ) (objective : ℚ) (lines : SolutionLines)
      (rest : List ℕ) →
      IsShownChecked solver sheet s limit bases steps objective lines →
      settles checker_of_128_bits (record { rest = rest; objective = objective; check = Checked }) (point_of sheet lines sheet.lp.objective) ≡ true

-- the mark stands after a statement
abbrev pub KeepsMark : StatementOutcome → Type 0
KeepsMark (Goes gain after) = is_none after.mark ≡ false
KeepsMark (Ends gain ending) = ⊥

-- The walk goes on past what a run prints, and ends attested: where a statement asks nothing; past a selection that is made; past a verdict
-- with the word CHECKED, where nothing is pending; past the SOLUTION that settles an optimal one; and at the end. There nothing is open, no
-- operation is refused, and what is due is right. Bases are the run's; the walk's present is any.
pub record WalksOn : Type 0 where
  -- no report is taken for a stop that can't be attested
  pub report : (report : Report) (more : List ℕ) → is_open_stop (report_text report ++ more) ≡ false
  pub verdict : (w : Walker) (present : Present) (go : PathEnd → StatementOutcome) (solver : Solver) (sheet : Sheet) (s : Basis) (limit : Option ℕ)
      (bases : List Basis) (verdict : PathVerdict) (after : List ℕ) →
      w.pending ≡ None → w.rest ≡ verdict_text solver verdict Checked ++ after → IsSolvedBy solver sheet s limit (Reached bases verdict Checked) →
      VerdictFits verdict → begins_table_line after ≡ false →
      walk_move checker_of_128_bits w (asks (OfPath solver limit) sheet present go) ≡ follows
      (record (passed after 1 w) { pending = pending_after w.rest verdict Checked }) (go (Reached [] verdict Checked))
  -- where that verdict is pending, or was settled before
  pub solution : (w : Walker) (present : Present) (go : SolutionLines → StatementOutcome) (solver : Solver) (sheet : Sheet) (s : Basis) (limit : Option ℕ)
      (bases : List Basis) (steps : ℕ) (objective : ℚ) (lines : SolutionLines) (at after : List ℕ) →
      (w.pending ≡ None) ⊎ (w.pending ≡ Some (record { rest = at; objective = objective; check = Checked })) → w.rest ≡ solution_text Optimal lines ++ after →
      IsShownChecked solver sheet s limit bases steps objective lines →
      walk_move checker_of_128_bits w (asks (OfSolution Optimal) sheet present go) ≡ follows (record (passed after 1 w) { pending = None }) (go lines)
  -- Nothing is asked, and no operation of a selection is refused; what is pending is so still while the mark stands.
  pub statement : (C : Checker) (w : Walker) (card : ℕ) (move : StatementMove) (outcome : StatementOutcome) (more : List ℕ) → DecidesAlone card move outcome →
      refuses_selection move ≡ false → (w.pending ≡ None) ⊎ KeepsMark outcome →
      w.rest ≡ gain_text (gain_of outcome) ++ more → is_open_stop w.rest ≡ false →
      walk_move C w move ≡ follows (passed more (length (printed_by (gain_of outcome))) w) outcome
  -- no operation of the selection is refused
  pub selects : (C : Checker) (w : Walker) (problem : Problem ℕ) (choice : Choice) (move : StatementMove) → is_made problem choice ≡ true →
      walk_move C w (MayStop (InSelection problem choice) move) ≡ walk_move C w move
  -- an end that isn't an open stop, where nothing is pending
  pub end : (w : Walker) (ending : Ending) → w.pending ≡ None → w.rest ≡ ending_text ending → is_open_stop w.rest ≡ false →
      closes w ending ≡ Finds (Attested w.reports)

-- The listing of a job's run is never found wrong by the walk, where the answers that the run goes by fit 128 bits: it is attested, or a
-- line of it can't be attested, or an operation of a test is refused.
abbrev pub NeverWrong : Type 0
NeverWrong =
    (bytes : List ℕ) (reports : List Report) (cards : List (List ℕ)) (ending : Ending) (found : Found) →
    IsJobRun linear_programming_of_128_bits bytes reports cards ending →
    EndsIn checker_of_128_bits bytes (listing reports ending) found → IsNotWrong found
