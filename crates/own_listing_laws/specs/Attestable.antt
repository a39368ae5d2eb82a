-- The runs whose whole listings the walk of the listing checker attests: at none of their statements it may stop.
--     Selects s                    what the cells select of the setup, with no operation refused
--     AsksNothing step             a statement that asks nothing of linear programming, with no operation of a selection refused
--     FindsChecked ..              PRIMAL or DUAL gives a verdict with the word CHECKED
--     ShowsChecked ..              SOLUTION shows the objective of an optimal verdict
--     IsAttestable program ..      what a run still reports from a state on, and how it ends
--     IsAttestableRun bytes ..     so the run of a job's program reports from its start on, or its cards or program are refused
--     ComesAttested                its listing is attested, where its end can be
use Rattle.std.specs.Prelude.{◌≡◌, ◌⊎◌, ℕ, ◌+◌, true, false, List, [], ◌∷◌, ◌++◌, Option, Some, None, Ok, Err, is_none, length}
use Rattle.exact_values.specs.Rational.{ℚ}
use Rattle.lp_definitions.specs.LinearProgram.{LinearProgram}
use Rattle.card_definitions.specs.declared.CardFault.{CardFault}
use Rattle.card_definitions.specs.Cards.{cards_of, job_fault}
use Rattle.control_definitions.specs.declared.ControlFault.{ControlFault}
use Rattle.control_definitions.specs.Compiled.{compiled}
use Rattle.control_definitions.specs.Program.{Verb, Primal, Dual, Solution as SolutionVerb, Program}
use Rattle.control_definitions.specs.Cells.{Cells, steps_allowed}
use Rattle.selection_definitions.specs.Selection.{selected}
use Rattle.selection_definitions.specs.Making.{is_made}
use Rattle.listing_definitions.specs.declared.Mark.TheVariants.{Optimal}
use Rattle.listing_definitions.specs.declared.Solver.{Solver}
use Rattle.listing_definitions.specs.declared.Solver.TheVariants.{Primal as ByPrimal, Dual as ByDual}
use Rattle.listing_definitions.specs.Report.{PathVerdict, OptimalAt, Checked, SolutionLines, Report, Solved, Solution}
use Rattle.listing_definitions.specs.Ending.{Ending, ControlStop, CardStop}
use Rattle.listing_definitions.specs.Listing.{ending_text, listing}
use Rattle.question_definitions.specs.Answers.{Basis, Sheet, Reached}
use Rattle.answer_definitions.specs.Verdicts.{IsSolvedBy}
use Rattle.answer_definitions.specs.Real.{linear_programming}
use Rattle.run_definitions.specs.State.{Present, present_basis, State, start, choice_of}
use Rattle.run_definitions.specs.Moves.{Gain, Prints, printed_by, StatementOutcome, Goes, Ends, next, DecidesAlone}
use Rattle.run_definitions.specs.Verbs.{verb_move, after_path}
use Rattle.run_definitions.specs.Run.{counted, Step, IsOver}
use Rattle.run_definitions.specs.Answer.{job_decks, IsProgramOf, IsJobRun}
use Rattle.walk_definitions.specs.Checkers.{checker_of_128_bits}
use Rattle.walk_definitions.specs.Forms.{is_open_stop}
use Rattle.walk_definitions.specs.Walker.{Attested, refuses_selection}
use Rattle.walk_definitions.specs.Found.{EndsIn}
use Rattle.fitting_answers.specs.Fitting.{VerdictFits}
use Rattle.own_listing_laws.specs.Laws.{IsShownChecked}

-- a linear program is selected of the setup, and no operation of the selection is refused
pub record Selects (s : State) : Type 0 where
  pub present : Present
  pub is_setup : s.setup ≡ Some present
  pub lp : LinearProgram
  pub is_selected : selected present.problem (choice_of s.cells present.options) ≡ Ok lp
  pub is_made : is_made present.problem (choice_of s.cells present.options) ≡ true

-- the sheet of what is selected
abbrev pub sheet_of : {s : State} → Selects s → Sheet
sheet_of selects = record { problem = selects.present.problem; lp = selects.lp }

-- the verbs that solve, with the limit on their steps
pub data IsSolving (cells : Cells) : Verb ℕ → Solver → Option ℕ → Type 0 where
  by_primal : IsSolving cells Primal ByPrimal cells.xiterlim
  by_dual : IsSolving cells Dual ByDual (Some (steps_allowed cells))

-- the objective of an optimal verdict, which SOLUTION is to show
abbrev pub to_show : PathVerdict → Option ℚ
to_show (OptimalAt steps objective) = Some objective
to_show verdict = None

module _ (program : Program) (s : State) where
  -- the statement asks nothing of linear programming, and no operation of a selection is refused
  pub record AsksNothing (outcome : StatementOutcome) (step : Step linear_programming program s outcome) : Type 0 where
    pub settles : DecidesAlone step.statement.card (verb_move step.statement.verb step.statement.card (counted s)) outcome
    pub is_made : refuses_selection (verb_move step.statement.verb step.statement.card (counted s)) ≡ false

  -- PRIMAL or DUAL follows its path, and its verdict, whose numbers fit, has the word CHECKED.
  pub record FindsChecked (solver : Solver) (verdict : PathVerdict) (outcome : StatementOutcome) : Type 0 where
    pub step : Step linear_programming program s outcome
    pub limit : Option ℕ
    pub is_solving : IsSolving s.cells step.statement.verb solver limit
    pub selects : Selects s
    pub bases : List Basis
    pub is_solved : IsSolvedBy solver (sheet_of selects) (present_basis selects.present) limit (Reached bases verdict Checked)
    pub is_outcome : outcome ≡ after_path solver step.statement.card selects.present (counted s) (Reached bases verdict Checked)
    pub fits : VerdictFits verdict

  -- SOLUTION shows the lines at the end of a path that is optimal with this objective and was checked; numbers and slacks fit.
  pub record ShowsChecked (objective : ℚ) (lines : SolutionLines) : Type 0 where
    pub step : Step linear_programming program s (next (Prints (Solution Optimal lines)) (counted s))
    pub is_verb : step.statement.verb ≡ SolutionVerb
    pub is_mark : s.mark ≡ Some Optimal
    pub selects : Selects s
    pub solver : Solver
    pub from : Basis
    pub limit : Option ℕ
    pub bases : List Basis
    pub steps : ℕ
    pub is_shown : IsShownChecked solver (sheet_of selects) from limit bases steps objective lines

-- What a run still reports from a state on, and how it ends. Each report is a verdict with the word CHECKED, or a SOLUTION under OPTIMAL,
-- or that of a statement which asks nothing. The option is the objective of an optimal verdict that isn't shown yet: SOLUTION shows it
-- before the next verdict, before the mark is cleared, and before the end.
pub data IsAttestable (program : Program) : Option ℚ → State → List Report → Ending → Type 0 where
  over : (s : State) (ending : Ending) → IsOver linear_programming program s ending → IsAttestable program None s [] ending
  does : (objective : Option ℚ) (s : State) (gain : Gain) (after : State) (reports : List Report) (ending : Ending)
      (step : Step linear_programming program s (Goes gain after)) → AsksNothing program s (Goes gain after) step →
      (objective ≡ None) ⊎ (is_none after.mark ≡ false) → IsAttestable program objective after reports ending →
      IsAttestable program objective s (printed_by gain ++ reports) ending
  stops : (s : State) (gain : Gain) (ending : Ending) (step : Step linear_programming program s (Ends gain ending)) →
      AsksNothing program s (Ends gain ending) step → IsAttestable program None s (printed_by gain) ending
  finds : (s : State) (solver : Solver) (verdict : PathVerdict) (after : State) (reports : List Report) (ending : Ending) →
      FindsChecked program s solver verdict (Goes (Prints (Solved solver verdict Checked)) after) →
      IsAttestable program (to_show verdict) after reports ending → IsAttestable program None s (Solved solver verdict Checked ∷ reports) ending
  finds_last : (s : State) (solver : Solver) (verdict : PathVerdict) (ending : Ending) →
      FindsChecked program s solver verdict (Ends (Prints (Solved solver verdict Checked)) ending) →
      IsAttestable program None s (Solved solver verdict Checked ∷ []) ending
  shows : (waiting : Option ℚ) (s : State) (objective : ℚ) (lines : SolutionLines) (reports : List Report) (ending : Ending) →
      ShowsChecked program s objective lines → (waiting ≡ None) ⊎ (waiting ≡ Some objective) →
      IsAttestable program None (record (counted s) { position = s.position + 1 }) reports ending →
      IsAttestable program waiting s (Solution Optimal lines ∷ reports) ending

-- What such a job comes to: a fault of its cards, a control fault, or so a run of its program from its start on.
pub data IsAttestableRun (bytes : List ℕ) : List Report → Ending → Type 0 where
  of_cards : (fault : CardFault) → job_fault bytes ≡ Some fault → IsAttestableRun bytes [] (CardStop fault)
  of_control : (fault : ControlFault) → job_fault bytes ≡ None → compiled (cards_of bytes) ≡ Err fault → IsAttestableRun bytes [] (ControlStop fault)
  of_program : (program : Program) (reports : List Report) (ending : Ending) → IsProgramOf bytes program →
      IsAttestable program None (start (job_decks program bytes)) reports ending → IsAttestableRun bytes reports ending

-- It is a run of the job, and its listing is attested, with all its reports, where its end isn't one that can't be attested.
pub record ComesAttested : Type 0 where
  pub runs : (bytes : List ℕ) (reports : List Report) (ending : Ending) → IsAttestableRun bytes reports ending →
      (cards : List (List ℕ)) × IsJobRun linear_programming bytes reports cards ending
  pub attested : (bytes : List ℕ) (reports : List Report) (ending : Ending) → IsAttestableRun bytes reports ending → is_open_stop (ending_text ending) ≡ false →
      EndsIn checker_of_128_bits bytes (listing reports ending) (Attested (length reports))
