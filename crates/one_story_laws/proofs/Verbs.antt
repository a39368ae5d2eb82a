-- Each verb leads two runs alike, from states that are the same but for the bases.
use Rattle.std.proofs.Common.{◌≡◌, ℕ, ◌+◌, List, [], ◌∷◌, refl, ap, ◌∙◌}
use Rattle.std.specs.Prelude.{Option, Some, None, option_and_then}
use Rattle.exact_values.specs.Rational.{ℚ}
use Rattle.lp_definitions.specs.Basis.{opening_statuses}
use Rattle.card_definitions.specs.Cards.{Card}
use Rattle.problem_definitions.specs.Names.{Name}
use Rattle.problem_definitions.specs.Problem.{Problem}
use Rattle.deck_definitions.specs.Conversion.{conversion}
use Rattle.deck_definitions.specs.Decks.{deck_taken}
use Rattle.basis_deck_definitions.specs.Reading.{basis_reading}
use Rattle.revise_definitions.specs.Revision.{revision}
use Rattle.control_definitions.specs.Cells.{default_cells, move_name, move_number, move_limit, steps_allowed, set_demand}
use Rattle.control_definitions.specs.Program.{SetupOptions, Verb, Initialz, Title, MoveName, MoveNumber, MoveLimit, Mvadr, Goto, Convert, Setup, Primal, Dual}
use Rattle.control_definitions.specs.Program.{Revise, Ranging, Paraobj, Pararhs, Solution as SolutionVerb, Bcdout, Punch, Insert, Exit}
use Rattle.selection_definitions.specs.Selection.{selected}
use Rattle.listing_definitions.specs.declared.Mark.{Mark}
use Rattle.listing_definitions.specs.declared.Solver.{Solver}
use Rattle.listing_definitions.specs.declared.Solver.TheVariants.{Primal as ByPrimal, Dual as ByDual}
use Rattle.listing_definitions.specs.declared.VerbFault.{VerbFault}
use Rattle.listing_definitions.specs.Report.{Filed, Report, Titled, Converted, Revised}
use Rattle.question_definitions.specs.Answers.{Changing, changing_name, OfRanges, OfPunch, OfInstall}
use Rattle.question_definitions.specs.Solving.{Solving}
use Rattle.run_definitions.specs.State.{Present, State, problem_of, choice_of}
use Rattle.run_definitions.specs.Moves.{Gain, Nothing, Prints, printed_by, Goes, StatementMove, Does}
use Rattle.run_definitions.specs.Verbs.{size_of, files, not_less, change_row, change_set, mark_after, if_optimal, solves, shows, ranges, parametric_runs}
use Rattle.run_definitions.specs.Verbs.{converts, revises, sets_up, punches, punches_basis, inserts, verb_move}
use Rattle.run_definitions.specs.Run.{counted}
use Rattle.soundness_laws.specs.Truth.{IsOfProblem, named_by}
use Rattle.soundness_laws.proofs.ChangeRow.{row_named, set_named, last_is}
use Rattle.walk_laws.proofs.Answered.{IsPathSolver}
use Rattle.one_story_laws.specs.Story.{ReportsSame, TellSame}
use Rattle.one_story_laws.proofs.Reported.{SaysEnough}
use Rattle.one_story_laws.proofs.Alike.{SameSetup, no_setup, one_setup, goes_alike, IsAlike, does, may_stop, asked, unless_fault, unless_deck_fault}
use Rattle.one_story_laws.proofs.Alike.{unless_selection_fault, selecting}
use Rattle.one_story_laws.proofs.Questions.{path_asked, solution_asked, parametric_run_asked}
use Rattle.walk_definitions.specs.Checkers.{Checker}

module _ (C : Checker) (S : Solving) (Speaks : State → Report → Type 0) (Open : Type 0) (enough : SaysEnough S Speaks Open) (card : ℕ) (state : State) where
  abbrev with_setup : Option Present → State
  with_setup setup = record state { setup = setup }

  -- the moves of two runs that stand alike
  abbrev LeadsAlike : Option Present → Option Present → (State → StatementMove) → Type 0
  LeadsAlike left right move =
      IsAlike C S Speaks Open (with_setup left) (with_setup right) card (move (counted (with_setup left))) (move (counted (with_setup right)))

  -- ---- verbs that don't ask

  goes : (left right : Option Present) (after : State) (later other : Option Present) (gain : Gain) → TellSame (printed_by gain) (printed_by gain) →
      SameSetup later other →
      IsAlike C S Speaks Open (with_setup left) (with_setup right) card (Does (Goes gain (record after { setup = later })))
      (Does (Goes gain (record after { setup = other })))
  goes left right after later other gain same setups =
      does C S Speaks Open (with_setup left) (with_setup right) card _ _ (goes_alike gain gain after later other same setups)

  files_alike : (left right : Option Present) (report : Filed → Report) (decks : List (List Card)) (problem : Problem ℕ) →
      ((filed : Filed) → ReportsSame (report filed) (report filed)) →
      LeadsAlike left right (λ (s : State). files report decks s problem)
  files_alike left right report decks problem same =
      goes left right (record (counted state) { file = problem ∷ state.file; decks = decks; mark = None; position = state.position + 1 }) None None
      (Prints (report (size_of problem))) (same (size_of problem), tt) no_setup

  module _ (left right : Option Present) where
    abbrev first : State
    first = with_setup left

    abbrev second : State
    second = with_setup right

    converts_alike : LeadsAlike left right (converts card)
    converts_alike =
        unless_fault C S Speaks Open first second card {X = List Card × List (List Card)} VerbFault.DeckNotFound (deck_taken state.cells.xdata state.decks) _ _
        (λ taken e.
        unless_deck_fault C S Speaks Open first second card (conversion taken.0 state.cells.xpbname) _ _
        (λ problem is. files_alike left right Converted taken.1 problem (λ filed. refl)))

    revises_alike : LeadsAlike left right (revises card)
    revises_alike =
        unless_fault C S Speaks Open first second card VerbFault.NoProblem (problem_of state.cells.xoldname state.file) _ _ (λ old o.
        unless_fault C S Speaks Open first second card {X = List Card × List (List Card)} VerbFault.DeckNotFound (deck_taken state.cells.xdata state.decks) _ _
        (λ taken e.
        unless_deck_fault C S Speaks Open first second card (revision old taken.0 state.cells.xpbname) _ _
        (λ problem is. files_alike left right Revised taken.1 problem (λ filed. refl))))

    sets_up_alike : (options : SetupOptions) → LeadsAlike left right (sets_up card options)
    sets_up_alike options =
        unless_fault C S Speaks Open first second card VerbFault.NoProblem (problem_of state.cells.xpbname state.file) _ _ (λ problem e.
        selecting C S Speaks Open first second card problem (choice_of state.cells options) _ _ (λ lp is.
        goes left right (record (counted state) { mark = None; position = state.position + 1 })
        (Some (record { problem = problem; options = options; opening = opening_statuses lp; steps = [] }))
        (Some (record { problem = problem; options = options; opening = opening_statuses lp; steps = [] }))
        _ (refl, tt) (one_setup problem options (opening_statuses lp) (opening_statuses lp) [] [])))

    punches_alike : SameSetup left right → LeadsAlike left right (punches card)
    punches_alike setups =
        unless_fault C S Speaks Open first second card VerbFault.NoProblem (problem_of state.cells.xpbname state.file) _ _ (λ problem e.
        goes left right (record (counted state) { position = state.position + 1 }) left right _ (refl, tt) setups)

  -- ---- verbs that ask

  solves_alike : (solver : Solver) → IsPathSolver solver → (limit : Option ℕ) (left right : Option Present) → SameSetup left right →
      LeadsAlike left right (solves solver limit card)
  solves_alike solver is_path limit _ _ no_setup = does C S Speaks Open (with_setup None) (with_setup None) card _ _ (tt, refl)
  solves_alike solver is_path limit _ _ (one_setup problem options opening other steps others) =
      selecting C S Speaks Open _ _ card problem (choice_of state.cells options) _ _ (λ lp is.
      path_asked C S Speaks Open enough card state problem options opening other steps others lp is solver is_path limit)

  shows_alike : (left right : Option Present) → SameSetup left right → LeadsAlike left right (shows card)
  shows_alike _ _ no_setup = does C S Speaks Open (with_setup None) (with_setup None) card _ _ (tt, refl)
  shows_alike _ _ (one_setup problem options opening other steps others) =
      unless_fault C S Speaks Open _ _ card {X = Mark} VerbFault.NotSolved state.mark _ _ (λ mark m.
      unless_selection_fault C S Speaks Open _ _ card (selected problem (choice_of state.cells options)) _ _ (λ lp is.
      solution_asked C S Speaks Open enough card state problem options opening other steps others lp is mark))

  parametric_runs_alike : (fault : VerbFault) (change : Problem ℕ → Name → Option Changing) (moved : Option Name) →
      ((problem : Problem ℕ) (changing : Changing) → option_and_then (change problem) moved ≡ Some changing →
      IsOfProblem changing problem × (named_by state.cells changing ≡ Some (changing_name changing))) →
      (left right : Option Present) → SameSetup left right → LeadsAlike left right (parametric_runs card fault change moved)
  parametric_runs_alike fault change moved named _ _ no_setup = does C S Speaks Open (with_setup None) (with_setup None) card _ _ (tt, refl)
  parametric_runs_alike fault change moved named _ _ (one_setup problem options opening other steps others) =
      selecting C S Speaks Open _ _ card problem (choice_of state.cells options) _ _ (λ lp is.
      unless_fault C S Speaks Open _ _ card {X = Changing} fault (option_and_then (change problem) moved) _ _ (λ changing c.
      unless_fault C S Speaks Open _ _ card {X = ℚ} VerbFault.NoParmax state.cells.xparmax _ _ (λ last l.
      unless_fault C S Speaks Open _ _ card {X = ℚ} VerbFault.ParmaxBelow (not_less state.cells.xparam last) _ _ (λ to t.
      parametric_run_asked C S Speaks Open enough card state problem options opening other steps others lp is
      (record { changing = changing; from = state.cells.xparam; to = to; limit = steps_allowed state.cells })
      (record { is_named = (named problem changing c).1; from_first = refl; to_last = l ∙ ap (λ (x : ℚ). Some x) (last_is state.cells.xparam last to t) })))))

  -- ---- what no listing answers

  ranges_alike : (left right : Option Present) → SameSetup left right → LeadsAlike left right (ranges card)
  ranges_alike _ _ no_setup = does C S Speaks Open (with_setup None) (with_setup None) card _ _ (tt, refl)
  ranges_alike _ _ (one_setup problem options opening other steps others) =
      unless_fault C S Speaks Open _ _ card {X = Mark} VerbFault.NotSolved state.mark _ _ (λ mark m.
      unless_fault C S Speaks Open _ _ card {X = Mark} VerbFault.NotOptimal (if_optimal mark) _ _ (λ optimal o.
      unless_selection_fault C S Speaks Open _ _ card (selected problem (choice_of state.cells options)) _ _ (λ lp is.
      may_stop C S Speaks Open _ _ card _ _ _ _
      (asked C S Speaks Open _ _ card OfRanges (record { problem = problem; lp = lp }) _ _ _ _ (λ x y right taken speaks says. absurd taken)))))

  punches_basis_alike : (left right : Option Present) → SameSetup left right → LeadsAlike left right (punches_basis card)
  punches_basis_alike _ _ no_setup = does C S Speaks Open (with_setup None) (with_setup None) card _ _ (tt, refl)
  punches_basis_alike _ _ (one_setup problem options opening other steps others) =
      selecting C S Speaks Open _ _ card problem (choice_of state.cells options) _ _ (λ lp is.
      asked C S Speaks Open _ _ card OfPunch (record { problem = problem; lp = lp }) _ _ _ _ (λ x y right taken speaks says. absurd taken))

  inserts_alike : (left right : Option Present) → SameSetup left right → LeadsAlike left right (inserts card)
  inserts_alike _ _ no_setup = does C S Speaks Open (with_setup None) (with_setup None) card _ _ (tt, refl)
  inserts_alike _ _ (one_setup problem options opening other steps others) =
      selecting C S Speaks Open _ _ card problem (choice_of state.cells options) _ _ (λ lp is.
      unless_fault C S Speaks Open _ _ card {X = List Card × List (List Card)} VerbFault.DeckNotFound (deck_taken state.cells.xdata state.decks) _ _ (λ taken t.
      unless_deck_fault C S Speaks Open _ _ card (basis_reading problem lp taken.0) _ _ (λ s read.
      may_stop C S Speaks Open _ _ card _ _ _ _
      (asked C S Speaks Open _ _ card (OfInstall s) (record { problem = problem; lp = lp }) _ _ _ _ (λ x y right taken speaks says. absurd taken)))))

  -- ---- each verb

  quiet : (left right : Option Present) (after : State) → SameSetup left right →
      IsAlike C S Speaks Open (with_setup left) (with_setup right) card (Does (Goes Nothing (record after { setup = left })))
      (Does (Goes Nothing (record after { setup = right })))
  quiet left right after setups = goes left right after left right Nothing tt setups

  pub verb_alike : (verb : Verb ℕ) (left right : Option Present) → SameSetup left right → LeadsAlike left right (verb_move verb card)
  unfolding verb_move
  verb_alike Initialz left right setups = quiet left right (record (counted state) { cells = default_cells; mark = None; position = state.position + 1 }) setups
  verb_alike (Title text) left right setups =
      goes left right (record (counted state) { position = state.position + 1 }) left right (Prints (Titled text)) (refl, tt) setups
  verb_alike (MoveName cell name) left right setups =
      quiet left right
      (record (counted state) { cells = move_name cell name state.cells; mark = mark_after cell state.mark; position = state.position + 1 }) setups
  verb_alike (MoveNumber cell value) left right setups =
      quiet left right (record (counted state) { cells = move_number cell value state.cells; position = state.position + 1 }) setups
  verb_alike (MoveLimit limit) left right setups =
      quiet left right (record (counted state) { cells = move_limit limit state.cells; position = state.position + 1 }) setups
  verb_alike (Mvadr demand position) left right setups =
      quiet left right (record (counted state) { cells = set_demand demand position state.cells; position = state.position + 1 }) setups
  verb_alike (Goto position) left right setups = quiet left right (record (counted state) { position = position }) setups
  verb_alike Convert left right setups = converts_alike left right
  verb_alike Revise left right setups = revises_alike left right
  verb_alike (Setup options) left right setups = sets_up_alike left right options
  verb_alike Primal left right setups = solves_alike ByPrimal tt state.cells.xiterlim left right setups
  verb_alike Dual left right setups = solves_alike ByDual tt (Some (steps_allowed state.cells)) left right setups
  verb_alike SolutionVerb left right setups = shows_alike left right setups
  verb_alike Ranging left right setups = ranges_alike left right setups
  verb_alike Paraobj left right setups = parametric_runs_alike VerbFault.NoChangeRow change_row state.cells.xchrow (row_named state.cells) left right setups
  verb_alike Pararhs left right setups = parametric_runs_alike VerbFault.NoChangeSet change_set state.cells.xchcol (set_named state.cells) left right setups
  verb_alike Bcdout left right setups = punches_alike left right setups
  verb_alike Punch left right setups = punches_basis_alike left right setups
  verb_alike Insert left right setups = inserts_alike left right setups
  verb_alike Exit left right setups = does C S Speaks Open (with_setup left) (with_setup right) card _ _ (tt, refl)
