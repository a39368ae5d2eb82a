-- Each verb is followed.
use Rattle.std.proofs.Common.{◌≡◌, ℕ, false, List, refl, ap, ◌∙◌}
use Rattle.std.specs.Prelude.{Option, Some, option_and_then, is_none}
use Rattle.std.specs.Option.{option_or}
use Rattle.std.proofs.lemmas.List.Elements.{All-nil}
use Rattle.exact_values.specs.Rational.{ℚ}
use Rattle.card_definitions.specs.Cards.{Card}
use Rattle.deck_definitions.specs.Conversion.{conversion}
use Rattle.deck_definitions.specs.Decks.{deck_taken}
use Rattle.basis_deck_definitions.specs.Reading.{basis_reading}
use Rattle.revise_definitions.specs.Revision.{revision}
use Rattle.problem_definitions.specs.Names.{Name}
use Rattle.problem_definitions.specs.Problem.{Problem}
use Rattle.control_definitions.specs.declared.NameCell.{NameCell}
use Rattle.control_definitions.specs.declared.NameCell.TheVariants.{Xdata, Xpbname, Xobj, Xrhs, Xoldname, Xchrow, Xchcol}
use Rattle.control_definitions.specs.declared.NumberCell.{NumberCell}
use Rattle.control_definitions.specs.declared.NumberCell.TheVariants.{Xparam, Xparmax}
use Rattle.control_definitions.specs.declared.Demand.{Demand}
use Rattle.control_definitions.specs.declared.Demand.TheVariants.{Xdonfs, Xdounb}
use Rattle.control_definitions.specs.Program.{SetupOptions, Verb, Initialz, Title, MoveName, MoveNumber, MoveLimit, Mvadr, Goto, Convert, Setup, Primal, Dual}
use Rattle.control_definitions.specs.Program.{Revise, Ranging, Paraobj, Pararhs, Solution as SolutionVerb, Bcdout, Punch, Insert, Exit}
use Rattle.selection_definitions.specs.Selection.{selected}
use Rattle.listing_definitions.specs.declared.Mark.{Mark}
use Rattle.listing_definitions.specs.declared.Solver.{Solver}
use Rattle.listing_definitions.specs.declared.Solver.TheVariants.{Primal as ByPrimal, Dual as ByDual}
use Rattle.listing_definitions.specs.declared.VerbFault.{VerbFault}
use Rattle.listing_definitions.specs.Report.{Filed, Report, Titled, Converted, Revised, SetUp}
use Rattle.listing_definitions.specs.Ending.{Ended}
use Rattle.question_definitions.specs.Answers.{Basis, Sheet, Changing, changing_name, AnswerTo, OfRanges, OfPunch, OfInstall, Installed}
use Rattle.control_definitions.specs.Cells.{Cells, move_name, move_number, steps_allowed, set_demand}
use Rattle.run_definitions.specs.State.{Present, State, problem_of, choice_of}
use Rattle.run_definitions.specs.Moves.{Nothing, Prints, StatementOutcome, Goes, stops, Does, Asks}
use Rattle.run_definitions.specs.Verbs.{size_of, files, not_less, change_row, change_set, mark_after, if_optimal, solves, shows, ranges, parametric_runs}
use Rattle.run_definitions.specs.Verbs.{converts, revises, sets_up, punches, punches_basis, inserts, verb_move}
use Rattle.run_definitions.specs.Run.{counted}
use Rattle.soundness_laws.specs.Truth.{IsOfProblem, named_by}
use Rattle.soundness_laws.proofs.ChangeRow.{row_named, set_named, last_is}
use Rattle.soundness_laws.proofs.Moves.{HasProblem}
use Rattle.walk_definitions.specs.Checkers.{Checker}
use Rattle.walk_definitions.specs.Forms.{is_ranges, is_punched}
use Rattle.walk_definitions.specs.Walker.{Walker, Finds, Wrong, open_if, open_stop, open_pending, is_inserted_by, open_question}
use Rattle.walk_laws.specs.Read.{ReadingLaw}
use Rattle.walk_laws.specs.Judged.{JudgedLaws}
use Rattle.walk_laws.specs.Proved.{Says}
use Rattle.walk_laws.proofs.Owing.{Owes, SelectsSame}
use Rattle.walk_laws.proofs.Turns.{never_either, never_if, never_stop, never_pending, on_unless}
use Rattle.walk_laws.proofs.Followed.{GoesOn, EndsSo, IsFollowed, may_stop, does, unless_fault, unless_deck_fault, unless_selection_fault, selecting, one_says}
use Rattle.walk_laws.proofs.Answered.{IsPathSolver, path_followed}
use Rattle.walk_laws.proofs.Views.{solution_followed}
use Rattle.walk_laws.proofs.RanThrough.{parametric_run_followed}

-- ---- while the mark stands the cells select the same

named : (cell : NameCell) (name : Name) (cells : Cells) (mark : Option Mark) (setup : Option Present) → is_none (mark_after cell mark) ≡ false →
    SelectsSame setup cells setup (move_name cell name cells)
named Xdata name cells mark setup stands = record { setups = refl; objectives = refl; rhs = refl }
named Xpbname name cells mark setup stands = record { setups = refl; objectives = refl; rhs = refl }
named Xobj name cells mark setup stands = absurd (cc stands)
named Xrhs name cells mark setup stands = absurd (cc stands)
named Xoldname name cells mark setup stands = record { setups = refl; objectives = refl; rhs = refl }
named Xchrow name cells mark setup stands = record { setups = refl; objectives = refl; rhs = refl }
named Xchcol name cells mark setup stands = record { setups = refl; objectives = refl; rhs = refl }

numbered : (cell : NumberCell) (value : ℚ) (cells : Cells) (setup : Option Present) → SelectsSame setup cells setup (move_number cell value cells)
numbered Xparam value cells setup = record { setups = refl; objectives = refl; rhs = refl }
numbered Xparmax value cells setup = record { setups = refl; objectives = refl; rhs = refl }

demanding : (demand : Demand) (position : ℕ) (cells : Cells) (setup : Option Present) → SelectsSame setup cells setup (set_demand demand position cells)
demanding Xdonfs position cells setup = record { setups = refl; objectives = refl; rhs = refl }
demanding Xdounb position cells setup = record { setups = refl; objectives = refl; rhs = refl }

module _ (C : Checker) (reading : ReadingLaw C) (truth : JudgedLaws C) (Holds : Type 0) (w : Walker) (owed : Owes C Holds w.pending w.state.setup w.state.cells)
    (lawful : HasProblem w.state.setup) where
  abbrev SelectsAfter : State → Type 0
  SelectsAfter after = is_none after.mark ≡ false → SelectsSame w.state.setup w.state.cells after.setup after.cells

  quiet : (card : ℕ) (after : State) → SelectsAfter after → IsFollowed C Holds w card (Does (Goes Nothing after))
  quiet card after same = does C Holds w owed card (Goes Nothing after) (All-nil (Says C w.state), same)

  prints : (card : ℕ) (report : Report) (after : State) → Says C w.state report → SelectsAfter after →
      IsFollowed C Holds w card (Does (Goes (Prints report) after))
  prints card report after says same = does C Holds w owed card (Goes (Prints report) after) (one_says C Holds w report says, same)

  -- ---- problems

  files_followed : (card : ℕ) (report : Filed → Report) (decks : List (List Card)) → ((filed : Filed) → Says C w.state (report filed)) → (problem : Problem ℕ) →
      IsFollowed C Holds w card (files report decks (counted w.state) problem)
  files_followed card report decks says problem = prints card (report (size_of problem)) _ (says (size_of problem)) (λ stands. absurd (cc stands))

  converts_followed : (card : ℕ) → IsFollowed C Holds w card (converts card (counted w.state))
  converts_followed card =
      unless_fault C Holds w owed {X = List Card × List (List Card)} card VerbFault.DeckNotFound (deck_taken w.state.cells.xdata w.state.decks) _ (λ taken e.
      unless_deck_fault C Holds w owed card (conversion taken.0 w.state.cells.xpbname) (files Converted taken.1 (counted w.state)) (λ problem is.
      files_followed card Converted taken.1 (λ filed. tt) problem))

  revises_followed : (card : ℕ) → IsFollowed C Holds w card (revises card (counted w.state))
  revises_followed card =
      unless_fault C Holds w owed card VerbFault.NoProblem (problem_of w.state.cells.xoldname w.state.file) _ (λ old o.
      unless_fault C Holds w owed {X = List Card × List (List Card)} card VerbFault.DeckNotFound (deck_taken w.state.cells.xdata w.state.decks) _ (λ taken e.
      unless_deck_fault C Holds w owed card (revision old taken.0 w.state.cells.xpbname) (files Revised taken.1 (counted w.state)) (λ problem is.
      files_followed card Revised taken.1 (λ filed. tt) problem)))

  sets_up_followed : (card : ℕ) (options : SetupOptions) → IsFollowed C Holds w card (sets_up card options (counted w.state))
  sets_up_followed card options =
      unless_fault C Holds w owed card VerbFault.NoProblem (problem_of w.state.cells.xpbname w.state.file) _ (λ problem e.
      selecting C Holds w owed card problem (choice_of w.state.cells options) _ (λ lp is.
      prints card (SetUp problem.name options.sense) _ tt (λ stands. absurd (cc stands))))

  punches_followed : (card : ℕ) → IsFollowed C Holds w card (punches card (counted w.state))
  punches_followed card =
      unless_fault C Holds w owed card VerbFault.NoProblem (problem_of w.state.cells.xpbname w.state.file) _ (λ problem e.
      does C Holds w owed card _ (one_says C Holds w _ tt, λ stands. record { setups = refl; objectives = refl; rhs = refl }))

  -- ---- what is asked

  solves_followed : (solver : Solver) → IsPathSolver solver → (limit : Option ℕ) (card : ℕ) →
      IsFollowed C Holds w card (solves solver limit card (counted w.state))
  solves_followed solver is_path limit card =
      unless_fault C Holds w owed card VerbFault.NoSetup w.state.setup _ (λ present e.
      selecting C Holds w owed card present.problem (choice_of w.state.cells present.options) _ (λ lp is.
      path_followed C reading truth Holds w owed lawful solver is_path limit card present lp e is))

  shows_followed : (card : ℕ) → IsFollowed C Holds w card (shows card (counted w.state))
  shows_followed card =
      unless_fault C Holds w owed card VerbFault.NoSetup w.state.setup _ (λ present e.
      unless_fault C Holds w owed card VerbFault.NotSolved w.state.mark _ (λ mark m.
      unless_selection_fault C Holds w owed card (selected present.problem (choice_of w.state.cells present.options)) _ (λ lp is.
      solution_followed C reading truth Holds w owed lawful card present lp e is mark)))

  parametric_runs_followed : (card : ℕ) (fault : VerbFault) (change : Problem ℕ → Name → Option Changing) (moved : Option Name) →
      ((problem : Problem ℕ) (changing : Changing) → option_and_then (change problem) moved ≡ Some changing →
      IsOfProblem changing problem × (named_by w.state.cells changing ≡ Some (changing_name changing))) →
      IsFollowed C Holds w card (parametric_runs card fault change moved (counted w.state))
  parametric_runs_followed card fault change moved of_problem =
      unless_fault C Holds w owed card VerbFault.NoSetup w.state.setup _ (λ present e.
      selecting C Holds w owed card present.problem (choice_of w.state.cells present.options) _ (λ lp is.
      unless_fault C Holds w owed {X = Changing} card fault (option_and_then (change present.problem) moved) _ (λ changing c.
      unless_fault C Holds w owed {X = ℚ} card VerbFault.NoParmax w.state.cells.xparmax _ (λ last l.
      unless_fault C Holds w owed {X = ℚ} card VerbFault.ParmaxBelow (not_less w.state.cells.xparam last) _ (λ to t.
      parametric_run_followed C reading truth Holds w owed lawful card present lp
      (record { changing = changing; from = w.state.cells.xparam; to = to; limit = steps_allowed w.state.cells }) e is (record {
        is_part = (of_problem present.problem changing c).0;
        is_named = (of_problem present.problem changing c).1;
        from_first = refl;
        to_last = l ∙ ap (λ (x : ℚ). Some x) (last_is w.state.cells.xparam last to t);
      }))))))

  -- ---- what can't be read

  ranges_asked : (card : ℕ) (sheet : Sheet) (s : Basis) (go : AnswerTo OfRanges → StatementOutcome) → IsFollowed C Holds w card (Asks OfRanges sheet s go)
  ranges_asked card sheet s go = record {
    comes =
        on_unless (GoesOn C Holds w card (Asks OfRanges sheet s go)) (EndsSo C Holds w card (Asks OfRanges sheet s go)) (open_question w OfRanges sheet go)
        (Finds (Wrong w.rest))
        (never_either (open_stop w) (open_if (is_ranges w.rest) w) (never_stop w) (never_if (is_ranges w.rest) w)) (λ none. tt);
  }

  punch_asked : (card : ℕ) (sheet : Sheet) (s : Basis) (go : AnswerTo OfPunch → StatementOutcome) → IsFollowed C Holds w card (Asks OfPunch sheet s go)
  punch_asked card sheet s go = record {
    comes =
        on_unless (GoesOn C Holds w card (Asks OfPunch sheet s go)) (EndsSo C Holds w card (Asks OfPunch sheet s go)) (open_question w OfPunch sheet go)
        (Finds (Wrong w.rest))
        (never_either (open_stop w) (open_if (is_punched sheet.problem.name w.rest) w) (never_stop w) (never_if (is_punched sheet.problem.name w.rest) w))
        (λ none. tt);
  }

  install_asked : (card : ℕ) (t : Basis) (sheet : Sheet) (s : Basis) (go : AnswerTo (OfInstall t) → StatementOutcome) →
      IsFollowed C Holds w card (Asks (OfInstall t) sheet s go)
  install_asked card t sheet s go = record {
    comes =
        on_unless (GoesOn C Holds w card (Asks (OfInstall t) sheet s go)) (EndsSo C Holds w card (Asks (OfInstall t) sheet s go))
        (open_question w (OfInstall t) sheet go) (Finds (Wrong w.rest))
        (never_either (open_stop w) (option_or (open_if (is_inserted_by (go Installed) w.rest) w) (open_pending w)) (never_stop w)
        (never_either (open_if (is_inserted_by (go Installed) w.rest) w) (open_pending w) (never_if (is_inserted_by (go Installed) w.rest) w)
        (never_pending w.pending))) (λ none. tt);
  }

  ranges_followed : (card : ℕ) → IsFollowed C Holds w card (ranges card (counted w.state))
  ranges_followed card =
      unless_fault C Holds w owed card VerbFault.NoSetup w.state.setup _ (λ present e.
      unless_fault C Holds w owed card VerbFault.NotSolved w.state.mark _ (λ mark m.
      unless_fault C Holds w owed {X = Mark} card VerbFault.NotOptimal (if_optimal mark) _ (λ optimal o.
      unless_selection_fault C Holds w owed card (selected present.problem (choice_of w.state.cells present.options)) _ (λ lp is.
      may_stop C Holds w card _ _ (ranges_asked card _ _ _)))))

  punches_basis_followed : (card : ℕ) → IsFollowed C Holds w card (punches_basis card (counted w.state))
  punches_basis_followed card =
      unless_fault C Holds w owed card VerbFault.NoSetup w.state.setup _ (λ present e.
      selecting C Holds w owed card present.problem (choice_of w.state.cells present.options) _ (λ lp is.
      punch_asked card _ _ _))

  inserts_followed : (card : ℕ) → IsFollowed C Holds w card (inserts card (counted w.state))
  inserts_followed card =
      unless_fault C Holds w owed card VerbFault.NoSetup w.state.setup _ (λ present e.
      selecting C Holds w owed card present.problem (choice_of w.state.cells present.options) _ (λ lp is.
      unless_fault C Holds w owed {X = List Card × List (List Card)} card VerbFault.DeckNotFound (deck_taken w.state.cells.xdata w.state.decks) _ (λ taken t.
      unless_deck_fault C Holds w owed card (basis_reading present.problem lp taken.0) _ (λ s read.
      may_stop C Holds w card _ _ (install_asked card s _ _ _)))))

  pub verb_followed : (verb : Verb ℕ) (card : ℕ) → IsFollowed C Holds w card (verb_move verb card (counted w.state))
  unfolding verb_move
  verb_followed Initialz card = quiet card _ (λ stands. absurd (cc stands))
  verb_followed (Title text) card = prints card (Titled text) _ tt (λ stands. record { setups = refl; objectives = refl; rhs = refl })
  verb_followed (MoveName cell name) card = quiet card _ (named cell name w.state.cells w.state.mark w.state.setup)
  verb_followed (MoveNumber cell value) card = quiet card _ (λ stands. numbered cell value w.state.cells w.state.setup)
  verb_followed (MoveLimit limit) card = quiet card _ (λ stands. record { setups = refl; objectives = refl; rhs = refl })
  verb_followed (Mvadr demand position) card = quiet card _ (λ stands. demanding demand position w.state.cells w.state.setup)
  verb_followed (Goto position) card = quiet card _ (λ stands. record { setups = refl; objectives = refl; rhs = refl })
  verb_followed Convert card = converts_followed card
  verb_followed Revise card = revises_followed card
  verb_followed (Setup options) card = sets_up_followed card options
  verb_followed Primal card = solves_followed ByPrimal tt w.state.cells.xiterlim card
  verb_followed Dual card = solves_followed ByDual tt (Some (steps_allowed w.state.cells)) card
  verb_followed SolutionVerb card = shows_followed card
  verb_followed Ranging card = ranges_followed card
  verb_followed Paraobj card = parametric_runs_followed card VerbFault.NoChangeRow change_row w.state.cells.xchrow (row_named w.state.cells)
  verb_followed Pararhs card = parametric_runs_followed card VerbFault.NoChangeSet change_set w.state.cells.xchcol (set_named w.state.cells)
  verb_followed Bcdout card = punches_followed card
  verb_followed Punch card = punches_basis_followed card
  verb_followed Insert card = inserts_followed card
  verb_followed Exit card = does C Holds w owed card (stops (Ended 0)) (All-nil (Says C w.state))
