-- No report of an attested listing is of RANGE, PUNCH or INSERT.
use Rattle.std.proofs.Common.{inl, inr, ℕ, List, [], ◌∷◌, sym, subst}
use Rattle.std.specs.Prelude.{All, Option, Some, None, Result, Ok, Err, option_and_then}
use Rattle.std.proofs.lemmas.List.Elements.{All-nil, All-cons, All-append}
use Rattle.exact_values.specs.Rational.{ℚ}
use Rattle.lp_definitions.specs.LinearProgram.{LinearProgram}
use Rattle.card_definitions.specs.Cards.{Card}
use Rattle.problem_definitions.specs.Names.{Name}
use Rattle.problem_definitions.specs.Problem.{Problem}
use Rattle.deck_definitions.specs.declared.DeckFault.{DeckFault}
use Rattle.deck_definitions.specs.Conversion.{conversion}
use Rattle.deck_definitions.specs.Decks.{deck_taken}
use Rattle.basis_deck_definitions.specs.Reading.{basis_reading}
use Rattle.revise_definitions.specs.Revision.{revision}
use Rattle.control_definitions.specs.Cells.{steps_allowed}
use Rattle.control_definitions.specs.Program.{Program, SetupOptions, Verb, Initialz, Title, MoveName, MoveNumber, MoveLimit, Mvadr, Goto, Convert, Setup}
use Rattle.control_definitions.specs.Program.{Primal, Dual, Revise, Ranging, Paraobj, Pararhs, Solution as SolutionVerb, Bcdout, Punch, Insert, Exit}
use Rattle.selection_definitions.specs.declared.SelectionFault.{SelectionFault}
use Rattle.selection_definitions.specs.Choice.{Choice}
use Rattle.selection_definitions.specs.Selection.{selected}
use Rattle.listing_definitions.specs.declared.Mark.{Mark}
use Rattle.listing_definitions.specs.declared.Mark.TheVariants.{Optimal, Infeasible, Unbounded}
use Rattle.listing_definitions.specs.declared.Solver.{Solver}
use Rattle.listing_definitions.specs.declared.Solver.TheVariants.{Primal as ByPrimal, Dual as ByDual}
use Rattle.listing_definitions.specs.declared.VerbFault.{VerbFault}
use Rattle.listing_definitions.specs.Report.{Report, Converted, Revised, Solved, Solution}
use Rattle.listing_definitions.specs.Ending.{Ending}
use Rattle.question_definitions.specs.Answers.{Basis, Sheet, Changing, parametric_solver, ParametricRun, Question, OfPath, OfSolution, OfRanges}
use Rattle.question_definitions.specs.Answers.{OfParametricRun, OfPunch, OfInstall, AnswerTo, PathEnd, Reached, PathLimit, PricesWrong, ParametricRunEnd}
use Rattle.question_definitions.specs.Answers.{Opening, Chained, ParametricRunLimit}
use Rattle.question_definitions.specs.Solving.{IsRight}
use Rattle.run_definitions.specs.State.{Present, gone_through, State, problem_of, choice_of}
use Rattle.run_definitions.specs.Moves.{printed_by, StatementOutcome, Goes, Ends, gain_of, Refusals, StatementMove, Does, MayStop, Asks, Gives, or_fault}
use Rattle.run_definitions.specs.Verbs.{or_deck_fault, or_selection_fault, files, selects, not_less, change_row, change_set, mark_of, demanded, by_verdict}
use Rattle.run_definitions.specs.Verbs.{if_optimal, after_path, after_parametric_run, solves, shows, ranges, parametric_runs, converts, revises, sets_up}
use Rattle.run_definitions.specs.Verbs.{punches, punches_basis, inserts, verb_move}
use Rattle.run_definitions.specs.Run.{counted, Reaches, begun, stepped, IsRun, is_over, is_ended}
use Rattle.run_definitions.specs.Answer.{IsJobRun, card_fault, control_fault, run}
use Rattle.walk_laws.specs.Proved.{attested}
use Rattle.one_story_laws.specs.Story.{IsOfNoBasis}
use Rattle.walk_definitions.specs.Checkers.{Checker}

abbrev NoneOf : StatementOutcome → Type 0
NoneOf outcome = All IsOfNoBasis (printed_by (gain_of outcome))

nothing : All IsOfNoBasis []
nothing = All-nil IsOfNoBasis

only : (report : Report) → IsOfNoBasis report → All IsOfNoBasis (report ∷ [])
only report none = All-cons IsOfNoBasis report [] none nothing

demanded_none : (position : Option ℕ) (code : ℕ) (report : Report) (state : State) → IsOfNoBasis report → NoneOf (demanded position code report state)
demanded_none (Some position) code report state none = only report none
demanded_none None code report state none = only report none

by_verdict_none : (mark : Mark) (report : Report) (state : State) → IsOfNoBasis report → NoneOf (by_verdict mark report state)
by_verdict_none Optimal report state none = only report none
by_verdict_none Infeasible report state none = demanded_none state.cells.xdonfs 1 report state none
by_verdict_none Unbounded report state none = demanded_none state.cells.xdounb 2 report state none

-- ---- moves

module _ (C : Checker) (card : ℕ) where
  record ShowsNone (move : StatementMove) : Type 0 where
    by : (outcome : StatementOutcome) → Gives (attested C) card move outcome → NoneOf outcome

  does : (outcome : StatementOutcome) → NoneOf outcome → ShowsNone (Does outcome)
  does outcome none = record { by = λ given e. subst NoneOf (sym e) none }

  may_stop : (refusals : Refusals) (move : StatementMove) → ShowsNone move → ShowsNone (MayStop refusals move)
  may_stop refusals move shows = record { by = stopping }
    where
      stopping : (given : StatementOutcome) → Gives (attested C) card (MayStop refusals move) given → NoneOf given
      stopping given (inl gives) = shows.by given gives
      stopping given (inr stop) = subst NoneOf (sym stop.3) nothing

  asked : (question : Question) (sheet : Sheet) (s : Basis) (go : AnswerTo question → StatementOutcome) →
      ((answer : AnswerTo question) → IsRight (attested C) question sheet s answer → NoneOf (go answer)) →
      ShowsNone (Asks question sheet s go)
  asked question sheet s go none = record { by = λ given a. subst NoneOf (sym a.2) (none a.0 a.1) }

  unless_fault : {X : Type 0} (fault : VerbFault) (o : Option X) (go : X → StatementMove) → ((x : X) → ShowsNone (go x)) → ShowsNone (or_fault card fault o go)
  unless_fault fault None go shows = does _ nothing
  unless_fault fault (Some x) go shows = shows x

  unless_deck_fault : {X : Type 0} (r : Result X DeckFault) (go : X → StatementMove) → ((x : X) → ShowsNone (go x)) → ShowsNone (or_deck_fault r go)
  unless_deck_fault (Err fault) go shows = does _ nothing
  unless_deck_fault (Ok x) go shows = shows x

  unless_selection_fault : (r : Result LinearProgram SelectionFault) (go : LinearProgram → StatementMove) → ((lp : LinearProgram) → ShowsNone (go lp)) →
      ShowsNone (or_selection_fault card r go)
  unless_selection_fault (Err fault) go shows = does _ nothing
  unless_selection_fault (Ok lp) go shows = shows lp

  selecting : (problem : Problem ℕ) (choice : Choice) (go : LinearProgram → StatementMove) → ((lp : LinearProgram) → ShowsNone (go lp)) →
      ShowsNone (selects card problem choice go)
  selecting problem choice go shows = unless_selection_fault (selected problem choice) _ (λ lp. may_stop _ (go lp) (shows lp))

  -- ---- verbs

  path_none : (solver : Solver) (present : Present) (state : State) (end : PathEnd) → NoneOf (after_path solver card present state end)
  path_none solver present state (Reached bases verdict check) =
      by_verdict_none (mark_of verdict) (Solved solver verdict check)
      (record state { setup = Some (gone_through bases present); mark = Some (mark_of verdict) }) tt
  path_none solver present state PathLimit = nothing
  path_none solver present state (PricesWrong j) = nothing

  parametric_run_none : (parametric_run : ParametricRun) (present : Present) (state : State) (end : ParametricRunEnd) →
      NoneOf (after_parametric_run card parametric_run present state end)
  parametric_run_none parametric_run present state (Opening bases verdict check) =
      by_verdict_none (mark_of verdict) (Solved (parametric_solver parametric_run.changing) verdict check)
      (record state { setup = Some (gone_through bases present); mark = None }) tt
  parametric_run_none parametric_run present state (Chained bases intervals end) = only _ tt
  parametric_run_none parametric_run present state ParametricRunLimit = nothing

  module _ (state : State) where
    converts_none : ShowsNone (converts card state)
    converts_none =
        unless_fault {X = List Card × List (List Card)} VerbFault.DeckNotFound (deck_taken state.cells.xdata state.decks) _ (λ taken.
        unless_deck_fault (conversion taken.0 state.cells.xpbname) (files Converted taken.1 state) (λ problem. does _ (only _ tt)))

    revises_none : ShowsNone (revises card state)
    revises_none =
        unless_fault VerbFault.NoProblem (problem_of state.cells.xoldname state.file) _ (λ old.
        unless_fault {X = List Card × List (List Card)} VerbFault.DeckNotFound (deck_taken state.cells.xdata state.decks) _ (λ taken.
        unless_deck_fault (revision old taken.0 state.cells.xpbname) (files Revised taken.1 state) (λ problem. does _ (only _ tt))))

    sets_up_none : (options : SetupOptions) → ShowsNone (sets_up card options state)
    sets_up_none options =
        unless_fault VerbFault.NoProblem (problem_of state.cells.xpbname state.file) _ (λ problem.
        selecting problem (choice_of state.cells options) _ (λ lp. does _ (only _ tt)))

    punches_none : ShowsNone (punches card state)
    punches_none = unless_fault VerbFault.NoProblem (problem_of state.cells.xpbname state.file) _ (λ problem. does _ (only _ tt))

    solves_none : (solver : Solver) (limit : Option ℕ) → ShowsNone (solves solver limit card state)
    solves_none solver limit =
        unless_fault VerbFault.NoSetup state.setup _ (λ present.
        selecting present.problem (choice_of state.cells present.options) _ (λ lp.
        may_stop _ _ (asked (OfPath solver limit) _ _ _ (λ end taken. path_none solver present state end))))

    shows_none : ShowsNone (shows card state)
    shows_none =
        unless_fault VerbFault.NoSetup state.setup _ (λ present.
        unless_fault {X = Mark} VerbFault.NotSolved state.mark _ (λ mark.
        unless_selection_fault (selected present.problem (choice_of state.cells present.options)) _ (λ lp.
        may_stop _ _ (asked (OfSolution mark) _ _ _ (λ lines taken. only (Solution mark lines) tt)))))

    ranges_none : ShowsNone (ranges card state)
    ranges_none =
        unless_fault VerbFault.NoSetup state.setup _ (λ present.
        unless_fault {X = Mark} VerbFault.NotSolved state.mark _ (λ mark.
        unless_fault {X = Mark} VerbFault.NotOptimal (if_optimal mark) _ (λ optimal.
        unless_selection_fault (selected present.problem (choice_of state.cells present.options)) _ (λ lp.
        may_stop _ _ (asked OfRanges _ _ _ (λ lines taken. absurd taken))))))

    parametric_runs_none : (fault : VerbFault) (change : Problem ℕ → Name → Option Changing) (moved : Option Name) →
        ShowsNone (parametric_runs card fault change moved state)
    parametric_runs_none fault change moved =
        unless_fault VerbFault.NoSetup state.setup _ (λ present.
        selecting present.problem (choice_of state.cells present.options) _ (λ lp.
        unless_fault {X = Changing} fault (option_and_then (change present.problem) moved) _ (λ changing.
        unless_fault {X = ℚ} VerbFault.NoParmax state.cells.xparmax _ (λ last.
        unless_fault {X = ℚ} VerbFault.ParmaxBelow (not_less state.cells.xparam last) _ (λ to.
        may_stop _ _
        (asked (OfParametricRun (record { changing = changing; from = state.cells.xparam; to = to; limit = steps_allowed state.cells })) _ _ _ (λ end taken.
        parametric_run_none (record { changing = changing; from = state.cells.xparam; to = to; limit = steps_allowed state.cells }) present state end)))))))

    punches_basis_none : ShowsNone (punches_basis card state)
    punches_basis_none =
        unless_fault VerbFault.NoSetup state.setup _ (λ present.
        selecting present.problem (choice_of state.cells present.options) _ (λ lp.
        asked OfPunch _ _ _ (λ cards taken. absurd taken)))

    inserts_none : ShowsNone (inserts card state)
    inserts_none =
        unless_fault VerbFault.NoSetup state.setup _ (λ present.
        selecting present.problem (choice_of state.cells present.options) _ (λ lp.
        unless_fault {X = List Card × List (List Card)} VerbFault.DeckNotFound (deck_taken state.cells.xdata state.decks) _ (λ taken.
        unless_deck_fault (basis_reading present.problem lp taken.0) _ (λ s.
        may_stop _ _ (asked (OfInstall s) _ _ _ (λ end right. absurd right))))))

  verb_none : (verb : Verb ℕ) (state : State) → ShowsNone (verb_move verb card state)
  unfolding verb_move
  verb_none Initialz state = does _ nothing
  verb_none (Title text) state = does _ (only _ tt)
  verb_none (MoveName cell name) state = does _ nothing
  verb_none (MoveNumber cell value) state = does _ nothing
  verb_none (MoveLimit limit) state = does _ nothing
  verb_none (Mvadr demand position) state = does _ nothing
  verb_none (Goto position) state = does _ nothing
  verb_none Convert state = converts_none state
  verb_none Revise state = revises_none state
  verb_none (Setup options) state = sets_up_none state options
  verb_none Primal state = solves_none state ByPrimal state.cells.xiterlim
  verb_none Dual state = solves_none state ByDual (Some (steps_allowed state.cells))
  verb_none SolutionVerb state = shows_none state
  verb_none Ranging state = ranges_none state
  verb_none Paraobj state = parametric_runs_none state VerbFault.NoChangeRow change_row state.cells.xchrow
  verb_none Pararhs state = parametric_runs_none state VerbFault.NoChangeSet change_set state.cells.xchcol
  verb_none Bcdout state = punches_none state
  verb_none Punch state = punches_basis_none state
  verb_none Insert state = inserts_none state
  verb_none Exit state = does _ nothing

-- ---- runs

module _ (C : Checker) (program : Program) (decks : List (List Card)) where
  so_far_none : (reports : List Report) (cards : List (List ℕ)) (state : State) → Reaches (attested C) program decks reports cards state →
      All IsOfNoBasis reports
  so_far_none _ _ _ begun = nothing
  so_far_none _ _ _ (stepped {reports} {cards} {state} gain after before step) =
      All-append IsOfNoBasis reports (printed_by gain) (so_far_none reports cards state before)
      ((verb_none C step.statement.card step.statement.verb (counted state)).by (Goes gain after) step.gives)

  run_none : (reports : List Report) (cards : List (List ℕ)) (ending : Ending) → IsRun (attested C) program decks reports cards ending → All IsOfNoBasis reports
  run_none reports cards ending (is_over {reports = _} {cards = _} {state} before over) = so_far_none reports cards state before
  run_none _ _ ending (is_ended {reports} {cards} {state} gain before step) =
      All-append IsOfNoBasis reports (printed_by gain) (so_far_none reports cards state before)
      ((verb_none C step.statement.card step.statement.verb (counted state)).by (Ends gain ending) step.gives)

pub job_of_no_basis : (C : Checker) (bytes : List ℕ) (reports : List Report) (cards : List (List ℕ)) (ending : Ending) →
    IsJobRun (attested C) bytes reports cards ending → All IsOfNoBasis reports
job_of_no_basis C bytes _ _ _ (card_fault fault is) = nothing
job_of_no_basis C bytes _ _ _ (control_fault fault fine is) = nothing
job_of_no_basis C bytes reports cards ending (run program is runs) = run_none C program _ reports cards ending runs
