-- A statement stops with an overflow only where evidence holds, and never since a device or memory
-- fails.
use Rattle.std.proofs.Common.{inl, inr, ℕ, ◌≤◌, lit≤, List, sym, subst}
use Rattle.std.specs.Prelude.{Option, Some, None, Result, Ok, Err, option_and_then}
use Rattle.exact_values.specs.Rational.{ℚ}
use Rattle.lp_definitions.specs.LinearProgram.{LinearProgram}
use Rattle.card_definitions.specs.Cards.{Card}
use Rattle.problem_definitions.specs.Names.{Name}
use Rattle.problem_definitions.specs.Problem.{Problem}
use Rattle.deck_definitions.specs.declared.DeckFault.{DeckFault}
use Rattle.deck_definitions.specs.Conversion.{conversion}
use Rattle.deck_definitions.specs.Decks.{deck_taken}
use Rattle.basis_deck_definitions.specs.Reading.{basis_reading}
use Rattle.revise_definitions.specs.Revision.{revision}
use Rattle.control_definitions.specs.Cells.{steps_allowed}
use Rattle.control_definitions.specs.Program.{Program, SetupOptions, Verb, Initialz, Title, MoveName, MoveNumber, MoveLimit, Mvadr, Goto, Convert, Setup}
use Rattle.control_definitions.specs.Program.{Primal, Dual, Revise, Ranging, Paraobj, Pararhs, Solution as SolutionVerb, Bcdout, Punch, Insert, Exit}
use Rattle.selection_definitions.specs.declared.SelectionFault.{SelectionFault}
use Rattle.selection_definitions.specs.Choice.{Choice}
use Rattle.selection_definitions.specs.Selection.{selected}
use Rattle.listing_definitions.specs.declared.Mark.{Mark}
use Rattle.listing_definitions.specs.declared.Mark.TheVariants.{Optimal, Infeasible, Unbounded}
use Rattle.listing_definitions.specs.declared.Solver.{Solver}
use Rattle.listing_definitions.specs.declared.Solver.TheVariants.{Primal as ByPrimal, Dual as ByDual}
use Rattle.listing_definitions.specs.declared.VerbFault.{VerbFault}
use Rattle.listing_definitions.specs.Report.{Report, Converted, Revised, Solved, Solution, Ranges}
use Rattle.listing_definitions.specs.Ending.{Overflow, Ending, Ended, WordsRefused, ControlStop, VerbStop, SingularStop, PriceStop, DeckStop, CardStop}
use Rattle.listing_definitions.specs.Ending.{LimitStop, StatementLimit, OverflowStop, ReadFault, PrintFault, PunchFault, Memory}
use Rattle.question_definitions.specs.Answers.{Basis, Changing, parametric_solver, ParametricRun, Question, AnswerTo, OfSolution, OfRanges, PathEnd, Reached}
use Rattle.question_definitions.specs.Answers.{PathLimit, PricesWrong, ParametricRunEnd, Opening, Chained, ParametricRunLimit, InstallEnd, Installed, DependsBy}
use Rattle.question_definitions.specs.Solving.{Solving}
use Rattle.run_definitions.specs.State.{Present, gone_through, State, problem_of, choice_of}
use Rattle.run_definitions.specs.Moves.{Gain, StatementOutcome, Goes, Ends, Refusals, StatementMove, Does, MayStop, Asks, Gives, or_fault}
use Rattle.run_definitions.specs.Verbs.{or_deck_fault, or_selection_fault, files, selects, not_less, change_row, change_set, demanded, by_verdict, mark_of}
use Rattle.run_definitions.specs.Verbs.{if_optimal, after_path, after_parametric_run, after_install, shows_present, solves, shows, ranges, parametric_runs}
use Rattle.run_definitions.specs.Verbs.{converts, revises, sets_up, punches, punches_basis, inserts, verb_move}
use Rattle.run_definitions.specs.Run.{counted, at_end, at_limit, IsRun, is_over, is_ended}
use Rattle.run_definitions.specs.Answer.{IsJobRun, card_fault, control_fault, run}
use Rattle.determinism_laws.specs.Laws.{HasEvidence}

-- an ending that a run has by itself, where no device and no memory fails
abbrev pub IsOfItself : Ending → Type 0
IsOfItself ReadFault = ⊥
IsOfItself PrintFault = ⊥
IsOfItself PunchFault = ⊥
IsOfItself Memory = ⊥
IsOfItself _ = Unit {0}

-- an ending of a run of a program: by itself it ends with 0, 1 or 2; words, control cards and the cards of a job are refused before
-- it begins
abbrev pub IsEndOfRun : Ending → Type 0
IsEndOfRun (Ended code) = code ≤ 2
IsEndOfRun (VerbStop fault) = Unit {0}
IsEndOfRun (SingularStop basis) = Unit {0}
IsEndOfRun (PriceStop price) = Unit {0}
IsEndOfRun (DeckStop fault) = Unit {0}
IsEndOfRun (LimitStop reached) = Unit {0}
IsEndOfRun StatementLimit = Unit {0}
IsEndOfRun (OverflowStop overflow) = Unit {0}
IsEndOfRun _ = ⊥

-- an ending and an outcome of that kind that isn't a stop for an overflow
abbrev IsOtherEnding : Ending → Type 0
IsOtherEnding (OverflowStop overflow) = ⊥
IsOtherEnding ending = IsEndOfRun ending

abbrev IsOther : StatementOutcome → Type 0
IsOther (Goes gain after) = Unit {0}
IsOther (Ends gain ending) = IsOtherEnding ending

-- what a move does, or makes of an answer, isn't one
abbrev DoesOther : StatementMove → Type 0
DoesOther (Does outcome) = IsOther outcome
DoesOther (MayStop refusals move) = DoesOther move
DoesOther (Asks question sheet s go) = (answer : AnswerTo question) → IsOther (go answer)

record NeverStops (move : StatementMove) : Type 0 where
  other : DoesOther move

does : (outcome : StatementOutcome) → IsOther outcome → NeverStops (Does outcome)
does outcome other = record { other = other }

may_stop : (refusals : Refusals) (move : StatementMove) → NeverStops move → NeverStops (MayStop refusals move)
may_stop refusals move never = record { other = never.other }

unless_fault : {X : Type 0} (card : ℕ) (fault : VerbFault) (o : Option X) (go : X → StatementMove) → ((x : X) → NeverStops (go x)) →
    NeverStops (or_fault card fault o go)
unless_fault card fault None go never = does _ tt
unless_fault card fault (Some x) go never = never x

unless_deck_fault : {X : Type 0} (r : Result X DeckFault) (go : X → StatementMove) → ((x : X) → NeverStops (go x)) → NeverStops (or_deck_fault r go)
unless_deck_fault (Err fault) go never = does _ tt
unless_deck_fault (Ok x) go never = never x

unless_selection_fault : (card : ℕ) (r : Result LinearProgram SelectionFault) (go : LinearProgram → StatementMove) →
    ((lp : LinearProgram) → NeverStops (go lp)) → NeverStops (or_selection_fault card r go)
unless_selection_fault card (Err fault) go never = does _ tt
unless_selection_fault card (Ok lp) go never = never lp

selecting : (card : ℕ) (problem : Problem ℕ) (choice : Choice) (go : LinearProgram → StatementMove) → ((lp : LinearProgram) → NeverStops (go lp)) →
    NeverStops (selects card problem choice go)
selecting card problem choice go never = unless_selection_fault card (selected problem choice) _ (λ lp. may_stop _ (go lp) (never lp))

-- ---- verbs

converts_never : (card : ℕ) (state : State) → NeverStops (converts card state)
converts_never card state =
    unless_fault {X = List Card × List (List Card)} card VerbFault.DeckNotFound (deck_taken state.cells.xdata state.decks) _ (λ taken.
    unless_deck_fault (conversion taken.0 state.cells.xpbname) (files Converted taken.1 state) (λ problem. does _ tt))

revises_never : (card : ℕ) (state : State) → NeverStops (revises card state)
revises_never card state =
    unless_fault card VerbFault.NoProblem (problem_of state.cells.xoldname state.file) _ (λ old.
    unless_fault {X = List Card × List (List Card)} card VerbFault.DeckNotFound (deck_taken state.cells.xdata state.decks) _ (λ taken.
    unless_deck_fault (revision old taken.0 state.cells.xpbname) (files Revised taken.1 state) (λ problem. does _ tt)))

sets_up_never : (card : ℕ) (options : SetupOptions) (state : State) → NeverStops (sets_up card options state)
sets_up_never card options state =
    unless_fault card VerbFault.NoProblem (problem_of state.cells.xpbname state.file) _ (λ problem.
    selecting card problem (choice_of state.cells options) _ (λ lp. does _ tt))

punches_never : (card : ℕ) (state : State) → NeverStops (punches card state)
punches_never card state = unless_fault card VerbFault.NoProblem (problem_of state.cells.xpbname state.file) _ (λ problem. does _ tt)

demanded_other : (position : Option ℕ) (code : ℕ) (report : Report) (state : State) → code ≤ 2 → IsOther (demanded position code report state)
demanded_other (Some position) code report state within = tt
demanded_other None code report state within = within

by_verdict_other : (mark : Mark) (report : Report) (state : State) → IsOther (by_verdict mark report state)
by_verdict_other Optimal report state = tt
by_verdict_other Infeasible report state = demanded_other state.cells.xdonfs 1 report state (lit≤ tt)
by_verdict_other Unbounded report state = demanded_other state.cells.xdounb 2 report state (lit≤ tt)

after_path_other : (solver : Solver) (card : ℕ) (present : Present) (state : State) (end : PathEnd) → IsOther (after_path solver card present state end)
after_path_other solver card present state (Reached bases verdict check) =
    by_verdict_other (mark_of verdict) (Solved solver verdict check) (record state { setup = Some (gone_through bases present); mark = Some (mark_of verdict) })
after_path_other solver card present state PathLimit = tt
after_path_other solver card present state (PricesWrong j) = tt

after_install_other : (card : ℕ) (lp : LinearProgram) (s : Basis) (taken : List Card × List (List Card)) (present : Present) (state : State)
    (end : InstallEnd) → IsOther (after_install card lp s taken present state end)
after_install_other card lp s taken present state Installed = tt
after_install_other card lp s taken present state (DependsBy lines) = tt

after_parametric_run_other : (card : ℕ) (parametric_run : ParametricRun) (present : Present) (state : State) (end : ParametricRunEnd) →
    IsOther (after_parametric_run card parametric_run present state end)
after_parametric_run_other card parametric_run present state (Opening bases verdict check) =
    by_verdict_other (mark_of verdict) (Solved (parametric_solver parametric_run.changing) verdict check)
    (record state { setup = Some (gone_through bases present); mark = None })
after_parametric_run_other card parametric_run present state (Chained bases intervals end) = tt
after_parametric_run_other card parametric_run present state ParametricRunLimit = tt

module _ (card : ℕ) (state : State) where
  solves_never : (solver : Solver) (limit : Option ℕ) → NeverStops (solves solver limit card state)
  solves_never solver limit =
      unless_fault card VerbFault.NoSetup state.setup _ (λ present.
      selecting card present.problem (choice_of state.cells present.options) _ (λ lp.
      record { other = after_path_other solver card present state }))

  punches_basis_never : NeverStops (punches_basis card state)
  punches_basis_never =
      unless_fault card VerbFault.NoSetup state.setup _ (λ present.
      selecting card present.problem (choice_of state.cells present.options) _ (λ lp. record { other = λ cards. tt }))

  inserts_never : NeverStops (inserts card state)
  inserts_never =
      unless_fault card VerbFault.NoSetup state.setup _ (λ present.
      selecting card present.problem (choice_of state.cells present.options) _ (λ lp.
      unless_fault {X = List Card × List (List Card)} card VerbFault.DeckNotFound (deck_taken state.cells.xdata state.decks) _ (λ taken.
      unless_deck_fault (basis_reading present.problem lp taken.0) _ (λ s.
      record { other = after_install_other card lp s taken present state }))))

  showing_never : (present : Present) (question : Question) (report : AnswerTo question → Report) →
      NeverStops (shows_present card state present question report)
  showing_never present question report =
      unless_selection_fault card (selected present.problem (choice_of state.cells present.options)) _ (λ lp. record { other = λ lines. tt })

  shows_never : NeverStops (shows card state)
  shows_never =
      unless_fault card VerbFault.NoSetup state.setup _ (λ present.
      unless_fault card VerbFault.NotSolved state.mark _ (λ mark.
      showing_never present (OfSolution mark) (Solution mark)))

  ranges_never : NeverStops (ranges card state)
  ranges_never =
      unless_fault card VerbFault.NoSetup state.setup _ (λ present.
      unless_fault card VerbFault.NotSolved state.mark _ (λ mark.
      unless_fault {X = Mark} card VerbFault.NotOptimal (if_optimal mark) _ (λ optimal.
      showing_never present OfRanges Ranges)))

  parametric_runs_never : (fault : VerbFault) (change : Problem ℕ → Name → Option Changing) (moved : Option Name) →
      NeverStops (parametric_runs card fault change moved state)
  parametric_runs_never fault change moved =
      unless_fault card VerbFault.NoSetup state.setup _ (λ present.
      selecting card present.problem (choice_of state.cells present.options) _ (λ lp.
      unless_fault {X = Changing} card fault (option_and_then (change present.problem) moved) _ (λ changing.
      unless_fault {X = ℚ} card VerbFault.NoParmax state.cells.xparmax _ (λ last.
      unless_fault {X = ℚ} card VerbFault.ParmaxBelow (not_less state.cells.xparam last) _ (λ to.
      record {
        other = after_parametric_run_other card
            (record { changing = changing; from = state.cells.xparam; to = to; limit = steps_allowed state.cells }) present state;
      })))))

verb_never : (verb : Verb ℕ) (card : ℕ) (state : State) → NeverStops (verb_move verb card state)
unfolding verb_move
verb_never Initialz card state = does _ tt
verb_never (Title text) card state = does _ tt
verb_never (MoveName cell name) card state = does _ tt
verb_never (MoveNumber cell value) card state = does _ tt
verb_never (MoveLimit limit) card state = does _ tt
verb_never (Mvadr demand position) card state = does _ tt
verb_never (Goto position) card state = does _ tt
verb_never Convert card state = converts_never card state
verb_never Revise card state = revises_never card state
verb_never (Setup options) card state = sets_up_never card options state
verb_never Primal card state = solves_never card state ByPrimal state.cells.xiterlim
verb_never Dual card state = solves_never card state ByDual (Some (steps_allowed state.cells))
verb_never SolutionVerb card state = shows_never card state
verb_never Ranging card state = ranges_never card state
verb_never Paraobj card state = parametric_runs_never card state VerbFault.NoChangeRow change_row state.cells.xchrow
verb_never Pararhs card state = parametric_runs_never card state VerbFault.NoChangeSet change_set state.cells.xchcol
verb_never Bcdout card state = punches_never card state
verb_never Punch card state = punches_basis_never card state
verb_never Insert card state = inserts_never card state
verb_never Exit card state = does _ (lit≤ tt)

-- ---- so an overflow has evidence

module _ (S : Solving) (card : ℕ) (gain : Gain) (overflow : Overflow) where
  by_evidence : (move : StatementMove) → DoesOther move → Gives S card move (Ends gain (OverflowStop overflow)) → HasEvidence S move
  by_evidence (Does outcome) other gives = subst IsOther (sym gives) other
  by_evidence (MayStop refusals move) other (inl gives) = inr (by_evidence move other gives)
  by_evidence (MayStop refusals move) other (inr stop) = inl (stop.0, stop.1, stop.2)
  by_evidence (Asks question sheet s go) other gives = subst IsOther (sym gives.2) (other gives.0)

  pub statement_evidence : (verb : Verb ℕ) (state : State) → Gives S card (verb_move verb card state) (Ends gain (OverflowStop overflow)) →
      HasEvidence S (verb_move verb card state)
  statement_evidence verb state gives = by_evidence (verb_move verb card state) (verb_never verb card state).other gives

-- ---- and no statement ends a run as a device or memory does

other_end : (ending : Ending) → IsOtherEnding ending → IsEndOfRun ending
other_end (Ended code) other = other
other_end WordsRefused other = other
other_end (ControlStop fault) other = other
other_end (VerbStop fault) other = other
other_end (SingularStop basis) other = other
other_end (PriceStop price) other = other
other_end (DeckStop fault) other = other
other_end (CardStop fault) other = other
other_end (LimitStop reached) other = other
other_end StatementLimit other = other
other_end (OverflowStop overflow) other = tt
other_end ReadFault other = other
other_end PrintFault other = other
other_end PunchFault other = other
other_end Memory other = other

abbrev EndsAsRun : StatementOutcome → Type 0
EndsAsRun (Goes gain after) = Unit {0}
EndsAsRun (Ends gain ending) = IsEndOfRun ending

outcome_as_run : (outcome : StatementOutcome) → IsOther outcome → EndsAsRun outcome
outcome_as_run (Goes gain after) other = tt
outcome_as_run (Ends gain ending) other = other_end ending other

module _ (S : Solving) (card : ℕ) (given : StatementOutcome) where
  gives_as_run : (move : StatementMove) → DoesOther move → Gives S card move given → EndsAsRun given
  gives_as_run (Does outcome) other gives = subst EndsAsRun (sym gives) (outcome_as_run outcome other)
  gives_as_run (MayStop refusals move) other (inl gives) = gives_as_run move other gives
  gives_as_run (MayStop refusals move) other (inr stop) = subst EndsAsRun (sym stop.3) tt
  gives_as_run (Asks question sheet s go) other gives = subst EndsAsRun (sym gives.2) (outcome_as_run (go gives.0) (other gives.0))

  statement_as_run : (verb : Verb ℕ) (state : State) → Gives S card (verb_move verb card state) given → EndsAsRun given
  statement_as_run verb state gives = gives_as_run (verb_move verb card state) (verb_never verb card state).other gives

of_itself : (ending : Ending) → IsEndOfRun ending → IsOfItself ending
of_itself (Ended code) own = tt
of_itself WordsRefused own = tt
of_itself (ControlStop fault) own = tt
of_itself (VerbStop fault) own = tt
of_itself (SingularStop basis) own = tt
of_itself (PriceStop price) own = tt
of_itself (DeckStop fault) own = tt
of_itself (CardStop fault) own = tt
of_itself (LimitStop reached) own = tt
of_itself StatementLimit own = tt
of_itself (OverflowStop overflow) own = tt
of_itself ReadFault own = own
of_itself PrintFault own = own
of_itself PunchFault own = own
of_itself Memory own = own

module _ (S : Solving) where
  pub end_of_run : (program : Program) (decks : List (List Card)) (reports : List Report) (cards : List (List ℕ)) (ending : Ending) →
      IsRun S program decks reports cards ending → IsEndOfRun ending
  end_of_run program decks _ _ _ (is_over came (at_end past)) = lit≤ tt
  end_of_run program decks _ _ _ (is_over came (at_limit within limit)) = tt
  end_of_run program decks _ _ ending (is_ended {state = state} gain came step) =
      statement_as_run S step.statement.card (Ends gain ending) step.statement.verb (counted state) step.gives

  -- a run of a job, where nothing fails, ends by itself
  pub job_of_itself : (bytes : List ℕ) (reports : List Report) (cards : List (List ℕ)) (ending : Ending) → IsJobRun S bytes reports cards ending →
      IsOfItself ending
  job_of_itself bytes _ _ _ (card_fault fault is) = tt
  job_of_itself bytes _ _ _ (control_fault fault fine is) = tt
  job_of_itself bytes reports cards ending (run program is runs) = of_itself ending (end_of_run program _ reports cards ending runs)
