-- What a statement comes to that neither reads XPARAM nor sets it: the same, whatever value is there, with that value left in the state.
use Rattle.std.proofs.Common.{◌≡◌, ℕ, Bool, true, false, not, ◌||◌, List, Option, Some, None, Result, Ok, Err, refl, ap, ap₂, ◌∙◌, if◌then◌else◌, length}
use Rattle.std.specs.Option.{option_or}
use Rattle.exact_values.specs.Rational.{ℚ}
use Rattle.lp_definitions.specs.LinearProgram.{LinearProgram}
use Rattle.problem_definitions.specs.Problem.{Problem}
use Rattle.deck_definitions.specs.declared.DeckFault.{DeckFault}
use Rattle.deck_definitions.specs.Conversion.{conversion}
use Rattle.deck_definitions.specs.Decks.{deck_taken}
use Rattle.basis_deck_definitions.specs.Reading.{basis_reading}
use Rattle.revise_definitions.specs.Revision.{revision}
use Rattle.control_definitions.specs.declared.NameCell.TheVariants.{Xdata, Xpbname, Xobj, Xrhs, Xoldname, Xchrow, Xchcol}
use Rattle.control_definitions.specs.declared.NumberCell.TheVariants.{Xparam, Xparmax}
use Rattle.control_definitions.specs.declared.Demand.TheVariants.{Xdonfs, Xdounb}
use Rattle.control_definitions.specs.Program as program
use Rattle.control_definitions.specs.Program.{Verb}
use Rattle.control_definitions.specs.Cells.{steps_allowed}
use Rattle.selection_definitions.specs.declared.SelectionFault.{SelectionFault}
use Rattle.selection_definitions.specs.Choice.{Choice}
use Rattle.selection_definitions.specs.Selection.{selected}
use Rattle.selection_definitions.specs.Making.{is_made}
use Rattle.listing_definitions.specs.declared.Mark.{Mark}
use Rattle.listing_definitions.specs.declared.Mark.TheVariants as marks
use Rattle.listing_definitions.specs.declared.Solver.{Solver}
use Rattle.listing_definitions.specs.declared.Solver.TheVariants as solvers
use Rattle.listing_definitions.specs.declared.VerbFault.{VerbFault}
use Rattle.listing_definitions.specs.declared.VerbFault.TheVariants.{DeckNotFound, NoProblem, NoSetup, NotSolved, NotOptimal}
use Rattle.listing_definitions.specs.Report as reports
use Rattle.listing_definitions.specs.Report.{Report}
use Rattle.question_definitions.specs.Answers.{Basis, Sheet, Question, AnswerTo, OfPath, OfSolution, OfRanges, OfParametricRun, OfPunch, OfInstall, PathEnd}
use Rattle.question_definitions.specs.Answers.{Reached, PathLimit, PricesWrong, InstallEnd, Installed, DependsBy}
use Rattle.run_definitions.specs.State.{Present, State, problem_of, choice_of}
use Rattle.run_definitions.specs.Moves.{Nothing, Prints, Punches, printed_by, gain_text, next, StatementOutcome, Goes, Ends, InSelection, InAnswer}
use Rattle.run_definitions.specs.Moves.{StatementMove, Does, MayStop, Asks, or_fault}
use Rattle.run_definitions.specs.Verbs.{or_deck_fault, or_selection_fault, selects, shows_present, demanded, by_verdict, mark_of, after_path, after_install}
use Rattle.run_definitions.specs.Verbs.{if_optimal, solves, asks, verb_move}
use Rattle.walk_definitions.specs.Checkers.{Checker}
use Rattle.walk_definitions.specs.Reading.{Judged, Right, Fails, Refuses, judged}
use Rattle.walk_definitions.specs.Words.{left_after}
use Rattle.walk_definitions.specs.Walker as walks
use Rattle.listing_walk.specs.declared.parameter.ParameterUse.TheVariants.{Sets, Neither}
use Rattle.listing_walk.specs.Parameter.{use_of}

module _ (x : ℚ) where
  -- this value in XPARAM
  abbrev pub state_with : State → State
  state_with state = record state { cells = record (state.cells) { xparam = x } }

  abbrev outcome_with : StatementOutcome → StatementOutcome
  outcome_with (Goes gain after) = Goes gain (state_with after)
  outcome_with (Ends gain ending) = Ends gain ending

  abbrev pub move_with : StatementMove → StatementMove
  move_with (Does outcome) = Does (outcome_with outcome)
  move_with (MayStop refusals move) = MayStop refusals (move_with move)
  move_with (Asks question sheet s go) = Asks question sheet s (λ answer. outcome_with (go answer))

  abbrev pub turn_with : walks.WalkTurn → walks.WalkTurn
  turn_with (walks.Walks v) = walks.Walks (record v { state = state_with v.state })
  turn_with (walks.Finds found) = walks.Finds found

  -- ---- what a verb does

  fault_with : {X : Type 0} (card : ℕ) (fault : VerbFault) (found : Option X) (go go' : X → StatementMove) → ((y : X) → go' y ≡ move_with (go y)) →
      or_fault card fault found go' ≡ move_with (or_fault card fault found go)
  fault_with card fault None go go' h = refl
  fault_with card fault (Some y) go go' h = h y

  deck_with : {X : Type 0} (given : Result X DeckFault) (go go' : X → StatementMove) → ((y : X) → go' y ≡ move_with (go y)) →
      or_deck_fault given go' ≡ move_with (or_deck_fault given go)
  deck_with (Err fault) go go' h = refl
  deck_with (Ok y) go go' h = h y

  chosen_with : (card : ℕ) (found : Result LinearProgram SelectionFault) (go go' : LinearProgram → StatementMove) →
      ((lp : LinearProgram) → go' lp ≡ move_with (go lp)) → or_selection_fault card found go' ≡ move_with (or_selection_fault card found go)
  chosen_with card (Err fault) go go' h = refl
  chosen_with card (Ok lp) go go' h = h lp

  selects_with : (card : ℕ) (problem : Problem ℕ) (choice : Choice) (go go' : LinearProgram → StatementMove) →
      ((lp : LinearProgram) → go' lp ≡ move_with (go lp)) → selects card problem choice go' ≡ move_with (selects card problem choice go)
  selects_with card problem choice go go' h =
      chosen_with card (selected problem choice) (λ lp. MayStop (InSelection problem choice) (go lp)) (λ lp. MayStop (InSelection problem choice) (go' lp))
      (λ lp. ap (MayStop (InSelection problem choice)) (h lp))

  asks_with : (question : Question) (sheet : Sheet) (present : Present) (go go' : AnswerTo question → StatementOutcome) →
      ((answer : AnswerTo question) → go' answer ≡ outcome_with (go answer)) → asks question sheet present go' ≡ move_with (asks question sheet present go)
  asks_with question sheet present go go' h = λ i. asks question sheet present (λ answer. h answer i)

  demanded_with : (set : Option ℕ) (code : ℕ) (report : Report) (state : State) →
      demanded set code report (state_with state) ≡ outcome_with (demanded set code report state)
  demanded_with None code report state = refl
  demanded_with (Some to) code report state = refl

  verdict_with : (mark : Mark) (report : Report) (state : State) → by_verdict mark report (state_with state) ≡ outcome_with (by_verdict mark report state)
  verdict_with marks.Optimal report state = refl
  verdict_with marks.Infeasible report state = demanded_with state.cells.xdonfs 1 report state
  verdict_with marks.Unbounded report state = demanded_with state.cells.xdounb 2 report state

  path_with : (solver : Solver) (card : ℕ) (present : Present) (state : State) (end : PathEnd) →
      after_path solver card present (state_with state) end ≡ outcome_with (after_path solver card present state end)
  path_with solver card present state (Reached bases verdict check) = verdict_with (mark_of verdict) _ _
  path_with solver card present state PathLimit = refl
  path_with solver card present state (PricesWrong j) = refl

  install_with : (card : ℕ) (lp : LinearProgram) (s : Basis) (taken : _) (present : Present) (state : State) (end : InstallEnd) →
      after_install card lp s taken present (state_with state) end ≡ outcome_with (after_install card lp s taken present state end)
  install_with card lp s taken present state Installed = refl
  install_with card lp s taken present state (DependsBy lines) = refl

  solves_with : (solver : Solver) (limit : Option ℕ) (card : ℕ) (state : State) →
      solves solver limit card (state_with state) ≡ move_with (solves solver limit card state)
  solves_with solver limit card state =
      fault_with card NoSetup state.setup _ _ (λ present.
      selects_with card present.problem (choice_of state.cells present.options) _ _ (λ lp.
      asks_with (OfPath solver limit) (record { problem = present.problem; lp = lp }) present _ _ (path_with solver card present state)))

  shows_with : (card : ℕ) (state : State) (present : Present) (question : Question) (report : AnswerTo question → Report) →
      shows_present card (state_with state) present question report ≡ move_with (shows_present card state present question report)
  shows_with card state present question report =
      chosen_with card (selected present.problem (choice_of state.cells present.options)) _ _ (λ lp.
      asks_with question (record { problem = present.problem; lp = lp }) present (λ lines. next (Prints (report lines)) state)
      (λ lines. next (Prints (report lines)) (state_with state)) (λ lines. refl))

  pub verb_with : (verb : Verb ℕ) → use_of verb ≡ Neither → (card : ℕ) (state : State) →
      verb_move verb card (state_with state) ≡ move_with (verb_move verb card state)
  unfolding verb_move
  verb_with program.Initialz apart card state = absurd (cc apart)
  verb_with (program.Title text) apart card state = refl
  verb_with (program.MoveName Xdata name) apart card state = refl
  verb_with (program.MoveName Xpbname name) apart card state = refl
  verb_with (program.MoveName Xobj name) apart card state = refl
  verb_with (program.MoveName Xrhs name) apart card state = refl
  verb_with (program.MoveName Xoldname name) apart card state = refl
  verb_with (program.MoveName Xchrow name) apart card state = refl
  verb_with (program.MoveName Xchcol name) apart card state = refl
  verb_with (program.MoveNumber Xparam value) apart card state = absurd (cc apart)
  verb_with (program.MoveNumber Xparmax value) apart card state = refl
  verb_with (program.MoveLimit limit) apart card state = refl
  verb_with (program.Mvadr Xdonfs to) apart card state = refl
  verb_with (program.Mvadr Xdounb to) apart card state = refl
  verb_with (program.Goto to) apart card state = refl
  verb_with program.Convert apart card state =
      fault_with card DeckNotFound (deck_taken state.cells.xdata state.decks) _ _
      (λ taken. deck_with (conversion taken.0 state.cells.xpbname) _ _ (λ problem. refl))
  verb_with program.Revise apart card state =
      fault_with card NoProblem (problem_of state.cells.xoldname state.file) _ _ (λ old.
      fault_with card DeckNotFound (deck_taken state.cells.xdata state.decks) _ _
      (λ taken. deck_with (revision old taken.0 state.cells.xpbname) _ _ (λ problem. refl)))
  verb_with (program.Setup options) apart card state =
      fault_with card NoProblem (problem_of state.cells.xpbname state.file) _ _
      (λ problem. selects_with card problem (choice_of state.cells options) _ _ (λ lp. refl))
  verb_with program.Primal apart card state = solves_with solvers.Primal state.cells.xiterlim card state
  verb_with program.Dual apart card state = solves_with solvers.Dual (Some (steps_allowed state.cells)) card state
  verb_with program.Solution apart card state =
      fault_with card NoSetup state.setup _ _
      (λ present. fault_with card NotSolved state.mark _ _ (λ mark. shows_with card state present (OfSolution mark) (reports.Solution mark)))
  verb_with program.Ranging apart card state =
      fault_with card NoSetup state.setup _ _ (λ present.
      fault_with card NotSolved state.mark _ _
      (λ mark. fault_with card NotOptimal (if_optimal mark) _ _ (λ optimal. shows_with card state present OfRanges reports.Ranges)))
  verb_with program.Paraobj apart card state = absurd (cc apart)
  verb_with program.Pararhs apart card state = absurd (cc apart)
  verb_with program.Bcdout apart card state = fault_with card NoProblem (problem_of state.cells.xpbname state.file) _ _ (λ problem. refl)
  verb_with program.Punch apart card state =
      fault_with card NoSetup state.setup _ _ (λ present. selects_with card present.problem (choice_of state.cells present.options) _ _ (λ lp. refl))
  verb_with program.Insert apart card state =
      fault_with card NoSetup state.setup _ _ (λ present.
      selects_with card present.problem (choice_of state.cells present.options) _ _ (λ lp.
      fault_with card DeckNotFound (deck_taken state.cells.xdata state.decks) _ _ (λ taken.
      deck_with (basis_reading present.problem lp taken.0) _ _ (λ s.
      asks_with (OfInstall s) (record { problem = present.problem; lp = lp }) present _ _ (install_with card lp s taken present state)))))
  verb_with program.Exit apart card state = refl

  -- what stood in XPARAM doesn't count where it is set
  pub set_alike : (verb : Verb ℕ) → use_of verb ≡ Sets → (card : ℕ) (state : State) → verb_move verb card (state_with state) ≡ verb_move verb card state
  unfolding verb_move
  set_alike program.Initialz sets card state = refl
  set_alike (program.Title text) sets card state = absurd (cc sets)
  set_alike (program.MoveName cell name) sets card state = absurd (cc sets)
  set_alike (program.MoveNumber Xparam value) sets card state = refl
  set_alike (program.MoveNumber Xparmax value) sets card state = absurd (cc sets)
  set_alike (program.MoveLimit limit) sets card state = absurd (cc sets)
  set_alike (program.Mvadr demand to) sets card state = absurd (cc sets)
  set_alike (program.Goto to) sets card state = absurd (cc sets)
  set_alike program.Convert sets card state = absurd (cc sets)
  set_alike program.Revise sets card state = absurd (cc sets)
  set_alike (program.Setup options) sets card state = absurd (cc sets)
  set_alike program.Primal sets card state = absurd (cc sets)
  set_alike program.Dual sets card state = absurd (cc sets)
  set_alike program.Solution sets card state = absurd (cc sets)
  set_alike program.Ranging sets card state = absurd (cc sets)
  set_alike program.Paraobj sets card state = absurd (cc sets)
  set_alike program.Pararhs sets card state = absurd (cc sets)
  set_alike program.Bcdout sets card state = absurd (cc sets)
  set_alike program.Punch sets card state = absurd (cc sets)
  set_alike program.Insert sets card state = absurd (cc sets)
  set_alike program.Exit sets card state = absurd (cc sets)

  -- ---- what is open

  report_inserted : (report : Report) (after : State) (rest : List ℕ) →
      walks.is_inserted_by (Goes (Prints report) (state_with after)) rest ≡ walks.is_inserted_by (Goes (Prints report) after) rest
  report_inserted (reports.Titled text) after rest = refl
  report_inserted (reports.Converted filed) after rest = refl
  report_inserted (reports.Revised filed) after rest = refl
  report_inserted (reports.SetUp name sense) after rest = refl
  report_inserted (reports.BcdOut name count) after rest = refl
  report_inserted (reports.BasisOut name count) after rest = refl
  report_inserted (reports.Inserted name basic) after rest = refl
  report_inserted (reports.Solved solver verdict check) after rest = refl
  report_inserted (reports.Solution mark lines) after rest = refl
  report_inserted (reports.Ranges lines) after rest = refl
  report_inserted (reports.Parametric solver chain) after rest = refl

  inserted_with : (outcome : StatementOutcome) (rest : List ℕ) → walks.is_inserted_by (outcome_with outcome) rest ≡ walks.is_inserted_by outcome rest
  inserted_with (Goes Nothing after) rest = refl
  inserted_with (Goes (Prints report) after) rest = report_inserted report after rest
  inserted_with (Goes (Punches report cards) after) rest = refl
  inserted_with (Ends gain ending) rest = refl

  module _ (C : Checker) (w : walks.Walker) where
    outcome_opened : (outcome : StatementOutcome) → walks.open_outcome w (outcome_with outcome) ≡ walks.open_outcome w outcome
    outcome_opened (Goes Nothing after) = refl
    outcome_opened (Goes (Prints report) after) = refl
    outcome_opened (Goes (Punches report cards) after) = refl
    outcome_opened (Ends gain ending) = refl

    question_opened : (question : Question) (sheet : Sheet) (go : AnswerTo question → StatementOutcome) →
        walks.open_question w question sheet (λ answer. outcome_with (go answer)) ≡ walks.open_question w question sheet go
    question_opened (OfPath solver limit) sheet go = refl
    question_opened (OfSolution mark) sheet go = refl
    question_opened OfRanges sheet go = refl
    question_opened (OfParametricRun run) sheet go = refl
    question_opened OfPunch sheet go = refl
    question_opened (OfInstall s) sheet go =
        ap (λ (b : Bool). option_or (walks.open_stop w) (option_or (walks.open_if b w) (walks.open_pending w))) (inserted_with (go Installed) w.rest)

    opened_with : (move : StatementMove) → walks.opened w (move_with move) ≡ walks.opened w move
    opened_with (Does outcome) = outcome_opened outcome
    opened_with (MayStop refusals move) = opened_with move
    opened_with (Asks question sheet s go) = question_opened question sheet go

    refuses_with : (move : StatementMove) → walks.refuses_selection (move_with move) ≡ walks.refuses_selection move
    refuses_with (Does outcome) = refl
    refuses_with (MayStop (InSelection problem choice) move) = ap (λ b. not (is_made problem choice) || b) (refuses_with move)
    refuses_with (MayStop (InAnswer question sheet bases) move) = refuses_with move
    refuses_with (Asks question sheet s go) = refl

    -- ---- what is due

    unless_with : (found : Option walks.Found) (turn : walks.WalkTurn) → walks.unless_found found (turn_with turn) ≡ turn_with (walks.unless_found found turn)
    unless_with None turn = refl
    unless_with (Some found) turn = refl

    either_with : (b : Bool) (found : walks.Found) (turn : walks.WalkTurn) →
        (if b then walks.Finds found else turn_with turn) ≡ turn_with (if b then walks.Finds found else turn)
    either_with true found turn = refl
    either_with false found turn = refl

    follows_with : (v : walks.Walker) (outcome : StatementOutcome) → walks.follows v (outcome_with outcome) ≡ turn_with (walks.follows v outcome)
    follows_with v (Goes gain after) = refl
    follows_with v (Ends gain ending) = unless_with (option_or (walks.open_stop v) (walks.open_pending v)) _

    taken_with : (outcome : StatementOutcome) (rest : Option (List ℕ)) → walks.taken w (outcome_with outcome) rest ≡ turn_with (walks.taken w outcome rest)
    taken_with outcome None = refl
    taken_with (Goes gain after) (Some rest) = refl
    taken_with (Ends gain ending) (Some rest) = follows_with (walks.passed rest (length (printed_by gain)) w) (Ends gain ending)

    does_with : (outcome : StatementOutcome) → walks.due C w (Does (outcome_with outcome)) ≡ turn_with (walks.due C w (Does outcome))
    does_with (Goes gain after) = taken_with (Goes gain after) (left_after (gain_text gain) w.rest)
    does_with (Ends gain ending) = taken_with (Ends gain ending) (left_after (gain_text gain) w.rest)

    if_with : (b : Bool) (turn : walks.WalkTurn) (found : walks.Found) →
        (if b then turn_with turn else walks.Finds found) ≡ turn_with (if b then turn else walks.Finds found)
    if_with true turn found = refl
    if_with false turn found = refl

    settled_with : (pending : Option walks.Pending) (objective : ℚ) (turn : walks.WalkTurn) →
        walks.settled C w pending objective (turn_with turn) ≡ turn_with (walks.settled C w pending objective turn)
    settled_with None objective turn = refl
    settled_with (Some pending) objective turn = if_with (walks.settles C pending objective) turn (walks.Wrong pending.rest)

    settling_with : (question : Question) (sheet : Sheet) (answer : AnswerTo question) (turn : walks.WalkTurn) →
        walks.settling C w question sheet answer (turn_with turn) ≡ turn_with (walks.settling C w question sheet answer turn)
    settling_with (OfPath solver limit) sheet answer turn = refl
    settling_with (OfSolution marks.Optimal) sheet answer turn = settled_with w.pending _ turn
    settling_with (OfSolution marks.Infeasible) sheet answer turn = refl
    settling_with (OfSolution marks.Unbounded) sheet answer turn = refl
    settling_with OfRanges sheet answer turn = refl
    settling_with (OfParametricRun run) sheet answer turn = refl
    settling_with OfPunch sheet answer turn = refl
    settling_with (OfInstall s) sheet answer turn = refl

    answered_with : (question : Question) (sheet : Sheet) (go : AnswerTo question → StatementOutcome) (found : Judged (AnswerTo question)) →
        walks.answered C w question sheet (λ answer. outcome_with (go answer)) found ≡ turn_with (walks.answered C w question sheet go found)
    answered_with question sheet go Fails = refl
    answered_with question sheet go Refuses = refl
    answered_with question sheet go (Right answer rest) =
        ap (walks.settling C w question sheet answer)
        (follows_with (record (walks.passed rest 1 w) { pending = walks.noted w question sheet answer }) (go answer))
        ∙ settling_with question sheet answer _

    due_with : (move : StatementMove) → walks.due C w (move_with move) ≡ turn_with (walks.due C w move)
    due_with (Does outcome) = does_with outcome
    due_with (MayStop refusals move) = due_with move
    due_with (Asks question sheet s go) = answered_with question sheet go (judged C question sheet w.rest)

    pub walk_with : (move : StatementMove) → walks.walk_move C w (move_with move) ≡ turn_with (walks.walk_move C w move)
    walk_with move =
        ap₂ walks.unless_found (opened_with move)
        (ap₂ (λ (b : Bool) (turn : walks.WalkTurn). if b then walks.Finds (walks.Unchecked w.rest) else turn) (refuses_with move) (due_with move)
        ∙ either_with (walks.refuses_selection move) (walks.Unchecked w.rest) (walks.due C w move)) ∙
        unless_with (walks.opened w move) _
