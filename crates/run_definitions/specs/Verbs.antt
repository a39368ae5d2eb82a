-- What each verb does. A verb makes its tests in the order in which they stand here.
use Rattle.std.specs.Prelude.{ℕ, min, List, [], ◌∷◌, Option, Some, None, Result, Ok, Err, if◌then◌else◌, option_and_then, length}
use Rattle.exact_values.specs.Rational.{ℚ}
use Rattle.exact_values.specs.Tests.{lt_ℚ}
use Rattle.card_definitions.specs.declared.NumberFault.TheVariants.{Empty, BadCharacter, NoDigit, ExponentRange}
use Rattle.card_definitions.specs.Cards.{Card, live}
use Rattle.problem_definitions.specs.Names.{Name}
use Rattle.problem_definitions.specs.Problem.{Problem, has_free_row, has_group, entry_count}
use Rattle.problem_definitions.specs.Numbering.{by_names}
use Rattle.deck_definitions.specs.declared.DeckFault.{DeckFault}
use Rattle.deck_definitions.specs.declared.DeckFaultKind.{DeckFaultKind}
use Rattle.deck_definitions.specs.declared.DeckFaultKind.TheVariants.{SectionOrder, UnknownSection, BadRowType, DuplicateRow, ColumnSplit, UnknownRow}
use Rattle.deck_definitions.specs.declared.DeckFaultKind.TheVariants.{DuplicateEntry, Number, RangeOnFree, BadBoundType, UnknownColumn, BoundTwice, NoEndata}
use Rattle.deck_definitions.specs.declared.DeckFaultKind.TheVariants.{Marker, EmptyName, TooManyRows, TooManyColumns, TooManyEntries, ExtraField, UnknownAction}
use Rattle.deck_definitions.specs.declared.DeckFaultKind.TheVariants.{NoAnchor, DeleteMissing, ModifyMissing, WordCount, LongName, LongNumber}
use Rattle.deck_definitions.specs.declared.DeckFaultKind.TheVariants.{EntryOnCombination, BadBasisCode, NamedTwice, NoSuchLimit}
use Rattle.deck_definitions.specs.Conversion.{conversion, deck_name}
use Rattle.deck_definitions.specs.Written.{written}
use Rattle.deck_definitions.specs.Decks.{deck_taken}
use Rattle.basis_deck_definitions.specs.Reading.{basis_reading}
use Rattle.basis_deck_definitions.specs.Writing.{basic_columns}
use Rattle.revise_definitions.specs.Revision.{revision}
use Rattle.lp_definitions.specs.LinearProgram.{LinearProgram}
use Rattle.lp_definitions.specs.Basis.{opening_statuses}
use Rattle.control_definitions.specs.declared.NameCell.{NameCell}
use Rattle.control_definitions.specs.declared.NameCell.TheVariants.{Xobj, Xrhs}
use Rattle.control_definitions.specs.Program.{SetupOptions, Verb, Initialz, Title, MoveName, MoveNumber, MoveLimit, Mvadr, Goto, Convert, Setup, Primal, Dual}
use Rattle.control_definitions.specs.Program.{Revise, Ranging, Paraobj, Pararhs, Solution as SolutionVerb, Bcdout, Punch, Insert, Exit}
use Rattle.selection_definitions.specs.declared.SelectionFault.{SelectionFault}
use Rattle.selection_definitions.specs.Choice.{Choice}
use Rattle.selection_definitions.specs.Selection.{selected}
use Rattle.listing_definitions.specs.declared.Mark.{Mark}
use Rattle.listing_definitions.specs.declared.Mark.TheVariants.{Optimal, Infeasible, Unbounded}
use Rattle.listing_definitions.specs.declared.Solver.{Solver}
use Rattle.listing_definitions.specs.declared.Solver.TheVariants.{Primal as ByPrimal, Dual as ByDual}
use Rattle.listing_definitions.specs.declared.VerbFault.{VerbFault}
use Rattle.listing_definitions.specs.declared.VerbFault.TheVariants.{DeckNotFound, NoProblem, NoSetup, NotSolved, NotOptimal, NoChangeRow, NoChangeSet}
use Rattle.listing_definitions.specs.declared.VerbFault.TheVariants.{NoParmax, ParmaxBelow, NoObjective, ObjectiveNotFree, NoRhsSet, NoRangeSet, NoBoundSet}
use Rattle.listing_definitions.specs.Report.{PathVerdict, OptimalAt, CrossedAt, InfeasibleBy, UnboundedBy, Report, Titled, Filed, Converted, Revised, SetUp}
use Rattle.listing_definitions.specs.Report.{BcdOut, BasisOut, Inserted, Solved, Solution, Ranges, Parametric, ChainEnd, EndsAt, UnboundedPast, InfeasiblePast}
use Rattle.listing_definitions.specs.Ending.{Ending, Ended, VerbStop, SingularStop, PriceStop, DeckStop, LimitStop}
use Rattle.question_definitions.specs.Answers.{Basis, Sheet, Changing, Row, Set, changing_name, parametric_solver, ParametricRun, Question, AnswerTo, OfPath}
use Rattle.question_definitions.specs.Answers.{OfSolution, OfRanges, OfParametricRun, OfPunch, OfInstall, PathEnd, Reached, PathLimit, PricesWrong}
use Rattle.question_definitions.specs.Answers.{ParametricRunEnd, Opening, Chained, ParametricRunLimit, InstallEnd, Installed, DependsBy}
use Rattle.control_definitions.specs.Cells.{default_cells, move_name, move_number, move_limit, steps_allowed, set_demand}
use Rattle.run_definitions.specs.State.{Present, present_basis, path_of, gone_through, State, problem_of, choice_of}
use Rattle.run_definitions.specs.Moves.{Nothing, Prints, Punches, StatementOutcome, Ends, next, jump, stops, InSelection, InAnswer, StatementMove, Does}
use Rattle.run_definitions.specs.Moves.{MayStop, Asks, or_fault}

-- ---- decks

-- the number of a deck fault
abbrev pub deck_fault_number : DeckFaultKind → ℕ
deck_fault_number SectionOrder = 1
deck_fault_number UnknownSection = 2
deck_fault_number BadRowType = 3
deck_fault_number DuplicateRow = 4
deck_fault_number ColumnSplit = 5
deck_fault_number UnknownRow = 6
deck_fault_number DuplicateEntry = 7
deck_fault_number (Number fault column) = 8
deck_fault_number RangeOnFree = 9
deck_fault_number BadBoundType = 10
deck_fault_number UnknownColumn = 11
deck_fault_number BoundTwice = 12
deck_fault_number NoEndata = 13
deck_fault_number Marker = 14
deck_fault_number EmptyName = 15
deck_fault_number TooManyRows = 16
deck_fault_number TooManyColumns = 17
deck_fault_number TooManyEntries = 18
deck_fault_number ExtraField = 20
deck_fault_number UnknownAction = 21
deck_fault_number NoAnchor = 22
deck_fault_number DeleteMissing = 23
deck_fault_number ModifyMissing = 24
deck_fault_number WordCount = 25
deck_fault_number LongName = 26
deck_fault_number LongNumber = 27
deck_fault_number EntryOnCombination = 28
deck_fault_number BadBasisCode = 30
deck_fault_number NamedTwice = 31
deck_fault_number NoSuchLimit = 32

-- the number of a number's fault, and the column of a bad character
abbrev pub number_fault_of : DeckFaultKind → Option ℕ
number_fault_of (Number Empty column) = Some 1
number_fault_of (Number (BadCharacter place) column) = Some 2
number_fault_of (Number NoDigit column) = Some 3
number_fault_of (Number ExponentRange column) = Some 4
number_fault_of _ = None

abbrev pub column_of : DeckFaultKind → Option ℕ
column_of (Number (BadCharacter place) column) = Some column
column_of _ = None

abbrev pub deck_stop : DeckFault → Ending
deck_stop fault =
    DeckStop (record { fault = deck_fault_number fault.kind; card = fault.card; number = number_fault_of fault.kind; column = column_of fault.kind })

-- a fault of a deck ends the run, or else it is done what is done with what the deck gives
abbrev pub or_deck_fault : {X : Type 0} → Result X DeckFault → (X → StatementMove) → StatementMove
or_deck_fault (Err fault) go = Does (stops (deck_stop fault))
or_deck_fault (Ok given) go = go given

abbrev pub size_of : Problem ℕ → Filed
size_of problem = record { name = problem.name; rows = length problem.rows; columns = length problem.columns; entries = entry_count problem }

-- the problem is filed, these decks are left, and setup, basis and mark are cleared
abbrev pub files : (Filed → Report) → List (List Card) → State → Problem ℕ → StatementMove
files report decks state problem =
    Does (next (Prints (report (size_of problem))) (record state { file = problem ∷ state.file; decks = decks; setup = None; mark = None }))

-- CONVERT takes a deck, and files what it describes under XPBNAME if moved, else under the deck's name.
abbrev pub converts : ℕ → State → StatementMove
converts card state =
    or_fault card DeckNotFound (deck_taken state.cells.xdata state.decks) (λ taken.
    or_deck_fault (conversion taken.0 state.cells.xpbname) (files Converted taken.1 state))

-- REVISE gets the old problem, named by XOLDNAME if moved, else filed last; it takes a deck, and files the revised problem as CONVERT
-- does.
abbrev pub revises : ℕ → State → StatementMove
revises card state =
    or_fault card NoProblem (problem_of state.cells.xoldname state.file) (λ old.
    or_fault card DeckNotFound (deck_taken state.cells.xdata state.decks) (λ taken.
    or_deck_fault (revision old taken.0 state.cells.xpbname) (files Revised taken.1 state)))

-- a printed count of cards goes no further than this
abbrev pub max_counted : ℕ
max_counted = 4294967295

-- BCDOUT gets the problem named by XPBNAME if moved, else filed last; it punches it, and prints the number of cards.
abbrev pub punches : ℕ → State → StatementMove
punches card state =
    or_fault card NoProblem (problem_of state.cells.xpbname state.file) (λ problem.
    let cards = written (by_names problem) in
    Does (next (Punches (BcdOut problem.name (min (length cards) max_counted)) cards) state))

-- ---- selections

-- the refusals of a selection are verb faults
abbrev pub selection_verb_fault : SelectionFault → VerbFault
selection_verb_fault SelectionFault.NoObjective = NoObjective
selection_verb_fault SelectionFault.ObjectiveNotFree = ObjectiveNotFree
selection_verb_fault SelectionFault.NoRhsSet = NoRhsSet
selection_verb_fault SelectionFault.NoRangeSet = NoRangeSet
selection_verb_fault SelectionFault.NoBoundSet = NoBoundSet

abbrev pub or_selection_fault : ℕ → Result LinearProgram SelectionFault → (LinearProgram → StatementMove) → StatementMove
or_selection_fault card (Err fault) go = Does (stops (VerbStop (record { fault = selection_verb_fault fault; card = card })))
or_selection_fault card (Ok lp) go = go lp

-- a selection: its faults come first, and then one of its operations may be refused
abbrev pub selects : ℕ → Problem ℕ → Choice → (LinearProgram → StatementMove) → StatementMove
selects card problem choice go = or_selection_fault card (selected problem choice) (λ lp. MayStop (InSelection problem choice) (go lp))

-- SETUP gets the problem named by XPBNAME if moved, else filed last; it selects, keeps problem and options, makes the opening basis,
-- and clears the mark.
abbrev pub sets_up : ℕ → SetupOptions → State → StatementMove
sets_up card options state =
    or_fault card NoProblem (problem_of state.cells.xpbname state.file) (λ problem.
    selects card problem (choice_of state.cells options) (λ lp.
    Does (next (Prints (SetUp problem.name options.sense))
    (record state { setup = Some (record { problem = problem; options = options; opening = opening_statuses lp; steps = [] }); mark = None }))))

-- the present problem is what the present cells select of the setup's problem with its options
abbrev pub selects_present : ℕ → State → Present → (LinearProgram → StatementMove) → StatementMove
selects_present card state present go = selects card present.problem (choice_of state.cells present.options) go

-- ---- verdicts

abbrev pub mark_of : PathVerdict → Mark
mark_of (OptimalAt steps objective) = Optimal
mark_of (CrossedAt number) = Infeasible
mark_of (InfeasibleBy steps lines) = Infeasible
mark_of (UnboundedBy steps objective lines) = Unbounded

-- a verdict that isn't optimal goes to the position of its demand, or ends the run with its code where that isn't set
abbrev pub demanded : Option ℕ → ℕ → Report → State → StatementOutcome
demanded (Some position) code report state = jump (Prints report) position state
demanded None code report state = Ends (Prints report) (Ended code)

abbrev pub by_verdict : Mark → Report → State → StatementOutcome
by_verdict Optimal report state = next (Prints report) state
by_verdict Infeasible report state = demanded state.cells.xdonfs 1 report state
by_verdict Unbounded report state = demanded state.cells.xdounb 2 report state

abbrev pub limit_stop : ℕ → State → StatementOutcome
limit_stop card state = stops (LimitStop (record { limit = steps_allowed state.cells; card = card }))

-- ---- parametric runs

-- XCHROW is to name an N row, and XCHCOL a right-hand side set
abbrev pub change_row : Problem ℕ → Name → Option Changing
change_row problem name = if has_free_row problem.rows name then Some (Row name) else None

abbrev pub change_set : Problem ℕ → Name → Option Changing
change_set problem name = if has_group problem.rhs name then Some (Set name) else None

-- the last value, where it isn't less than the first
abbrev pub not_less : ℚ → ℚ → Option ℚ
not_less from to = if lt_ℚ to from then None else Some to

-- the value at which the last interval ends
abbrev pub last_value : ChainEnd → ℚ
last_value (EndsAt value) = value
last_value (UnboundedPast value lines) = value
last_value (InfeasiblePast value lines) = value

-- moving the objective or the right-hand side clears the mark
abbrev pub mark_after : NameCell → Option Mark → Option Mark
mark_after Xobj mark = None
mark_after Xrhs mark = None
mark_after _ mark = mark

-- a question at the present basis: the statement may stop with an overflow of its own formulas, or goes on by the answer
abbrev pub asks : (question : Question) → Sheet → Present → (AnswerTo question → StatementOutcome) → StatementMove
asks question sheet present go = MayStop (InAnswer question sheet (path_of present)) (Asks question sheet (present_basis present) go)

-- the basis where the path ends becomes the present one, and the verdict is printed and leaves a mark
abbrev pub after_path : Solver → ℕ → Present → State → PathEnd → StatementOutcome
after_path solver card present state (Reached bases verdict check) =
    by_verdict (mark_of verdict) (Solved solver verdict check) (record state { setup = Some (gone_through bases present); mark = Some (mark_of verdict) })
after_path solver card present state PathLimit = limit_stop card state
after_path solver card present state (PricesWrong j) = stops (PriceStop (record { card = card; variable = j }))

-- A solving verb needs a setup; it selects, and follows its path from the present basis, within its limit if it has one.
abbrev pub solves : Solver → Option ℕ → ℕ → State → StatementMove
solves solver limit card state =
    or_fault card NoSetup state.setup (λ present.
    selects_present card state present (λ lp.
    let sheet : Sheet = record { problem = present.problem; lp = lp } in
    asks (OfPath solver limit) sheet present (after_path solver card present state)))

-- SOLUTION and RANGE speak of the linear program that PRIMAL solved: since then the mark stands, so that the present cells select
-- it again, without a fault.
abbrev pub shows_present : ℕ → State → Present → (question : Question) → (AnswerTo question → Report) → StatementMove
shows_present card state present question report =
    or_selection_fault card (selected present.problem (choice_of state.cells present.options)) (λ lp.
    let sheet : Sheet = record { problem = present.problem; lp = lp } in
    asks question sheet present (λ lines. next (Prints (report lines)) state))

-- SOLUTION needs a setup and a mark; it prints the basis's point and prices.
abbrev pub shows : ℕ → State → StatementMove
shows card state =
    or_fault card NoSetup state.setup (λ present.
    or_fault card NotSolved state.mark (λ mark.
    shows_present card state present (OfSolution mark) (Solution mark)))

abbrev pub if_optimal : Mark → Option Mark
if_optimal Optimal = Some Optimal
if_optimal Infeasible = None
if_optimal Unbounded = None

-- RANGE needs a setup, a mark, and the mark OPTIMAL; it prints the intervals.
abbrev pub ranges : ℕ → State → StatementMove
ranges card state =
    or_fault card NoSetup state.setup (λ present.
    or_fault card NotSolved state.mark (λ mark.
    or_fault card NotOptimal (if_optimal mark) (λ optimal.
    shows_present card state present OfRanges Ranges)))

-- A run along the parameter leaves XPARAM at its last end, and one whose opening isn't optimal leaves it where it was and goes on as
-- PRIMAL does. The basis reached last becomes the present one, and neither leaves a mark.
abbrev pub after_parametric_run : ℕ → ParametricRun → Present → State → ParametricRunEnd → StatementOutcome
after_parametric_run card parametric_run present state (Opening bases verdict check) =
    by_verdict (mark_of verdict) (Solved (parametric_solver parametric_run.changing) verdict check)
    (record state { setup = Some (gone_through bases present); mark = None })
after_parametric_run card parametric_run present state (Chained bases intervals end) =
    next (Prints
    (Parametric (parametric_solver parametric_run.changing)
    (record { from = parametric_run.from; change = changing_name parametric_run.changing; intervals = intervals; end = end })))
    (record state { setup = Some (gone_through bases present); mark = None; cells = record (state.cells) { xparam = last_value end } })
after_parametric_run card parametric_run present state ParametricRunLimit = limit_stop card state

-- PARAOBJ and PARARHS need a setup; they select; and they need what changes, a last value, and one that isn't less than the first.
abbrev pub parametric_runs : ℕ → VerbFault → (Problem ℕ → Name → Option Changing) → Option Name → State → StatementMove
parametric_runs card fault change moved state =
    or_fault card NoSetup state.setup (λ present.
    selects_present card state present (λ lp.
    or_fault card fault (option_and_then (change present.problem) moved) (λ changing.
    or_fault card NoParmax state.cells.xparmax (λ last.
    or_fault card ParmaxBelow (not_less state.cells.xparam last) (λ to.
    let sheet : Sheet = record { problem = present.problem; lp = lp } in
    let parametric_run : ParametricRun = record { changing = changing; from = state.cells.xparam; to = to; limit = steps_allowed state.cells } in
    asks (OfParametricRun parametric_run) sheet present (after_parametric_run card parametric_run present state))))))

-- ---- bases that go out and come in

-- PUNCH needs a setup; it selects, punches the deck of the present basis, and prints the number of its cards.
abbrev pub punches_basis : ℕ → State → StatementMove
punches_basis card state =
    or_fault card NoSetup state.setup (λ present.
    selects_present card state present (λ lp.
    let sheet : Sheet = record { problem = present.problem; lp = lp } in
    Asks OfPunch sheet (present_basis present) (λ cards.
    next (Punches (BasisOut present.problem.name (min (length cards) max_counted)) cards) state)))

-- the basis that was read becomes the present one, with which the path in hand begins anew, and the mark is cleared; a singular one ends
-- the run
abbrev pub after_install : ℕ → LinearProgram → Basis → List Card × List (List Card) → Present → State → InstallEnd → StatementOutcome
after_install card lp s taken present state Installed =
    next (Prints (Inserted (deck_name (live taken.0)) (length (basic_columns lp s))))
    (record state { decks = taken.1; setup = Some (record present { opening = s; steps = [] }); mark = None })
after_install card lp s taken present state (DependsBy lines) = stops (SingularStop (record { card = card; lines = lines }))

-- INSERT needs a setup; it selects, takes a deck, and reads the basis that the deck stands for. That is one if its columns don't depend
-- on each other.
abbrev pub inserts : ℕ → State → StatementMove
inserts card state =
    or_fault card NoSetup state.setup (λ present.
    selects_present card state present (λ lp.
    or_fault card DeckNotFound (deck_taken state.cells.xdata state.decks) (λ taken.
    or_deck_fault (basis_reading present.problem lp taken.0) (λ s.
    let sheet : Sheet = record { problem = present.problem; lp = lp } in
    asks (OfInstall s) sheet present (after_install card lp s taken present state)))))

-- What the statement of a verb on a card does. PRIMAL alone may have no limit on its steps.
unfoldable pub verb_move : Verb ℕ → ℕ → State → StatementMove
verb_move Initialz card state = Does (next Nothing (record state { cells = default_cells; mark = None }))
verb_move (Title text) card state = Does (next (Prints (Titled text)) state)
verb_move (MoveName cell name) card state = Does (next Nothing (record state { cells = move_name cell name state.cells; mark = mark_after cell state.mark }))
verb_move (MoveNumber cell value) card state = Does (next Nothing (record state { cells = move_number cell value state.cells }))
verb_move (MoveLimit limit) card state = Does (next Nothing (record state { cells = move_limit limit state.cells }))
verb_move (Mvadr demand position) card state = Does (next Nothing (record state { cells = set_demand demand position state.cells }))
verb_move (Goto position) card state = Does (jump Nothing position state)
verb_move Convert card state = converts card state
verb_move Revise card state = revises card state
verb_move (Setup options) card state = sets_up card options state
verb_move Primal card state = solves ByPrimal state.cells.xiterlim card state
verb_move Dual card state = solves ByDual (Some (steps_allowed state.cells)) card state
verb_move SolutionVerb card state = shows card state
verb_move Ranging card state = ranges card state
verb_move Paraobj card state = parametric_runs card NoChangeRow change_row state.cells.xchrow state
verb_move Pararhs card state = parametric_runs card NoChangeSet change_set state.cells.xchcol state
verb_move Bcdout card state = punches card state
verb_move Punch card state = punches_basis card state
verb_move Insert card state = inserts card state
verb_move Exit card state = Does (stops (Ended 0))
