-- Each statement that goes on is counted as executed once, and so the walk along a listing comes to its limit.
--     KeepsCount n move           where a statement goes on, so many are counted as executed
--     CountsTurn n turn           where the walk goes on, so many are counted as executed
--     HasFound turn               a turn finds something
use Rattle.std.proofs.Common.{◌≡◌, ℕ, ◌+◌, ◌-◌, ◌≤◌, Bool, true, false, List, length, Option, Some, None, Result, Ok, Err, if◌then◌else◌, refl}
use Rattle.std.specs.Prelude.{option_and_then, nat_lt, slice_get}
use Rattle.std.specs.Option.{option_or}
use Rattle.std.proofs.lemmas.Bool.{le-ltb}
use Rattle.exact_values.specs.Rational.{ℚ}
use Rattle.lp_definitions.specs.LinearProgram.{LinearProgram}
use Rattle.card_definitions.specs.Cards.{Card}
use Rattle.problem_definitions.specs.Names.{Name}
use Rattle.problem_definitions.specs.Problem.{Problem}
use Rattle.deck_definitions.specs.declared.DeckFault.{DeckFault}
use Rattle.deck_definitions.specs.Conversion.{conversion}
use Rattle.deck_definitions.specs.Decks.{deck_taken}
use Rattle.basis_deck_definitions.specs.Reading.{basis_reading}
use Rattle.revise_definitions.specs.Revision.{revision}
use Rattle.control_definitions.specs.Cells.{steps_allowed}
use Rattle.control_definitions.specs.Program.{Statement, Program, Verb, Initialz, Title, MoveName, MoveNumber, MoveLimit, Mvadr, Goto, Convert, Setup, Primal}
use Rattle.control_definitions.specs.Program.{Dual, Revise, Ranging, Paraobj, Pararhs, Solution, Bcdout, Punch, Insert, Exit}
use Rattle.selection_definitions.specs.declared.SelectionFault.{SelectionFault}
use Rattle.selection_definitions.specs.Choice.{Choice}
use Rattle.selection_definitions.specs.Selection.{selected}
use Rattle.listing_definitions.specs.declared.Mark.{Mark}
use Rattle.listing_definitions.specs.declared.Mark.TheVariants.{Optimal, Infeasible, Unbounded}
use Rattle.listing_definitions.specs.declared.Solver.{Solver}
use Rattle.listing_definitions.specs.declared.Solver.TheVariants.{Primal as ByPrimal, Dual as ByDual}
use Rattle.listing_definitions.specs.declared.VerbFault.{VerbFault}
use Rattle.listing_definitions.specs.declared.VerbFault.TheVariants.{DeckNotFound, NoProblem, NoSetup, NotSolved, NotOptimal, NoChangeRow, NoChangeSet}
use Rattle.listing_definitions.specs.declared.VerbFault.TheVariants.{NoParmax, ParmaxBelow}
use Rattle.listing_definitions.specs.Report.{Report, Solved}
use Rattle.listing_definitions.specs.Report as reports
use Rattle.listing_definitions.specs.Ending.{Ending, Ended, StatementLimit}
use Rattle.listing_definitions.specs.Listing.{ending_text}
use Rattle.question_definitions.specs.Answers.{Basis, Sheet, Changing, parametric_solver, ParametricRun, Question, OfPath, OfSolution, OfRanges}
use Rattle.question_definitions.specs.Answers.{OfParametricRun, OfPunch, OfInstall, AnswerTo, PathEnd, Reached, PathLimit, PricesWrong, ParametricRunEnd}
use Rattle.question_definitions.specs.Answers.{Opening, Chained, ParametricRunLimit, InstallEnd, Installed, DependsBy}
use Rattle.run_definitions.specs.State.{Present, gone_through, State, problem_of, choice_of}
use Rattle.run_definitions.specs.Moves.{printed_by, gain_text, gain_of, StatementOutcome, Goes, Ends, InSelection, StatementMove, Does, MayStop, Asks, or_fault}
use Rattle.run_definitions.specs.Verbs.{or_deck_fault, or_selection_fault, selects, mark_of, demanded, by_verdict, change_row, change_set, not_less, after_path}
use Rattle.run_definitions.specs.Verbs.{solves, shows_present, if_optimal, after_parametric_run, parametric_runs, after_install, verb_move}
use Rattle.run_definitions.specs.Run.{max_executed, counted}
use Rattle.walk_definitions.specs.Checkers.{Checker}
use Rattle.walk_definitions.specs.Words.{left_after}
use Rattle.walk_definitions.specs.Tests.{point_of}
use Rattle.walk_definitions.specs.Reading.{Judged, Right, Fails, Refuses, judged}
use Rattle.walk_definitions.specs.Walker.{Pending, Walker, Found, Wrong, Unchecked, WalkTurn, Walks, Finds, open_stop, open_pending, opened, refuses_selection}
use Rattle.walk_definitions.specs.Walker.{ended, unless_found, closes, follows, passed, taken, settles, settled, noted, settling, answered, due, walk_move}
use Rattle.walk_definitions.specs.Walker.{walk_statement, turn}

-- the state after has so many statements executed
abbrev pub Counts : ℕ → StatementOutcome → Type 0
Counts n (Goes gain after) = after.executed ≡ n
Counts n (Ends gain ending) = Unit {0}

-- so has the state after each outcome of a move
abbrev pub KeepsCount : ℕ → StatementMove → Type 0
KeepsCount n (Does outcome) = Counts n outcome
KeepsCount n (MayStop refusals move) = KeepsCount n move
KeepsCount n (Asks question sheet s go) = (answer : AnswerTo question) → Counts n (go answer)

with_value : {X : Type 0} (n card : ℕ) (fault : VerbFault) (o : Option X) (go : X → StatementMove) → ((x : X) → KeepsCount n (go x)) →
    KeepsCount n (or_fault card fault o go)
with_value n card fault None go keeps = tt
with_value n card fault (Some x) go keeps = keeps x

with_deck : {X : Type 0} (n : ℕ) (r : Result X DeckFault) (go : X → StatementMove) → ((x : X) → KeepsCount n (go x)) → KeepsCount n (or_deck_fault r go)
with_deck n (Err fault) go keeps = tt
with_deck n (Ok x) go keeps = keeps x

with_program : (n card : ℕ) (r : Result LinearProgram SelectionFault) (go : LinearProgram → StatementMove) → ((lp : LinearProgram) → KeepsCount n (go lp)) →
    KeepsCount n (or_selection_fault card r go)
with_program n card (Err fault) go keeps = tt
with_program n card (Ok lp) go keeps = keeps lp

with_selection : (n card : ℕ) (problem : Problem ℕ) (choice : Choice) (go : LinearProgram → StatementMove) → ((lp : LinearProgram) → KeepsCount n (go lp)) →
    KeepsCount n (selects card problem choice go)
with_selection n card problem choice go keeps = with_program n card (selected problem choice) (λ lp. MayStop (InSelection problem choice) (go lp)) keeps

demanded_counts : (position : Option ℕ) (code : ℕ) (report : Report) (state : State) → Counts state.executed (demanded position code report state)
demanded_counts (Some position) code report state = refl
demanded_counts None code report state = tt

verdict_counts : (mark : Mark) (report : Report) (state : State) → Counts state.executed (by_verdict mark report state)
verdict_counts Optimal report state = refl
verdict_counts Infeasible report state = demanded_counts state.cells.xdonfs 1 report state
verdict_counts Unbounded report state = demanded_counts state.cells.xdounb 2 report state

-- ---- answers

path_counts : (solver : Solver) (card : ℕ) (present : Present) (state : State) (end : PathEnd) →
    Counts state.executed (after_path solver card present state end)
path_counts solver card present state (Reached bases verdict check) =
    verdict_counts (mark_of verdict) (Solved solver verdict check) (record state { setup = Some (gone_through bases present); mark = Some (mark_of verdict) })
path_counts solver card present state PathLimit = tt
path_counts solver card present state (PricesWrong j) = tt

parametric_run_counts : (card : ℕ) (parametric_run : ParametricRun) (present : Present) (state : State) (end : ParametricRunEnd) →
    Counts state.executed (after_parametric_run card parametric_run present state end)
parametric_run_counts card parametric_run present state (Opening bases verdict check) =
    verdict_counts (mark_of verdict) (Solved (parametric_solver parametric_run.changing) verdict check)
    (record state { setup = Some (gone_through bases present); mark = None })
parametric_run_counts card parametric_run present state (Chained bases intervals end) = refl
parametric_run_counts card parametric_run present state ParametricRunLimit = tt

install_counts : (card : ℕ) (lp : LinearProgram) (s : Basis) (taken : List Card × List (List Card)) (present : Present) (state : State) (end : InstallEnd) →
    Counts state.executed (after_install card lp s taken present state end)
install_counts card lp s taken present state Installed = refl
install_counts card lp s taken present state (DependsBy lines) = tt

-- ---- verbs

solves_counts : (solver : Solver) (limit : Option ℕ) (card : ℕ) (state : State) → KeepsCount state.executed (solves solver limit card state)
solves_counts solver limit card state =
    with_value state.executed card NoSetup state.setup _ (λ present.
    with_selection state.executed card present.problem (choice_of state.cells present.options) _ (λ lp. path_counts solver card present state))

present_counts : (card : ℕ) (state : State) (present : Present) (question : Question) (report : AnswerTo question → Report) →
    KeepsCount state.executed (shows_present card state present question report)
present_counts card state present question report =
    with_program state.executed card (selected present.problem (choice_of state.cells present.options)) _ (λ lp answer. refl)

parametric_runs_count : (card : ℕ) (fault : VerbFault) (change : Problem ℕ → Name → Option Changing) (moved : Option Name) (state : State) →
    KeepsCount state.executed (parametric_runs card fault change moved state)
parametric_runs_count card fault change moved state =
    with_value state.executed card NoSetup state.setup _ (λ present.
    with_selection state.executed card present.problem (choice_of state.cells present.options) _ (λ lp.
    with_value state.executed card fault (option_and_then (change present.problem) moved) _ (λ changing.
    with_value state.executed card NoParmax state.cells.xparmax _ (λ last.
    with_value state.executed card ParmaxBelow (not_less state.cells.xparam last) _ (λ to.
    parametric_run_counts card (record { changing = changing; from = state.cells.xparam; to = to; limit = steps_allowed state.cells }) present state)))))

verb_counts : (verb : Verb ℕ) (card : ℕ) (state : State) → KeepsCount state.executed (verb_move verb card state)
unfolding verb_move
verb_counts Initialz card state = refl
verb_counts (Title text) card state = refl
verb_counts (MoveName cell name) card state = refl
verb_counts (MoveNumber cell value) card state = refl
verb_counts (MoveLimit limit) card state = refl
verb_counts (Mvadr demand position) card state = refl
verb_counts (Goto position) card state = refl
verb_counts Convert card state =
    with_value state.executed card DeckNotFound (deck_taken state.cells.xdata state.decks) _
    (λ taken. with_deck state.executed (conversion taken.0 state.cells.xpbname) _ (λ problem. refl))
verb_counts Revise card state =
    with_value state.executed card NoProblem (problem_of state.cells.xoldname state.file) _ (λ old.
    with_value state.executed card DeckNotFound (deck_taken state.cells.xdata state.decks) _ (λ taken.
    with_deck state.executed (revision old taken.0 state.cells.xpbname) _ (λ problem. refl)))
verb_counts (Setup options) card state =
    with_value state.executed card NoProblem (problem_of state.cells.xpbname state.file) _
    (λ problem. with_selection state.executed card problem (choice_of state.cells options) _ (λ lp. refl))
verb_counts Primal card state = solves_counts ByPrimal state.cells.xiterlim card state
verb_counts Dual card state = solves_counts ByDual (Some (steps_allowed state.cells)) card state
verb_counts Solution card state =
    with_value state.executed card NoSetup state.setup _ (λ present.
    with_value state.executed card NotSolved state.mark _ (λ mark. present_counts card state present (OfSolution mark) (reports.Solution mark)))
verb_counts Ranging card state =
    with_value state.executed card NoSetup state.setup _ (λ present.
    with_value state.executed card NotSolved state.mark _ (λ mark.
    with_value state.executed card NotOptimal (if_optimal mark) _ (λ optimal. present_counts card state present OfRanges reports.Ranges)))
verb_counts Paraobj card state = parametric_runs_count card NoChangeRow change_row state.cells.xchrow state
verb_counts Pararhs card state = parametric_runs_count card NoChangeSet change_set state.cells.xchcol state
verb_counts Bcdout card state = with_value state.executed card NoProblem (problem_of state.cells.xpbname state.file) _ (λ problem. refl)
verb_counts Punch card state =
    with_value state.executed card NoSetup state.setup _ (λ present.
    with_selection state.executed card present.problem (choice_of state.cells present.options) _ (λ lp cards. refl))
verb_counts Insert card state =
    with_value state.executed card NoSetup state.setup _ (λ present.
    with_selection state.executed card present.problem (choice_of state.cells present.options) _ (λ lp.
    with_value state.executed card DeckNotFound (deck_taken state.cells.xdata state.decks) _ (λ taken.
    with_deck state.executed (basis_reading present.problem lp taken.0) _ (λ s. install_counts card lp s taken present state))))
verb_counts Exit card state = tt

-- ---- turns

-- so has the state to which a turn walks
abbrev pub CountsTurn : ℕ → WalkTurn → Type 0
CountsTurn n (Walks w) = w.state.executed ≡ n
CountsTurn n (Finds found) = Unit {0}

unless_counts : (n : ℕ) (o : Option Found) (turn : WalkTurn) → CountsTurn n turn → CountsTurn n (unless_found o turn)
unless_counts n None turn counts = counts
unless_counts n (Some found) turn counts = tt

closes_counts : (n : ℕ) (w : Walker) (ending : Ending) → CountsTurn n (closes w ending)
closes_counts n w ending = unless_counts n (option_or (open_stop w) (open_pending w)) _ tt

follows_counts : (n : ℕ) (w : Walker) (outcome : StatementOutcome) → Counts n outcome → CountsTurn n (follows w outcome)
follows_counts n w (Goes gain after) counts = counts
follows_counts n w (Ends gain ending) counts = closes_counts n w ending

taken_counts : (n : ℕ) (w : Walker) (outcome : StatementOutcome) (o : Option (List ℕ)) → Counts n outcome → CountsTurn n (taken w outcome o)
taken_counts n w outcome None counts = tt
taken_counts n w outcome (Some rest) counts = follows_counts n (passed rest (length (printed_by (gain_of outcome))) w) outcome counts

settled_counts : (C : Checker) (n : ℕ) (w : Walker) (o : Option Pending) (objective : ℚ) (turn : WalkTurn) → CountsTurn n turn →
    CountsTurn n (settled C w o objective turn)
settled_counts C n w None objective turn counts = counts
settled_counts C n w (Some pending) objective turn counts = by (settles C pending objective)
  where
    by : (b : Bool) → CountsTurn n (if b then turn else Finds (Wrong pending.rest))
    by true = counts
    by false = tt

settling_counts : (C : Checker) (n : ℕ) (w : Walker) (question : Question) (sheet : Sheet) (answer : AnswerTo question) (turn : WalkTurn) → CountsTurn n turn →
    CountsTurn n (settling C w question sheet answer turn)
settling_counts C n w (OfSolution Optimal) sheet lines turn counts = settled_counts C n w w.pending (point_of sheet lines sheet.lp.objective) turn counts
settling_counts C n w (OfSolution Infeasible) sheet lines turn counts = counts
settling_counts C n w (OfSolution Unbounded) sheet lines turn counts = counts
settling_counts C n w (OfPath solver limit) sheet answer turn counts = counts
settling_counts C n w OfRanges sheet answer turn counts = counts
settling_counts C n w (OfParametricRun parametric_run) sheet answer turn counts = counts
settling_counts C n w OfPunch sheet answer turn counts = counts
settling_counts C n w (OfInstall basis) sheet answer turn counts = counts

answered_counts : (C : Checker) (n : ℕ) (w : Walker) (question : Question) (sheet : Sheet) (go : AnswerTo question → StatementOutcome)
    (j : Judged (AnswerTo question)) → ((answer : AnswerTo question) → Counts n (go answer)) → CountsTurn n (answered C w question sheet go j)
answered_counts C n w question sheet go Fails counts = tt
answered_counts C n w question sheet go Refuses counts = tt
answered_counts C n w question sheet go (Right answer rest) counts =
    settling_counts C n w question sheet answer _
    (follows_counts n (record (passed rest 1 w) { pending = noted w question sheet answer }) (go answer) (counts answer))

due_counts : (C : Checker) (n : ℕ) (w : Walker) (move : StatementMove) → KeepsCount n move → CountsTurn n (due C w move)
due_counts C n w (Does outcome) counts = taken_counts n w outcome (left_after (gain_text (gain_of outcome)) w.rest) counts
due_counts C n w (MayStop refusals move) counts = due_counts C n w move counts
due_counts C n w (Asks question sheet s go) counts = answered_counts C n w question sheet go (judged C question sheet w.rest) counts

move_counts : (C : Checker) (n : ℕ) (w : Walker) (move : StatementMove) → KeepsCount n move → CountsTurn n (walk_move C w move)
move_counts C n w move counts = unless_counts n (opened w move) _ (by (refuses_selection move))
  where
    by : (b : Bool) → CountsTurn n (if b then Finds (Unchecked w.rest) else due C w move)
    by true = tt
    by false = due_counts C n w move counts

statement_counts : (C : Checker) (w : Walker) (o : Option (Statement ℕ)) → CountsTurn (w.state.executed + 1) (walk_statement C w o)
statement_counts C w None = closes_counts (w.state.executed + 1) w (Ended 0)
statement_counts C w (Some statement) =
    move_counts C (w.state.executed + 1) w (verb_move statement.verb statement.card (counted w.state))
    (verb_counts statement.verb statement.card (counted w.state))

-- one more is counted
pub turn_counts : (C : Checker) (program : Program) (w : Walker) → CountsTurn (w.state.executed + 1) (turn C program w)
unfolding turn
turn_counts C program w = by (nat_lt (length program.statements) w.state.position) (nat_lt w.state.executed max_executed)
  where
    by : (a b : Bool) →
        CountsTurn (w.state.executed + 1)
        (if a then closes w (Ended 0) else if b then walk_statement C w (slice_get program.statements (w.state.position - 1)) else closes w StatementLimit)
    by true b = closes_counts (w.state.executed + 1) w (Ended 0)
    by false true = statement_counts C w (slice_get program.statements (w.state.position - 1))
    by false false = closes_counts (w.state.executed + 1) w StatementLimit

-- ---- what closes

-- a turn finds something
pub record HasFound (turn : WalkTurn) : Type 0 where
  pub found : Found
  pub is : turn ≡ Finds found

unless_finds : (o : Option Found) (found : Found) → HasFound (unless_found o (Finds found))
unless_finds None found = record { found = found; is = refl }
unless_finds (Some other) found = record { found = other; is = refl }

-- an end that is due finds something
pub closes_finds : (w : Walker) (ending : Ending) → HasFound (closes w ending)
closes_finds w ending = unless_finds (option_or (open_stop w) (open_pending w)) (ended w (left_after (ending_text ending) w.rest))

-- so does each turn at the limit of statements
pub limit_finds : (C : Checker) (program : Program) (w : Walker) → max_executed ≤ w.state.executed → HasFound (turn C program w)
unfolding turn
limit_finds C program w at_limit =
    by (nat_lt (length program.statements) w.state.position) (nat_lt w.state.executed max_executed) (le-ltb w.state.executed max_executed at_limit)
  where
    by : (a b : Bool) → b ≡ false →
        HasFound (if a then closes w (Ended 0) else if b then walk_statement C w
        (slice_get program.statements (w.state.position - 1)) else closes w StatementLimit)
    by true b is = closes_finds w (Ended 0)
    by false true is = absurd (cc is)
    by false false is = closes_finds w StatementLimit
