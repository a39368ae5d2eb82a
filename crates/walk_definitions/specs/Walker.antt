-- The walk along a control program: what a statement comes to, where its report is taken from a listing.
--     Walker                       the run's state, what is pending, and what is left of the listing
--     Found                        how the walk ends
--     opened w move                what can't be attested, where a statement is executed
--     refuses_selection move       an operation of a selection is refused
--     turn C program w             what the walk of a checker comes to in one statement
use Rattle.std.specs.Prelude.{ℕ, ◌+◌, ◌-◌, Bool, false, not, ◌||◌, List, [], ◌∷◌, Option, Some, None, is_none, length, slice_get, nat_lt, if◌then◌else◌}
use Rattle.std.specs.Option.{option_or}
use Rattle.exact_values.specs.Rational.{ℚ}
use Rattle.exact_values.specs.Tests.{eq_ℚ}
use Rattle.control_definitions.specs.Program.{Statement, Program}
use Rattle.listing_definitions.specs.declared.Mark.TheVariants.{Optimal}
use Rattle.listing_definitions.specs.Report.{Check, Inserted, PathVerdict, OptimalAt}
use Rattle.listing_definitions.specs.Ending.{Ending, Ended, StatementLimit}
use Rattle.listing_definitions.specs.Listing.{ending_text}
use Rattle.question_definitions.specs.Answers.{Sheet, Question, OfPath, OfSolution, OfRanges, OfParametricRun, OfPunch, OfInstall, AnswerTo, Reached, PathLimit}
use Rattle.question_definitions.specs.Answers.{PricesWrong, Installed}
use Rattle.run_definitions.specs.State.{State}
use Rattle.run_definitions.specs.Moves.{Nothing, Prints, printed_by, gain_text, gain_of, StatementOutcome, Goes, Ends, InSelection, InAnswer, StatementMove}
use Rattle.run_definitions.specs.Moves.{Does, MayStop, Asks}
use Rattle.run_definitions.specs.Verbs.{verb_move}
use Rattle.run_definitions.specs.Run.{max_executed, counted}
use Rattle.walk_definitions.specs.Checkers.{Checker}
use Rattle.walk_definitions.specs.Words.{left_after}
use Rattle.walk_definitions.specs.Forms.{is_open_stop, is_ranges, is_punched, is_inserted}
use Rattle.walk_definitions.specs.Tests.{point_of}
use Rattle.walk_definitions.specs.Reading.{Judged, Right, Fails, Refuses, judged}
use Rattle.selection_definitions.specs.Making.{is_made}

-- an optimal verdict that no SOLUTION has shown yet: what was left of the listing where it stands, its objective, and its check
pub record Pending : Type 0 where
  pub rest : List ℕ
  pub objective : ℚ
  pub check : Check

-- the state of the run, what is pending, what is left of the listing, and the number of reports so far
pub record Walker : Type 0 where
  pub state : State
  pub pending : Option Pending
  pub rest : List ℕ
  pub reports : ℕ

-- The listing is attested, with so many reports; or what is due where so much of it is left isn't right, or can't be attested, or
-- an operation of its test is refused.
pub data Found : Type 0 where
  Attested : ℕ → Found
  Wrong Open Unchecked : List ℕ → Found

pub data WalkTurn : Type 0 where
  Walks : Walker → WalkTurn
  Finds : Found → WalkTurn

-- ---- what can't be attested

abbrev pub open_if : Bool → Walker → Option Found
open_if stands w = if stands then Some (Open w.rest) else None

-- a stop that the run chooses, or that a device shows, at whatever statement it stands
abbrev pub open_stop : Walker → Option Found
open_stop w = open_if (is_open_stop w.rest) w

abbrev pub pending_found : Option Pending → Option Found
pending_found None = None
pending_found (Some pending) = Some (Open pending.rest)

-- a verdict that is pending still
abbrev pub open_pending : Walker → Option Found
open_pending w = pending_found w.pending

-- where the mark is cleared, or the run ends
abbrev pub open_outcome : Walker → StatementOutcome → Option Found
open_outcome w (Ends gain ending) = option_or (open_stop w) (open_pending w)
open_outcome w (Goes Nothing after) = if is_none after.mark then open_pending w else None
open_outcome w (Goes gain after) = option_or (open_stop w) (if is_none after.mark then open_pending w else None)

-- the line of INSERT, for the deck that the outcome names
abbrev pub is_inserted_by : StatementOutcome → List ℕ → Bool
is_inserted_by (Goes (Prints (Inserted name basic)) after) rest = is_inserted name rest
is_inserted_by outcome rest = false

-- Where a further verdict comes, and where INSERT clears the mark. The walk goes past no report of RANGE, PUNCH and INSERT; RANGE and PUNCH
-- leave what is pending as it is.
abbrev pub open_question : Walker → (question : Question) → Sheet → (AnswerTo question → StatementOutcome) → Option Found
open_question w (OfSolution mark) sheet go = open_stop w
open_question w OfRanges sheet go = option_or (open_stop w) (open_if (is_ranges w.rest) w)
open_question w OfPunch sheet go = option_or (open_stop w) (open_if (is_punched sheet.problem.name w.rest) w)
open_question w (OfInstall basis) sheet go = option_or (open_stop w) (option_or (open_if (is_inserted_by (go Installed) w.rest) w) (open_pending w))
open_question w (OfPath solver limit) sheet go = option_or (open_stop w) (open_pending w)
open_question w (OfParametricRun parametric_run) sheet go = option_or (open_stop w) (open_pending w)

abbrev pub opened : Walker → StatementMove → Option Found
opened w (Does outcome) = open_outcome w outcome
opened w (MayStop refusals move) = opened w move
opened w (Asks question sheet s go) = open_question w question sheet go

-- ---- what is due

-- an operation of a selection is refused; the walk never takes the free choice of the run
abbrev pub refuses_selection : StatementMove → Bool
refuses_selection (Does outcome) = false
refuses_selection (MayStop (InSelection problem choice) move) = not (is_made problem choice) || refuses_selection move
refuses_selection (MayStop (InAnswer question sheet bases) move) = refuses_selection move
refuses_selection (Asks question sheet s go) = false

-- what is left after the end
abbrev pub ended : Walker → Option (List ℕ) → Found
ended w None = Wrong w.rest
ended w (Some []) = Attested w.reports
ended w (Some (byte ∷ rest)) = Wrong (byte ∷ rest)

abbrev pub unless_found : Option Found → WalkTurn → WalkTurn
unless_found (Some found) turn = Finds found
unless_found None turn = turn

-- the end is due, in a line of its own: what is open comes first here too
abbrev pub closes : Walker → Ending → WalkTurn
closes w ending = unless_found (option_or (open_stop w) (open_pending w)) (Finds (ended w (left_after (ending_text ending) w.rest)))

-- after its report the run goes on, or its end is due
abbrev pub follows : Walker → StatementOutcome → WalkTurn
follows w (Goes gain after) = Walks (record w { state = after })
follows w (Ends gain ending) = closes w ending

-- so much is left, and so many reports more have been read
abbrev pub passed : List ℕ → ℕ → Walker → Walker
passed rest reports w = record w { rest = rest; reports = w.reports + reports }

abbrev pub taken : Walker → StatementOutcome → Option (List ℕ) → WalkTurn
taken w outcome None = Finds (Wrong w.rest)
taken w outcome (Some rest) = follows (passed rest (length (printed_by (gain_of outcome))) w) outcome

-- ---- what is pending

abbrev pub pending_after : List ℕ → PathVerdict → Check → Option Pending
pending_after rest (OptimalAt steps objective) check = Some (record { rest = rest; objective = objective; check = check })
pending_after rest verdict check = None

-- SOLUTION shows the objective of what is pending, and the checker takes the word of that verdict's check
abbrev pub settles : Checker → Pending → ℚ → Bool
settles C pending objective = if eq_ℚ pending.objective objective then C.takes pending.check else false

abbrev pub settled : Checker → Walker → Option Pending → ℚ → WalkTurn → WalkTurn
settled C w None objective turn = turn
settled C w (Some pending) objective turn = if settles C pending objective then turn else Finds (Wrong pending.rest)

-- what an answer leaves pending, and what it settles
abbrev pub noted : Walker → (question : Question) → Sheet → AnswerTo question → Option Pending
noted w (OfPath solver limit) sheet (Reached bases verdict check) = pending_after w.rest verdict check
noted w (OfPath solver limit) sheet PathLimit = None
noted w (OfPath solver limit) sheet (PricesWrong j) = None
noted w (OfSolution Optimal) sheet lines = None
noted w (OfSolution mark) sheet lines = w.pending
noted w OfRanges sheet lines = w.pending
noted w OfPunch sheet cards = w.pending
noted w (OfInstall basis) sheet end = None
noted w (OfParametricRun parametric_run) sheet end = None

abbrev pub settling : Checker → Walker → (question : Question) → Sheet → AnswerTo question → WalkTurn → WalkTurn
settling C w (OfSolution Optimal) sheet lines turn = settled C w w.pending (point_of sheet lines sheet.lp.objective) turn
settling C w question sheet answer turn = turn

abbrev pub answered : Checker → Walker → (question : Question) → Sheet → (AnswerTo question → StatementOutcome) → Judged (AnswerTo question) → WalkTurn
answered C w question sheet go Fails = Finds (Wrong w.rest)
answered C w question sheet go Refuses = Finds (Unchecked w.rest)
answered C w question sheet go (Right answer rest) =
    settling C w question sheet answer (follows (record (passed rest 1 w) { pending = noted w question sheet answer }) (go answer))

-- the report or the end that is due
abbrev pub due : Checker → Walker → StatementMove → WalkTurn
due C w (Does outcome) = taken w outcome (left_after (gain_text (gain_of outcome)) w.rest)
due C w (MayStop refusals move) = due C w move
due C w (Asks question sheet s go) = answered C w question sheet go (judged C question sheet w.rest)

-- ---- the walk

-- what can't be attested comes first, then a selection that is refused, then what is due
abbrev pub walk_move : Checker → Walker → StatementMove → WalkTurn
walk_move C w move = unless_found (opened w move) (if refuses_selection move then Finds (Unchecked w.rest) else due C w move)

abbrev pub walk_statement : Checker → Walker → Option (Statement ℕ) → WalkTurn
walk_statement C w None = closes w (Ended 0)
walk_statement C w (Some statement) = walk_move C w (verb_move statement.verb statement.card (counted w.state))

-- the end, after the last statement, or the limit of statements, or the statement at the position
unfoldable pub turn : Checker → Program → Walker → WalkTurn
turn C program w =
    if nat_lt (length program.statements) w.state.position then closes w (Ended 0)
    else if nat_lt w.state.executed max_executed then walk_statement C w (slice_get program.statements (w.state.position - 1)) else closes w StatementLimit
