-- What a statement may do, and how it comes to it.
--     Gain                         what is added to the print and the punch
--     StatementOutcome             a statement goes on, or it ends the run
--     Refusals                     where an operation may be refused
--     StatementMove                an outcome, a place where the run may stop for an overflow, or a question
--     Gives S card move outcome    the statement of a card comes to this
--     DecidesAlone card move outcome    so it does, whatever is right of linear programming
use Rattle.std.specs.Prelude.{◌≡◌, ◌⊎◌, ◌+◌, ℕ, List, [], ◌∷◌, Option, Some, None}
use Rattle.lp_definitions.specs.declared.Evidence.{Evidence}
use Rattle.problem_definitions.specs.Problem.{Problem}
use Rattle.selection_definitions.specs.Choice.{Choice}
use Rattle.selection_definitions.specs.Refusals.{IsSelectionRefusal}
use Rattle.question_definitions.specs.Answers.{Basis, Sheet, Question, AnswerTo}
use Rattle.question_definitions.specs.Solving.{Solving, IsRight}
use Rattle.listing_definitions.specs.declared.VerbFault.{VerbFault}
use Rattle.listing_definitions.specs.Report.{Report}
use Rattle.listing_definitions.specs.Text.{report_text}
use Rattle.listing_definitions.specs.Ending.{Place, Ending, VerbStop, OverflowStop}
use Rattle.run_definitions.specs.State.{State}

-- A statement prints nothing, or a report; BCDOUT and PUNCH also punch the cards of a deck.
pub data Gain : Type 0 where
  Nothing : Gain
  Prints : Report → Gain
  Punches : Report → List (List ℕ) → Gain

abbrev pub printed_by : Gain → List Report
printed_by Nothing = []
printed_by (Prints report) = report ∷ []
printed_by (Punches report cards) = report ∷ []

abbrev pub punched_by : Gain → List (List ℕ)
punched_by Nothing = []
punched_by (Prints report) = []
punched_by (Punches report cards) = cards

-- the text of what it prints
abbrev pub gain_text : Gain → List ℕ
gain_text Nothing = []
gain_text (Prints report) = report_text report
gain_text (Punches report cards) = report_text report

-- the run goes on with this state, or ends so
pub data StatementOutcome : Type 0 where
  Goes : Gain → State → StatementOutcome
  Ends : Gain → Ending → StatementOutcome

-- what it adds, in either case
abbrev pub gain_of : StatementOutcome → Gain
gain_of (Goes gain state) = gain
gain_of (Ends gain ending) = gain

-- the next statement follows, or the run goes on at another position
abbrev pub next : Gain → State → StatementOutcome
next gain state = Goes gain (record state { position = state.position + 1 })

abbrev pub jump : Gain → ℕ → State → StatementOutcome
jump gain position state = Goes gain (record state { position = position })

-- a statement that stops gives no report
abbrev pub stops : Ending → StatementOutcome
stops ending = Ends Nothing ending

-- An operation may be refused in a selection; or in an answer to a question about a linear program, after these bases since SETUP or
-- INSERT.
pub data Refusals : Type 0 where
  InSelection : Problem ℕ → Choice → Refusals
  InAnswer : Question → Sheet → List Basis → Refusals

-- A statement does something; or it may stop with an overflow where an operation is refused, and else moves on; or it asks about a
-- linear program at a basis, and goes on by the answer. A move is plain data: what is right of linear programming comes in with its
-- meaning, below.
pub data StatementMove : Type 0 where
  Does : StatementOutcome → StatementMove
  MayStop : Refusals → StatementMove → StatementMove
  Asks : (question : Question) → Sheet → Basis → (AnswerTo question → StatementOutcome) → StatementMove

-- an operation of the selection that is refused; it is made before there is a basis
abbrev pub SelectionOverflows : Problem ℕ → Choice → Evidence → Option Place → Type 0
SelectionOverflows problem choice evidence place = IsSelectionRefusal problem choice evidence × (place ≡ None)

-- the evidence that shows a refusal
abbrev pub Shows : Solving → Refusals → Evidence → Option Place → Type 0
Shows S (InSelection problem choice) = SelectionOverflows problem choice
Shows S (InAnswer question sheet bases) = S.Overflows question sheet bases

abbrev pub StopsBy : ℕ → (Evidence → Option Place → Type 0) → StatementOutcome → Type 0
StopsBy card Holds outcome =
    (evidence : Evidence) × (place : Option Place) × Holds evidence place ×
    (outcome ≡ stops (OverflowStop (record { evidence = evidence; place = place; card = card })))

-- The outcomes of a move, by what is right of linear programming. Whether to stop for an overflow is the one free choice.
abbrev pub Gives : Solving → ℕ → StatementMove → StatementOutcome → Type 0
Gives S card (Does outcome) given = given ≡ outcome
Gives S card (MayStop refusals move) given = Gives S card move given ⊎ StopsBy card (Shows S refusals) given
Gives S card (Asks question sheet s go) given = (answer : AnswerTo question) × IsRight S question sheet s answer × (given ≡ go answer)

-- What a move comes to, whatever is right of linear programming: it asks nothing, and isn't stopped by an overflow.
abbrev pub DecidesAlone : ℕ → StatementMove → StatementOutcome → Type 0
DecidesAlone card (Does outcome) given = given ≡ outcome
DecidesAlone card (MayStop refusals move) given = DecidesAlone card move given
DecidesAlone card (Asks question sheet s go) given = ⊥

-- a verb fault on a card, or else what is done with the value
abbrev pub or_fault : {X : Type 0} → ℕ → VerbFault → Option X → (X → StatementMove) → StatementMove
or_fault card fault None go = Does (stops (VerbStop (record { fault = fault; card = card })))
or_fault card fault (Some x) go = go x
