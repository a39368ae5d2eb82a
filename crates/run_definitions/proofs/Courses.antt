-- A plain program that follows a run as long as it asks nothing of linear programming, and the proof that what it finds is the run.
use Rattle.std.proofs.Common.{◌≡◌, refl, sym, ap, subst, append_assoc, append-nil, inl}
use Rattle.std.proofs.lemmas.Bool.{ltb-true}
use Rattle.std.specs.Prelude.{ℕ, zero, suc, ◌-◌, ◌<◌, Bool, true, false, nat_lt, List, [], ◌++◌, Option, Some, None, unwrap_or, Result, Ok, Err, slice_get}
use Rattle.std.specs.Prelude.{length}
use Rattle.card_definitions.specs.declared.CardFault.{CardFault}
use Rattle.card_definitions.specs.Cards.{Card, cards_of, job_fault}
use Rattle.control_definitions.specs.declared.ControlFault.{ControlFault}
use Rattle.control_definitions.specs.Program.{Program, Statement}
use Rattle.control_definitions.specs.Compiled.{compiled}
use Rattle.listing_definitions.specs.Report.{Report}
use Rattle.listing_definitions.specs.Ending.{Ending, Ended, ControlStop, CardStop}
use Rattle.question_definitions.specs.Solving.{Solving}
use Rattle.run_definitions.specs.State.{State, start}
use Rattle.run_definitions.specs.Moves.{Gain, Nothing, printed_by, punched_by, StatementOutcome, Goes, Ends, StatementMove, Does, MayStop, Asks, Gives}
use Rattle.run_definitions.specs.Verbs.{verb_move}
use Rattle.run_definitions.specs.Run.{counted, max_executed, Step, Reaches, begun, stepped, IsRun, is_over, is_ended, at_end}
use Rattle.run_definitions.specs.Answer.{job_decks, IsJobRun, card_fault, control_fault, run}

-- nothing is ever answered
abbrev pub silent : Solving
silent = record {
  Solves = λ solver sheet basis limit end. ⊥;
  ParametricRuns = λ sheet basis parametric_run end. ⊥;
  Shows = λ mark sheet basis lines. ⊥;
  Ranges = λ sheet basis lines. ⊥;
  Punches = λ sheet basis cards. ⊥;
  Installs = λ sheet basis end. ⊥;
  Overflows = λ question sheet bases evidence place. ⊥;
}

-- where a run comes to: its reports and the cards punched, and its end unless it asks something first
pub record Course : Type 0 where
  pub reports : List Report
  pub cards : List (List ℕ)
  pub ending : Option Ending

-- the outcome of a move that doesn't ask, and doesn't stop freely
abbrev pub settled : StatementMove → Option StatementOutcome
settled (Does outcome) = Some outcome
settled (MayStop refusals move) = settled move
settled (Asks question sheet s go) = None

abbrev pub following : Gain → Course → Course
following gain course = record { reports = printed_by gain ++ course.reports; cards = punched_by gain ++ course.cards; ending = course.ending }

abbrev pub unanswered : Course
unanswered = record { reports = []; cards = []; ending = None }

abbrev pub end : Gain → Ending → Course
end gain ending = record { reports = printed_by gain; cards = punched_by gain; ending = Some ending }

abbrev pub goes_on : (State → Course) → Option StatementOutcome → Course
goes_on course None = unanswered
goes_on course (Some (Goes gain state)) = following gain (course state)
goes_on course (Some (Ends gain ending)) = end gain ending

abbrev pub by_statement : (State → Course) → State → Option (Statement ℕ) → Course
by_statement course state None = unanswered
by_statement course state (Some statement) = goes_on course (settled (verb_move statement.verb statement.card (counted state)))

-- within the limit, the statement at the position is executed
abbrev pub by_limit : (State → Course) → Program → State → Bool → Course
by_limit course program state true = by_statement course state (slice_get program.statements (state.position - 1))
by_limit course program state false = unanswered

-- the run is at its end, or goes on
abbrev pub by_position : (State → Course) → Program → State → Bool → Course
by_position course program state true = end Nothing (Ended 0)
by_position course program state false = by_limit course program state (nat_lt state.executed max_executed)

-- the course of a run in at most so many statements
abbrev pub course_of : ℕ → Program → State → Course
course_of zero program state = unanswered
course_of (suc n) program state = by_position (course_of n program) program state (nat_lt (length program.statements) state.position)

abbrev pub compiled_course : List ℕ → Result Program ControlFault → Course
compiled_course bytes (Err fault) = end Nothing (ControlStop fault)
compiled_course bytes (Ok program) = course_of 9 program (start (job_decks program bytes))

abbrev pub course_by : List ℕ → Option CardFault → Course
course_by bytes (Some fault) = end Nothing (CardStop fault)
course_by bytes None = compiled_course bytes (compiled (cards_of bytes))

abbrev pub job_course : List ℕ → Course
job_course bytes = course_by bytes (job_fault bytes)

-- ---- the course is the run

abbrev IsNothing : {X : Type 0} → Option X → Type 0
IsNothing None = Unit {0}
IsNothing (Some x) = ⊥

some_apart : {X : Type 0} {x : X} → None ≡ Some x → ⊥
some_apart e = subst IsNothing e tt

from_some : {X : Type 0} {x y : X} → Some x ≡ Some y → x ≡ y
from_some {x = x} e = ap (λ o. unwrap_or o x) e

settled_gives : (card : ℕ) (move : StatementMove) (outcome : StatementOutcome) → settled move ≡ Some outcome → Gives silent card move outcome
settled_gives card (Does found) outcome e = sym (from_some e)
settled_gives card (MayStop refusals move) outcome e = inl (settled_gives card move outcome e)
settled_gives card (Asks question sheet s go) outcome e = absurd (some_apart e)

module _ (program : Program) (decks : List (List Card)) where
  -- what a course adds to a run that has come to a state is the rest of that run
  abbrev Completes : State → Course → Type 0
  Completes state course = (reports : List Report) (cards : List (List ℕ)) (ending : Ending) → Reaches silent program decks reports cards state →
      course.ending ≡ Some ending → IsRun silent program decks (reports ++ course.reports) (cards ++ course.cards) ending

  completes-goes_on : (course : State → Course) → ((state : State) → Completes state (course state)) → (state : State) (found : Option StatementOutcome) →
      ((outcome : StatementOutcome) → found ≡ Some outcome → Step silent program state outcome) → Completes state (goes_on course found)
  completes-goes_on course rest state None step reports cards ending reach e = absurd (some_apart e)
  completes-goes_on course rest state (Some (Goes gain after)) step reports cards ending reach e =
      rw (sym (append_assoc reports (printed_by gain) (course after).reports), sym (append_assoc cards (punched_by gain) (course after).cards))
      (rest after (reports ++ printed_by gain) (cards ++ punched_by gain) ending (stepped gain after reach (step (Goes gain after) refl)) e)
  completes-goes_on course rest state (Some (Ends gain found)) step reports cards ending reach e =
      subst (λ x. IsRun silent program decks (reports ++ printed_by gain) (cards ++ punched_by gain) x) (from_some e)
      (is_ended gain reach (step (Ends gain found) refl))

  completes-by_statement : (course : State → Course) → ((state : State) → Completes state (course state)) → (state : State) → state.executed < max_executed →
      (statement : Option (Statement ℕ)) → slice_get program.statements (state.position - 1) ≡ statement → Completes state (by_statement course state statement)
  completes-by_statement course rest state within None at = λ reports cards ending reach e. absurd (some_apart e)
  completes-by_statement course rest state within (Some statement) at =
      completes-goes_on course rest state (settled (verb_move statement.verb statement.card (counted state)))
      (λ outcome found. record {
        statement = statement;
        is_at_position = at;
        is_within_limit = within;
        gives = settled_gives statement.card
            (verb_move statement.verb statement.card (counted state)) outcome found;
      })

  completes-by_limit : (course : State → Course) → ((state : State) → Completes state (course state)) → (state : State) (within : Bool) →
      nat_lt state.executed max_executed ≡ within → Completes state (by_limit course program state within)
  completes-by_limit course rest state true within =
      completes-by_statement course rest state (ltb-true state.executed max_executed within) (slice_get program.statements (state.position - 1)) refl
  completes-by_limit course rest state false within = λ reports cards ending reach e. absurd (some_apart e)

  completes-by_position : (course : State → Course) → ((state : State) → Completes state (course state)) → (state : State) (over : Bool) →
      nat_lt (length program.statements) state.position ≡ over → Completes state (by_position course program state over)
  completes-by_position course rest state true over = λ reports cards ending reach e.
      subst (λ x. IsRun silent program decks (reports ++ []) (cards ++ []) x) (from_some e)
      (rw (append-nil reports, append-nil cards) (is_over reach (at_end (ltb-true (length program.statements) state.position over))))
  completes-by_position course rest state false over = completes-by_limit course rest state (nat_lt state.executed max_executed) refl

  completes-course_of : (n : ℕ) (state : State) → Completes state (course_of n program state)
  completes-course_of zero state = λ reports cards ending reach e. absurd (some_apart e)
  completes-course_of (suc n) state =
      completes-by_position (course_of n program) (completes-course_of n) state (nat_lt (length program.statements) state.position) refl

-- What the program finds of a job is what the job comes to.
module _ (bytes : List ℕ) (ending : Ending) where
  compiled_course_is_run : job_fault bytes ≡ None → (result : Result Program ControlFault) → compiled (cards_of bytes) ≡ result →
      (compiled_course bytes result).ending ≡ Some ending →
      IsJobRun silent bytes (compiled_course bytes result).reports (compiled_course bytes result).cards ending
  compiled_course_is_run read (Err fault) is e = subst (λ x. IsJobRun silent bytes [] [] x) (from_some e) (control_fault fault read is)
  compiled_course_is_run read (Ok program) is e =
      run program (record { is_read = read; is_compiled = is })
      (completes-course_of program (job_decks program bytes) 9 (start (job_decks program bytes)) [] [] ending begun e)

  course_by_is_run : (fault : Option CardFault) → job_fault bytes ≡ fault → (course_by bytes fault).ending ≡ Some ending →
      IsJobRun silent bytes (course_by bytes fault).reports (course_by bytes fault).cards ending
  course_by_is_run (Some fault) is e = subst (λ x. IsJobRun silent bytes [] [] x) (from_some e) (card_fault fault is)
  course_by_is_run None is e = compiled_course_is_run is (compiled (cards_of bytes)) refl e

  pub job_course_is_run : (job_course bytes).ending ≡ Some ending → IsJobRun silent bytes (job_course bytes).reports (job_course bytes).cards ending
  job_course_is_run e = course_by_is_run (job_fault bytes) refl e
