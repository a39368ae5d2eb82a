-- A statement at a position, and where it leads.
use Rattle.std.proofs.Common.{◌≡◌, ℕ, ◌+◌, ◌-◌, ◌<◌, List, Some, Ok, Err, slice_get, refl, sym, ap, subst, arith}
use Rattle.job_devices.specs.States.{SinkState}
use Rattle.control_definitions.specs.Program.{Statement, Program}
use Rattle.question_definitions.specs.Solving.{Solving}
use Rattle.run_definitions.specs.State.{State}
use Rattle.run_definitions.specs.Moves.{Gain, Punches, StatementOutcome, Goes as GoesOn, Gives}
use Rattle.run_definitions.specs.Verbs.{verb_move}
use Rattle.run_definitions.specs.Run.{counted, Step}
use Rattle.run_machine.specs.declared.act.Act.{Act}
use Rattle.run_machine.specs.declared.act.Act.TheVariants as act
use Rattle.run_machine.specs.declared.act.Halt.{Halt}
use Rattle.run_machine.specs.declared.act.Halt.TheVariants as halt
use Rattle.run_machine.specs.declared.act.AfterStatement.{AfterStatement}
use Rattle.setup_verbs.specs.Machines.{Machine}
use Rattle.setup_verbs.specs.Standing.{Represents}
use Rattle.setup_verbs.specs.Statements.{LeadsTo}
use Rattle.setup_verbs.specs.Statements.{Performs}
use Rattle.control_run.specs.Running.{Leads, Steps}
use Rattle.run_machine.specs.Turning.{turn_of}

-- the state with one more statement counted
counted_stands : {cards : List (List ℕ)} {machine : Machine} {position executed : ℕ} {state : State} → Represents cards machine position executed state →
    Represents cards machine position (executed + 1) (counted state)
counted_stands s = record {
  is_position = s.is_position;
  is_executed = ap (λ n. n + 1) s.is_executed;
  cells = s.cells;
  file = s.file;
  decks = s.decks;
  setup = s.setup;
  mark = s.mark;
}

-- the state at another position
placed_stands : {cards : List (List ℕ)} {machine : Machine} {position executed : ℕ} {state : State} (to by : ℕ) →
    Represents cards machine position executed state → by ≡ to → Represents cards machine to executed (record state { position = by })
placed_stands to by s e = record {
  is_position = e;
  is_executed = s.is_executed;
  cells = s.cells;
  file = s.file;
  decks = s.decks;
  setup = s.setup;
  mark = s.mark;
}

module _ (S : Solving) (program : Program) (cards : List (List ℕ)) (position : ℕ) (statement : Statement ℕ)
    (there : slice_get program.statements (position - 1) ≡ Some statement) where
  step_of : {machine : Machine} {executed : ℕ} {state : State} → Represents cards machine position executed state → executed < 100000 →
      (outcome : StatementOutcome) →
      Gives S statement.card (verb_move statement.verb statement.card (counted state)) outcome → Step S program state outcome
  step_of {state = state} s within outcome gives = record {
    statement = statement;
    is_at_position = subst (λ (n : ℕ). slice_get program.statements (n - 1) ≡ Some statement) (sym s.is_position) there;
    is_within_limit = rw s.is_executed within;
    gives = gives;
  }

  leads_by : (old new : Machine) {executed : ℕ} {state : State} → Represents cards old position executed state → executed < 100000 → (gain : Gain) (act : Act) →
      LeadsTo S statement.verb statement.card cards position (executed + 1) (counted state) new gain act →
      Leads S program cards executed state new gain (turn_of position act)
  leads_by old new s within gain act.Next c = (
    record (c.0) { position = c.0.position + 1 },
    step_of s within _ c.1,
    placed_stands (position + 1) (c.0.position + 1) c.2
        (ap (λ n. n + 1) c.2.is_position),
    omega arith,
  )
  leads_by old new s within gain (act.Jump to) c = (record (c.0) { position = to }, step_of s within _ c.1, placed_stands to to c.2 refl, c.3)
  leads_by old new s within gain (act.Ends end) c = step_of s within _ c

  module _ (old new : Machine) where
    pub steps_to : {print_old print_new punch_old punch_new : SinkState} (act : Act) (turn : AfterStatement) → turn ≡ turn_of position act →
        Performs S statement.verb statement.card print_old print_new punch_old punch_new cards old new (Ok act) →
        Steps S program cards print_old print_new punch_old punch_new position old new (Ok turn)
    steps_to act turn is performs = λ executed state within s.
        let a = performs position (executed + 1) (counted state) (counted_stands s) in
        record {
          gain = a.gain;
          leads = subst (λ (t : AfterStatement). Leads S program cards executed state new a.gain t) (sym is) (leads_by old new s within a.gain act a.comes);
          prints = a.prints;
          punches = a.punches;
        }

    pub steps_err : (from to punch_from punch_to : SinkState) (h : Halt) →
        Performs S statement.verb statement.card from to punch_from punch_to cards old new (Err h) →
        Steps S program cards from to punch_from punch_to position old new (Err h)
    steps_err from to punch_from punch_to (halt.Print stop) performs = λ executed state within s.
        let a = performs position (executed + 1) (counted state) (counted_stands s) in
        record { outcome = a.outcome; step = step_of s within a.outcome a.gives; prints = a.prints; punches = a.punches }
    steps_err from to punch_from punch_to (halt.Punch stop) performs = λ executed state within s.
        let a = performs position (executed + 1) (counted state) (counted_stands s) in
        record {
          deck = a.deck;
          punching = record { report = a.report; after = a.after; step = step_of s within (GoesOn (Punches a.report a.deck) a.after) a.gives };
          punches = a.punches;
          is_quiet = a.is_quiet;
        }
    steps_err from to punch_from punch_to halt.NoMemory performs = performs
