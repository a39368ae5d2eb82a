-- What a statement does with a machine. Shows says what a setup shows, and Given which outcomes a move may come to.
--     Follows move gain act        the move comes to this act with this gain
--     LeadsTo state gain act         from this state the statement comes to this act with this gain
--     Decides old new act          the statement prints nothing, and comes to this act
--     DecidesOnAny old new act     it does so without an answer of linear programming, whatever its card is
--     Executes result              the statement punches nothing, and comes to this act, with its report printed; or it is cut off
use Rattle.std.specs.Prelude.{◌≡◌, ℕ, ◌≤◌, List, [], Result, Ok, Err, IfSome}
use Rattle.job_devices.specs.States.{SinkState}
use Rattle.job_devices.specs.declared.device.WriteStop.{WriteStop}
use Rattle.job_devices.specs.Text.{Writes}
use Rattle.control_definitions.specs.Program.{Verb, MoveLimit, Mvadr, Goto}
use Rattle.control_definitions.specs.declared.TheConstants.{MAX_STEPS}
use Rattle.problem_file.specs.Filed.{Filed}
use Rattle.run_definitions.specs.State.{Present, State}
use Rattle.run_definitions.specs.Moves.{Gain, Nothing, punched_by, gain_text, StatementOutcome, Ends, gain_of, next, jump, StatementMove, DecidesAlone}
use Rattle.run_definitions.specs.Verbs.{verb_move}
use Rattle.run_machine.specs.declared.act.Act.{Act}
use Rattle.run_machine.specs.declared.act.Act.TheVariants as act
use Rattle.run_machine.specs.declared.act.Halt.{Halt}
use Rattle.run_machine.specs.declared.act.Halt.TheVariants as halt
use Rattle.run_machine.specs.declared.machine.Machine.{Machine}
use Rattle.run_machine.specs.Ends.{end_view}
use Rattle.run_machine.specs.Standing.{Represents, FromEach}

-- positions count from 1, and a verb may be allowed MAX_STEPS steps
abbrev pub IsSoundVerb : Verb ℕ → Type 0
IsSoundVerb (MoveLimit limit) = IfSome limit (λ steps. steps ≤ MAX_STEPS)
IsSoundVerb (Mvadr demand position) = 1 ≤ position
IsSoundVerb (Goto position) = 1 ≤ position
IsSoundVerb _ = Unit {0}

module _ {K : Type 0} (Shows : Filed → K → Present → Type 0) (Given : ℕ → StatementMove → StatementOutcome → Type 0) where
  -- the run goes on with a state that the machine shows, or it ends
  abbrev pub Follows : ℕ → StatementMove → List (List ℕ) → Machine K → ℕ → ℕ → Gain → Act → Type 0
  Follows card move cards new position executed gain act.Next =
      (after : State) × Given card move (next gain after) × Represents Shows cards new position executed after
  Follows card move cards new position executed gain (act.Jump to) =
      (after : State) × Given card move (jump gain to after) × Represents Shows cards new position executed after × (1 ≤ to)
  Follows card move cards new position executed gain (act.Ends end) = Given card move (Ends gain (end_view end))

  module _ (verb : Verb ℕ) (card : ℕ) where
    abbrev pub LeadsTo : List (List ℕ) → ℕ → ℕ → State → Machine K → Gain → Act → Type 0
    LeadsTo cards position executed state new gain act = Follows card (verb_move verb card state) cards new position executed gain act

    -- from each state that the machine showed, the statement comes to this act, and prints nothing
    abbrev pub Decides : Machine K → Machine K → Act → Type 0
    Decides old new act =
        (cards : List (List ℕ)) → FromEach Shows cards old (λ position executed state. LeadsTo cards position executed state new Nothing act)

    module _ (print_old print_new : SinkState) where
      -- with some gain, which is printed, the statement comes to this act
      pub record Acts (cards : List (List ℕ)) (position executed : ℕ) (state : State) (new : Machine K) (act : Act) : Type 0 where
        pub gain : Gain
        pub no_cards : punched_by gain ≡ []
        pub comes : LeadsTo cards position executed state new gain act
        pub writes : Writes {T = Unit {0}} print_old print_new (Ok tt) (gain_text gain)

      -- the statement comes to something, and the print stops before all that it gains is printed
      pub record IsCutOff (state : State) (stop : WriteStop) : Type 0 where
        pub outcome : StatementOutcome
        pub no_cards : punched_by (gain_of outcome) ≡ []
        pub gives : Given card (verb_move verb card state) outcome
        pub writes : Writes {T = Unit {0}} print_old print_new (Err stop) (gain_text (gain_of outcome))

      -- What a statement that punches nothing does from each state that the machine showed. Where it finds no memory, nothing is
      -- printed.
      abbrev pub Executes : List (List ℕ) → Machine K → Machine K → Result Act Halt → Type 0
      Executes cards old new (Ok act) = FromEach Shows cards old (λ position executed state. Acts cards position executed state new act)
      Executes cards old new (Err (halt.Print stop)) = FromEach Shows cards old (λ position executed state. IsCutOff state stop)
      Executes cards old new (Err (halt.Punch stop)) = ⊥
      Executes cards old new (Err halt.NoMemory) = print_new ≡ print_old

-- the statement asks nothing of linear programming, and does so whatever its card is
abbrev pub DecidesOnAny : {K : Type 0} → (Filed → K → Present → Type 0) → Verb ℕ → Machine K → Machine K → Act → Type 0
DecidesOnAny Shows verb old new act = (card : ℕ) → Decides Shows DecidesAlone verb card old new act
