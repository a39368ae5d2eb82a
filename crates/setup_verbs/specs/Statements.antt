-- What a statement does with the machine of a run, by what is right of linear programming: the words of run_machine, for a setup that
-- keeps a basis.
use Rattle.std.specs.Prelude.{ℕ, List, Result}
use Rattle.job_devices.specs.States.{SinkState}
use Rattle.control_definitions.specs.Program.{Verb}
use Rattle.question_definitions.specs.Solving.{Solving}
use Rattle.run_definitions.specs.State.{State}
use Rattle.run_definitions.specs.Moves.{Gain, StatementMove, Gives}
use Rattle.run_machine.specs.declared.act.Act.{Act}
use Rattle.run_machine.specs.declared.act.Halt.{Halt}
use Rattle.run_machine.specs.Statements as statements
use Rattle.run_machine.specs.Punching as punching
use Rattle.setup_verbs.specs.Machines.{Machine}
use Rattle.setup_verbs.specs.Standing.{IsPresent}

-- the run goes on with a state that the machine shows, or it ends
abbrev pub Follows : Solving → ℕ → StatementMove → List (List ℕ) → Machine → ℕ → ℕ → Gain → Act → Type 0
Follows S = statements.Follows IsPresent (Gives S)

module _ (S : Solving) (verb : Verb ℕ) (card : ℕ) where
  abbrev pub LeadsTo : List (List ℕ) → ℕ → ℕ → State → Machine → Gain → Act → Type 0
  LeadsTo = statements.LeadsTo IsPresent (Gives S) verb card

  module _ (print_old print_new : SinkState) where
    -- the statement punches nothing, and comes to this act, with its report printed; or it is cut off
    abbrev pub Executes : List (List ℕ) → Machine → Machine → Result Act Halt → Type 0
    Executes = statements.Executes IsPresent (Gives S) verb card print_old print_new

    -- so it does, whatever the cards of the job are
    abbrev pub ExecutesOnAny : Machine → Machine → Result Act Halt → Type 0
    ExecutesOnAny old new result = (cards : List (List ℕ)) → Executes cards old new result

    module _ (punch_old punch_new : SinkState) where
      -- it comes to this act, with its report printed and its deck punched; or it is cut off
      abbrev pub Performs : List (List ℕ) → Machine → Machine → Result Act Halt → Type 0
      Performs = punching.Performs IsPresent (Gives S) verb card print_old print_new punch_old punch_new
