-- What a statement comes to, whatever is right of linear programming, it comes to by what is right.
use Rattle.std.proofs.Common.{ℕ, List, Result, Ok, Err}
use Rattle.job_devices.specs.States.{SinkState}
use Rattle.problem_file.specs.Filed.{Filed}
use Rattle.control_definitions.specs.Program.{Verb}
use Rattle.question_definitions.specs.Solving.{Solving}
use Rattle.run_definitions.specs.State.{Present}
use Rattle.run_definitions.specs.Moves.{Gain, Goes, Punches, StatementMove, Gives, DecidesAlone}
use Rattle.run_definitions.specs.Verbs.{verb_move}
use Rattle.run_definitions.proofs.Settling.{settles_gives}
use Rattle.run_machine.specs.declared.act.Act.{Act}
use Rattle.run_machine.specs.declared.act.Act.TheVariants as act
use Rattle.run_machine.specs.declared.act.Halt.{Halt}
use Rattle.run_machine.specs.declared.act.Halt.TheVariants as halt
use Rattle.run_machine.specs.declared.machine.Machine.{Machine}
use Rattle.run_machine.specs.Statements.{Follows, Decides, Executes}
use Rattle.run_machine.specs.Punching.{Performs}
use Rattle.run_machine.proofs.Giving.{quietly}
use Rattle.run_machine.proofs.Punching.{punches_nothing}

module _ {K : Type 0} (Shows : Filed → K → Present → Type 0) (S : Solving) where
  follows : (card : ℕ) (move : StatementMove) (cards : List (List ℕ)) (new : Machine K) (position executed : ℕ) (gain : Gain) (then : Act) →
      Follows Shows DecidesAlone card move cards new position executed gain then → Follows Shows (Gives S) card move cards new position executed gain then
  follows card move cards new position executed gain act.Next f = (f.0, settles_gives S card move _ f.1, f.2)
  follows card move cards new position executed gain (act.Jump to) f = (f.0, settles_gives S card move _ f.1, f.2, f.3)
  follows card move cards new position executed gain (act.Ends end) f = settles_gives S card move _ f

  module _ (verb : Verb ℕ) (card : ℕ) (print_old print_new : SinkState) where
    pub executes : (cards : List (List ℕ)) (old new : Machine K) (result : Result Act Halt) →
        Executes Shows DecidesAlone verb card print_old print_new cards old new result →
        Executes Shows (Gives S) verb card print_old print_new cards old new result
    executes cards old new (Ok then) e = λ position executed state s.
        let a = e position executed state s in
        record {
          gain = a.gain;
          no_cards = a.no_cards;
          comes = follows card
              (verb_move verb card state) cards new position executed a.gain then a.comes;
          writes = a.writes;
        }
    executes cards old new (Err (halt.Print stop)) e = λ position executed state s.
        let a = e position executed state s in
        record { outcome = a.outcome; no_cards = a.no_cards; gives = settles_gives S card (verb_move verb card state) a.outcome a.gives; writes = a.writes }
    executes cards old new (Err (halt.Punch stop)) e = absurd e
    executes cards old new (Err halt.NoMemory) e = e

    pub performs : (punch_old punch_new : SinkState) (cards : List (List ℕ)) (old new : Machine K) (result : Result Act Halt) →
        Performs Shows DecidesAlone verb card print_old print_new punch_old punch_new cards old new result →
        Performs Shows (Gives S) verb card print_old print_new punch_old punch_new cards old new result
    performs punch_old punch_new cards old new (Ok then) e = λ position executed state s.
        let a = e position executed state s in
        record {
          gain = a.gain;
          comes = follows card
              (verb_move verb card state) cards new position executed a.gain then a.comes;
          prints = a.prints;
          punches = a.punches;
        }
    performs punch_old punch_new cards old new (Err (halt.Print stop)) e = λ position executed state s.
        let a = e position executed state s in
        record { outcome = a.outcome; gives = settles_gives S card (verb_move verb card state) a.outcome a.gives; prints = a.prints; punches = a.punches }
    performs punch_old punch_new cards old new (Err (halt.Punch stop)) e = λ position executed state s.
        let a = e position executed state s in
        record {
          report = a.report;
          deck = a.deck;
          after = a.after;
          gives = settles_gives S card (verb_move verb card state)
              (Goes (Punches a.report a.deck) a.after) a.gives;
          punches = a.punches;
          is_quiet = a.is_quiet;
        }
    performs punch_old punch_new cards old new (Err halt.NoMemory) e = e

  -- a statement that prints and punches nothing
  pub decides : (verb : Verb ℕ) (card : ℕ) (print punch : SinkState)
      (cards : List (List ℕ)) (old new : Machine K) (then : Act) → Decides Shows DecidesAlone verb card old new then →
      Performs Shows (Gives S) verb card print print punch punch cards old new (Ok then)
  decides verb card print punch cards old new then decided =
      performs verb card print print punch punch cards old new (Ok then)
      (punches_nothing punch Shows DecidesAlone verb card print print cards old new (Ok then)
      (quietly Shows DecidesAlone verb card cards old print (decided cards)))
