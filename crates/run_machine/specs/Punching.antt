-- What a statement does with a machine, the print and the punch.
--     Performs result              the statement comes to this act, with its report printed and its deck punched; or it is cut off
use Rattle.std.specs.Prelude.{◌≡◌, ℕ, List, Result, Ok, Err}
use Rattle.job_devices.specs.States.{SinkState}
use Rattle.job_devices.specs.declared.device.WriteStop.{WriteStop}
use Rattle.job_devices.specs.Text.{Writes}
use Rattle.deck_definitions.specs.Written.{card_text}
use Rattle.control_definitions.specs.Program.{Verb}
use Rattle.listing_definitions.specs.Report.{Report}
use Rattle.problem_file.specs.Filed.{Filed}
use Rattle.run_definitions.specs.State.{Present, State}
use Rattle.run_definitions.specs.Moves.{Gain, Punches, punched_by, StatementOutcome, Goes, gain_of, gain_text, StatementMove}
use Rattle.run_definitions.specs.Verbs.{verb_move}
use Rattle.run_machine.specs.declared.act.Act.{Act}
use Rattle.run_machine.specs.declared.act.Halt.{Halt}
use Rattle.run_machine.specs.declared.act.Halt.TheVariants as halt
use Rattle.run_machine.specs.declared.machine.Machine.{Machine}
use Rattle.run_machine.specs.Standing.{FromEach}
use Rattle.run_machine.specs.Statements.{LeadsTo}

-- the text of the cards that a gain punches
abbrev pub gain_cards : Gain → List ℕ
gain_cards gain = card_text (punched_by gain)

module _ {K : Type 0} (Shows : Filed → K → Present → Type 0) (Given : ℕ → StatementMove → StatementOutcome → Type 0) (verb : Verb ℕ) (card : ℕ)
    (print_old print_new punch_old punch_new : SinkState) where
  -- with some gain, which is printed and punched, the statement comes to this act
  pub record ActsWith (cards : List (List ℕ)) (position executed : ℕ) (state : State) (new : Machine K) (act : Act) : Type 0 where
    pub gain : Gain
    pub comes : LeadsTo Shows Given verb card cards position executed state new gain act
    pub prints : Writes {T = Unit {0}} print_old print_new (Ok tt) (gain_text gain)
    pub punches : Writes {T = Unit {0}} punch_old punch_new (Ok tt) (gain_cards gain)

  -- the statement comes to something, and the print stops before all that it gains is printed; what it punches is punched before
  pub record IsPrintCut (state : State) (stop : WriteStop) : Type 0 where
    pub outcome : StatementOutcome
    pub gives : Given card (verb_move verb card state) outcome
    pub prints : Writes {T = Unit {0}} print_old print_new (Err stop) (gain_text (gain_of outcome))
    pub punches : Writes {T = Unit {0}} punch_old punch_new (Ok tt) (gain_cards (gain_of outcome))

  -- the statement would punch this deck and go on, and the punch stops before all of the deck is punched; nothing is printed
  pub record IsPunchCut (state : State) (stop : WriteStop) : Type 0 where
    pub report : Report
    pub deck : List (List ℕ)
    pub after : State
    pub gives : Given card (verb_move verb card state) (Goes (Punches report deck) after)
    pub punches : Writes {T = Unit {0}} punch_old punch_new (Err stop) (card_text deck)
    pub is_quiet : print_new ≡ print_old

  -- What a statement does from each state that the machine showed. Where it finds no memory, nothing is printed and nothing is
  -- punched.
  abbrev pub Performs : List (List ℕ) → Machine K → Machine K → Result Act Halt → Type 0
  Performs cards old new (Ok act) = FromEach Shows cards old (λ position executed state. ActsWith cards position executed state new act)
  Performs cards old new (Err (halt.Print stop)) = FromEach Shows cards old (λ position executed state. IsPrintCut state stop)
  Performs cards old new (Err (halt.Punch stop)) = FromEach Shows cards old (λ position executed state. IsPunchCut state stop)
  Performs cards old new (Err halt.NoMemory) = (print_new ≡ print_old) × (punch_new ≡ punch_old)
