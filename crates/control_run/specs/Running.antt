-- What a program's run has printed and punched, and how it may be answered.
--     Leads state turn             executing a statement of the program leads there
--     Steps result                 a statement leads somewhere, with its report printed and its deck punched; or it is cut off
--     CanEnd reports punched deck ending    the run ends so by itself, because memory ran out, or because the punch takes no more
--     IsCut ..                     the print has stopped in a report or in the lines of an end
--     Runs result                  the run ends, with its reports printed and its decks punched; or it is cut off
--     IsRunAnswer status ..        what a run may be answered
use Rattle.std.specs.Prelude.{◌≡◌, ℕ, ◌+◌, ◌-◌, ◌<◌, ◌≤◌, List, [], ◌++◌, Option, Result, Ok, Err, drop}
use Rattle.std.specs.Io.KnownBytes.{Appends}
use Rattle.job_devices.specs.States.{SinkState}
use Rattle.job_devices.specs.declared.device.WriteStop.{WriteStop}
use Rattle.job_devices.specs.declared.device.WriteStop.TheVariants.{Failed, NoMemory}
use Rattle.job_devices.specs.Causes.{Rose}
use Rattle.card_definitions.specs.Prefixes.{IsPrefix}
use Rattle.job_devices.specs.Text.{Writes}
use Rattle.card_definitions.specs.Cards.{Card, numbered_cards}
use Rattle.deck_definitions.specs.Decks.{decks_of}
use Rattle.deck_definitions.specs.Written.{card_text}
use Rattle.control_definitions.specs.Program.{Program}
use Rattle.listing_definitions.specs.Report.{Report}
use Rattle.listing_definitions.specs.Ending.{Ending, PrintFault, PunchFault, Memory, status_of}
use Rattle.listing_definitions.specs.Listing.{ending_text, reports_text, listing}
use Rattle.question_definitions.specs.Solving.{Solving}
use Rattle.run_definitions.specs.State.{State}
use Rattle.run_definitions.specs.Moves.{Gain, printed_by, punched_by, StatementOutcome, Goes as GoesOn, Ends as EndsRun, gain_of, gain_text}
use Rattle.run_definitions.specs.Run.{max_executed, Step, Reaches, IsRun}
use Rattle.run_definitions.specs.Answer.{Gains, IsPunching}
use Rattle.run_machine.specs.declared.act.Halt.{Halt}
use Rattle.run_machine.specs.declared.act.Halt.TheVariants as halt
use Rattle.run_machine.specs.declared.act.AfterStatement.{AfterStatement}
use Rattle.run_machine.specs.declared.act.AfterStatement.TheVariants.{Goes, Ends}
use Rattle.run_machine.specs.declared.end.End.{End}
use Rattle.setup_verbs.specs.Machines.{Machine}
use Rattle.run_machine.specs.Ends.{end_view}
use Rattle.setup_verbs.specs.Standing.{Represents}
use Rattle.run_machine.specs.Punching.{gain_cards}
use Rattle.control_run.specs.Devices.{Leaves}

-- the decks of the cards after a program
abbrev pub decks_after : Program → List (List ℕ) → List (List Card)
decks_after program cards = decks_of (drop (program.decks_from - 1) (numbered_cards cards))

-- how a run ends where the punch takes no more
abbrev pub punch_end : WriteStop → Ending
punch_end Failed = PunchFault
punch_end NoMemory = Memory

-- known bytes grow by what the punch has gained by this end: the text of the cards of the reports before, and then a prefix of that of
-- the deck in hand
abbrev pub GainsBy : Ending → List (List ℕ) → List (List ℕ) → Option (List ℕ) → Option (List ℕ) → Type 0
GainsBy ending cards deck old new = (gained : List ℕ) × Appends old new gained × Gains ending cards deck gained

module _ (S : Solving) (program : Program) (cards : List (List ℕ)) where
  -- the run goes on at a position, with a state that the machine shows; or it ends
  abbrev pub Leads : ℕ → State → Machine → Gain → AfterStatement → Type 0
  Leads executed state new gain (Goes to) = (after : State) × Step S program state (GoesOn gain after) × Represents cards new to (executed + 1) after × (1 ≤ to)
  Leads executed state new gain (Ends end) = Step S program state (EndsRun gain (end_view end))

  module _ (punch_failed punch_wanted : Type 0) where
    -- The run ends so by itself; or it has come so far, and there is no memory; or it has come to a statement that punches a deck, and
    -- the punch has run out of memory itself, or has failed. Then that deck is in hand; else none is.
    pub data CanEnd : List Report → List (List ℕ) → List (List ℕ) → Ending → Type 0 where
      by_itself : {reports : List Report} {punched : List (List ℕ)} {ending : Ending} →
          IsRun S program (decks_after program cards) reports punched ending → CanEnd reports punched [] ending
      for_memory : {reports : List Report} {punched : List (List ℕ)} {state : State} →
          Reaches S program (decks_after program cards) reports punched state → CanEnd reports punched [] Memory
      for_memory_of_punch : {reports : List Report} {punched : List (List ℕ)} {state : State} (deck : List (List ℕ)) → punch_wanted →
          Reaches S program (decks_after program cards) reports punched state → IsPunching S program state deck → CanEnd reports punched deck Memory
      for_punch_fault : {reports : List Report} {punched : List (List ℕ)} {state : State} (deck : List (List ℕ)) → punch_failed →
          Reaches S program (decks_after program cards) reports punched state → IsPunching S program state deck → CanEnd reports punched deck PunchFault

    -- The print has stopped in a report, or in the lines of an end. The reports before stand whole, and of the text in which it stopped a
    -- prefix stands. Where that is the report of a statement to which the run has come, the cards of the reports before and those of
    -- this statement are punched; where it is the end, what the punch has gained by this end.
    pub data IsCut (old new punch_old punch_new : Option (List ℕ)) : Type 0 where
      in_report : {reports : List Report} {punched : List (List ℕ)} {state : State} (outcome : StatementOutcome) (part : List ℕ) →
          Reaches S program (decks_after program cards) reports punched state → Step S program state outcome →
          IsPrefix part (reports_text (printed_by (gain_of outcome))) → Appends old new (reports_text reports ++ part) →
          Appends punch_old punch_new (card_text (punched ++ punched_by (gain_of outcome))) → IsCut old new punch_old punch_new
      in_end : {reports : List Report} {punched deck : List (List ℕ)} {ending : Ending} (part : List ℕ) → CanEnd reports punched deck ending →
          IsPrefix part (ending_text ending) → Appends old new (reports_text reports ++ part) → GainsBy ending punched deck punch_old punch_new →
          IsCut old new punch_old punch_new

  -- What a run may be answered: the status of an end, with the whole listing, and with what the punch has gained by this end; or the
  -- print has failed, or run out of memory itself, and has stopped in a report or in the lines of an end.
  pub data IsRunAnswer (print_failed print_wanted punch_failed punch_wanted : Type 0) (status : ℕ)
      (old new punch_old punch_new : Option (List ℕ)) : Type 0 where
    whole : {reports : List Report} {punched deck : List (List ℕ)} {ending : Ending} → CanEnd punch_failed punch_wanted reports punched deck ending →
        status ≡ status_of ending → Appends old new (listing reports ending) → GainsBy ending punched deck punch_old punch_new →
        IsRunAnswer print_failed print_wanted punch_failed punch_wanted status old new punch_old punch_new
    print_fails : print_failed → status ≡ status_of PrintFault → IsCut punch_failed punch_wanted old new punch_old punch_new →
        IsRunAnswer print_failed print_wanted punch_failed punch_wanted status old new punch_old punch_new
    print_wants_memory : print_wanted → status ≡ status_of Memory → IsCut punch_failed punch_wanted old new punch_old punch_new →
        IsRunAnswer print_failed print_wanted punch_failed punch_wanted status old new punch_old punch_new

  module _ (print_old print_new punch_old punch_new : SinkState) where
    -- with some gain, which is printed and punched, the statement leads there
    pub record Turns (executed : ℕ) (state : State) (new : Machine) (turn : AfterStatement) : Type 0 where
      pub gain : Gain
      pub leads : Leads executed state new gain turn
      pub prints : Writes {T = Unit {0}} print_old print_new (Ok tt) (gain_text gain)
      pub punches : Writes {T = Unit {0}} punch_old punch_new (Ok tt) (gain_cards gain)

    -- the statement leads somewhere, and the print stops before all that it gains is printed
    pub record IsStepCut (state : State) (stop : WriteStop) : Type 0 where
      pub outcome : StatementOutcome
      pub step : Step S program state outcome
      pub prints : Writes {T = Unit {0}} print_old print_new (Err stop) (gain_text (gain_of outcome))
      pub punches : Writes {T = Unit {0}} punch_old punch_new (Ok tt) (gain_cards (gain_of outcome))

    -- the statement would punch this deck, and the punch stops before all of it is punched; nothing is printed
    pub record IsDeckCut (state : State) (stop : WriteStop) : Type 0 where
      pub deck : List (List ℕ)
      pub punching : IsPunching S program state deck
      pub punches : Writes {T = Unit {0}} punch_old punch_new (Err stop) (card_text deck)
      pub is_quiet : print_new ≡ print_old

    -- What executing the statement at a position does from each state that the machine showed. Where there is no memory, nothing is
    -- printed and nothing is punched.
    abbrev pub Steps : ℕ → Machine → Machine → Result AfterStatement Halt → Type 0
    Steps position old new (Ok turn) =
        (executed : ℕ) (state : State) → executed < max_executed → Represents cards old position executed state → Turns executed state new turn
    Steps position old new (Err (halt.Print stop)) =
        (executed : ℕ) (state : State) → executed < max_executed → Represents cards old position executed state → IsStepCut state stop
    Steps position old new (Err (halt.Punch stop)) =
        (executed : ℕ) (state : State) → executed < max_executed → Represents cards old position executed state → IsDeckCut state stop
    Steps position old new (Err halt.NoMemory) = (print_new ≡ print_old) × (punch_new ≡ punch_old)

    -- how the run can end, where the punch has failed or run out of memory only as its counts say
    abbrev pub CanEndNow : List Report → List (List ℕ) → List (List ℕ) → Ending → Type 0
    CanEndNow = CanEnd (Rose punch_old.faults punch_new.faults) (Rose punch_old.refusals punch_new.refusals)

    -- the reports are printed up to this end, and their decks are punched, with a prefix of the deck in hand, where the last write to the
    -- punch came to this result
    pub record RunsTo (result : Result (Unit {0}) WriteStop) (ending : Ending) : Type 0 where
      pub reports : List Report
      pub punched : List (List ℕ)
      pub deck : List (List ℕ)
      pub can_end : CanEndNow reports punched deck ending
      pub prints : Writes {T = Unit {0}} print_old print_new (Ok tt) (reports_text reports)
      pub gains : GainsBy ending punched deck punch_old.written punch_new.written
      pub leaves : Leaves punch_old punch_new result

    -- the print stops in what a statement prints, to which the run has come
    pub record IsRunCut (stop : WriteStop) : Type 0 where
      pub reports : List Report
      pub punched : List (List ℕ)
      pub state : State
      pub reaches : Reaches S program (decks_after program cards) reports punched state
      pub outcome : StatementOutcome
      pub step : Step S program state outcome
      pub part : List ℕ
      pub is_part : IsPrefix part (reports_text (printed_by (gain_of outcome)))
      pub gains : Appends print_old.written print_new.written (reports_text reports ++ part)
      pub leaves : Leaves print_old print_new (Err stop)
      pub punches : Writes {T = Unit {0}} punch_old punch_new (Ok tt) (card_text (punched ++ punched_by (gain_of outcome)))

    -- The run ends; or the print stops it; or the punch stops it, since it has failed or has found no memory; or there is no memory.
    abbrev pub Runs : Result End Halt → Type 0
    Runs (Ok end) = RunsTo (Ok tt) (end_view end)
    Runs (Err (halt.Print stop)) = IsRunCut stop
    Runs (Err (halt.Punch stop)) = RunsTo (Err stop) (punch_end stop)
    Runs (Err halt.NoMemory) = RunsTo (Ok tt) Memory
