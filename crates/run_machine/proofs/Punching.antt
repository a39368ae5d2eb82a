-- What a statement does that punches nothing; and what BCDOUT comes to.
use Rattle.std.proofs.Common.{◌≡◌, ℕ, ◌+◌, List, [], None, Some, Result, Ok, Err, refl, sym, ap, ◌∙◌}
use Rattle.std.specs.Prelude.{min, length, IsErrOf}
use Rattle.job_devices.proofs.TextLemmas.{writes_nothing, writes_same}
use Rattle.job_devices.specs.States.{SinkState}
use Rattle.job_devices.specs.declared.device.WriteStop.{WriteStop}
use Rattle.job_devices.specs.declared.device.WriteStop.TheVariants.{Failed, NoMemory}
use Rattle.job_devices.specs.Text.{Writes}
use Rattle.problem_definitions.specs.Names.{Name}
use Rattle.problem_definitions.specs.Problem.{Problem}
use Rattle.problem_definitions.specs.Numbering.{by_names}
use Rattle.deck_definitions.specs.Written.{written as deck_fields, card_text}
use Rattle.control_definitions.specs.Program.{Verb, Bcdout}
use Rattle.control_definitions.specs.Cells.{Cells}
use Rattle.listing_definitions.specs.declared.VerbFault.TheVariants.{NoProblem}
use Rattle.listing_definitions.specs.Report.{BcdOut}
use Rattle.listing_definitions.specs.Text.{report_text}
use Rattle.problem_file.specs.Filed.{Filed}
use Rattle.run_definitions.specs.State.{Present, State, problem_of}
use Rattle.run_definitions.specs.Moves.{Gain, Punches, punched_by, StatementOutcome, next, StatementMove, Does, DecidesAlone, gain_of}
use Rattle.run_definitions.specs.Verbs.{max_counted, verb_move}
use Rattle.run_machine.specs.declared.act.Act.{Act}
use Rattle.run_machine.specs.declared.act.Act.TheVariants.{Next, Ends}
use Rattle.run_machine.specs.declared.act.Halt.{Halt}
use Rattle.run_machine.specs.declared.act.Halt.TheVariants as halt
use Rattle.run_machine.specs.declared.end.End.TheVariants as ends
use Rattle.run_machine.specs.declared.machine.Machine.{Machine}
use Rattle.run_machine.specs.Standing.{filed, Represents}
use Rattle.run_machine.specs.Statements.{Executes}
use Rattle.run_machine.specs.Punching.{gain_cards, Performs}
use Rattle.run_machine.proofs.Giving.{problem_view, settles_fault, settles_found, quietly}

module _ (punch : SinkState) where
  -- no card is punched
  no_cards_written : (gain : Gain) → punched_by gain ≡ [] → Writes {T = Unit {0}} punch punch (Ok tt) (gain_cards gain)
  no_cards_written gain none = writes_same (sym (ap card_text none)) (writes_nothing punch tt)

  -- a statement that punches nothing leaves the punch as it is
  pub punches_nothing : {K : Type 0} (Shows : Filed → K → Present → Type 0) (Given : ℕ → StatementMove → StatementOutcome → Type 0) (verb : Verb ℕ) (card : ℕ)
      (print_old print_new : SinkState) (cards : List (List ℕ)) (old new : Machine K) (result : Result Act Halt) →
      Executes Shows Given verb card print_old print_new cards old new result →
      Performs Shows Given verb card print_old print_new punch punch cards old new result
  punches_nothing Shows Given verb card print_old print_new cards old new (Ok act) executes = λ position executed state s.
      let a = executes position executed state s in
      record { gain = a.gain; comes = a.comes; prints = a.writes; punches = no_cards_written a.gain a.no_cards }
  punches_nothing Shows Given verb card print_old print_new cards old new (Err (halt.Print stop)) executes = λ position executed state s.
      let a = executes position executed state s in
      record { outcome = a.outcome; gives = a.gives; prints = a.writes; punches = no_cards_written (gain_of a.outcome) a.no_cards }
  punches_nothing Shows Given verb card print_old print_new cards old new (Err (halt.Punch stop)) executes = absurd executes
  punches_nothing Shows Given verb card print_old print_new cards old new (Err halt.NoMemory) executes = (executes, refl)

-- ---- BCDOUT

-- what a call wrote whose value is of no matter
pub wrote : {T : Type 0} {old new : SinkState} (value : T) (text : List ℕ) → Writes {T = T} old new (Ok value) text →
    Writes {T = Unit {0}} old new (Ok tt) text
wrote value text w = record {
  bytes = w.bytes;
  cause =
      record {
        later = w.cause.later;
        later_refusals = w.cause.later_refusals;
        failed = λ h. absurd (cc h);
        no_memory = λ h. absurd
            (cc h);
        no_fault = w.cause.no_fault;
        no_refusal = w.cause.no_refusal;
        failed_alone = λ h. absurd (cc h);
        wanted_alone = λ h. absurd (cc h);
      };
  stopped = w.stopped;
}

same_stop : {T : Type 0} (result : Result T WriteStop) (a b : WriteStop) → result ≡ Err a → IsErrOf result b → a ≡ b
same_stop result a b is also = cc

pub stopped : {T : Type 0} {old new : SinkState} (stop : WriteStop) (text : List ℕ) → Writes {T = T} old new (Err stop) text →
    Writes {T = Unit {0}} old new (Err stop) text
stopped stop text w = record {
  bytes = w.bytes;
  cause = record {
    later = w.cause.later;
    later_refusals = w.cause.later_refusals;
    failed = λ h. w.cause.failed (ap (λ s. Err s) (same_stop {T = Unit {0}} (Err stop) stop Failed refl h));
    no_memory = λ h. w.cause.no_memory (ap (λ s. Err s) (same_stop {T = Unit {0}} (Err stop) stop NoMemory refl h));
    no_fault = tt;
    no_refusal = tt;
    failed_alone = λ h. w.cause.failed_alone (ap (λ s. Err s) (same_stop {T = Unit {0}} (Err stop) stop Failed refl h));
    wanted_alone = λ h. w.cause.wanted_alone (ap (λ s. Err s) (same_stop {T = Unit {0}} (Err stop) stop NoMemory refl h));
  };
  stopped = w.stopped;
}

-- the cards of a problem, and what BCDOUT makes of it
abbrev cards_of : Problem ℕ → List (List ℕ)
cards_of problem = deck_fields (by_names problem)

abbrev punches_it : State → Problem ℕ → StatementOutcome
punches_it state problem = next (Punches (BcdOut problem.name (min (length (cards_of problem)) max_counted)) (cards_of problem)) state

punch_gives : (card : ℕ) (state : State) (problem : Problem ℕ) → problem_of state.cells.xpbname state.file ≡ Some problem →
    DecidesAlone card (verb_move Bcdout card state) (punches_it state problem)
unfolding verb_move
punch_gives card state problem is =
    settles_found card NoProblem (problem_of state.cells.xpbname state.file) (λ (p : Problem ℕ). Does (punches_it state p)) problem
    (punches_it state problem) is refl

module _ {K : Type 0} (Shows : Filed → K → Present → Type 0) (card : ℕ) (cards : List (List ℕ)) (machine : Machine K) where
  pub no_problem_punched : (print punch : SinkState) → filed machine.cells.xpbname machine.file ≡ None →
      Performs Shows DecidesAlone Bcdout card print print punch punch cards machine machine (Ok (Ends (ends.Verb NoProblem card)))
  unfolding verb_move
  no_problem_punched print punch none =
      punches_nothing punch Shows DecidesAlone Bcdout card print print cards machine machine (Ok (Ends (ends.Verb NoProblem card)))
      (quietly Shows DecidesAlone Bcdout card cards machine print
      (λ position executed state s. settles_fault card NoProblem (problem_of state.cells.xpbname state.file) _
      (problem_view s (λ (c : Cells). c.xpbname) None none)))

  module _ (problem : Problem ℕ) (on_file : filed machine.cells.xpbname machine.file ≡ Some problem) where
    gives_at : {position executed : ℕ} {state : State} → Represents Shows cards machine position executed state →
        DecidesAlone card (verb_move Bcdout card state) (punches_it state problem)
    gives_at {state = state} s = punch_gives card state problem (problem_view s (λ (c : Cells). c.xpbname) (Some problem) on_file)

    -- the punch stops in the deck
    pub deck_cut : (print : SinkState) {punch_old punch_new : SinkState} {T : Type 0} (stop : WriteStop) →
        Writes {T = T} punch_old punch_new (Err stop) (card_text (cards_of problem)) →
        Performs Shows DecidesAlone Bcdout card print print punch_old punch_new cards machine machine (Err (halt.Punch stop))
    deck_cut print stop punches = λ position executed state s. record {
      report = BcdOut problem.name (min (length (cards_of problem)) max_counted);
      deck = cards_of problem;
      after = record state { position = state.position + 1 };
      gives = gives_at s;
      punches = stopped stop (card_text (cards_of problem)) punches;
      is_quiet = refl;
    }

    module _ {print_old print_new punch_old punch_new : SinkState} (name : Name) (is_name : name ≡ problem.name) (count : ℕ)
        (is_count : count ≡ min (length (cards_of problem)) max_counted)
        (punches : Writes {T = ℕ} punch_old punch_new (Ok count) (card_text (cards_of problem))) where
      -- the line is that of the report
      own_line : (result : Result (Unit {0}) WriteStop) → Writes {T = Unit {0}} print_old print_new result (report_text (BcdOut name count)) →
          Writes {T = Unit {0}} print_old print_new result (report_text (BcdOut problem.name (min (length (cards_of problem)) max_counted)))
      own_line result prints =
          writes_same (ap (λ (n : Name). report_text (BcdOut n count)) is_name ∙ ap (λ (k : ℕ). report_text (BcdOut problem.name k)) is_count) prints

      pub deck_punched : Writes {T = Unit {0}} print_old print_new (Ok tt) (report_text (BcdOut name count)) →
          Performs Shows DecidesAlone Bcdout card print_old print_new punch_old punch_new cards machine machine (Ok Next)
      deck_punched prints = λ position executed state s. record {
        gain = Punches (BcdOut problem.name (min (length (cards_of problem)) max_counted)) (cards_of problem);
        comes = (state, gives_at s, s);
        prints = own_line (Ok tt) prints;
        punches = wrote count (card_text (cards_of problem)) punches;
      }

      -- the deck is punched, and the print stops in its line
      pub deck_line_cut : (stop : WriteStop) → Writes {T = Unit {0}} print_old print_new (Err stop) (report_text (BcdOut name count)) →
          Performs Shows DecidesAlone Bcdout card print_old print_new punch_old punch_new cards machine machine (Err (halt.Print stop))
      deck_line_cut stop prints = λ position executed state s. record {
        outcome = punches_it state problem;
        gives = gives_at s;
        prints = own_line (Err stop) prints;
        punches = wrote count (card_text (cards_of problem)) punches;
      }
