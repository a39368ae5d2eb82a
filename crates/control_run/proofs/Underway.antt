-- A run that is underway, and what each statement makes of it.
use Rattle.std.proofs.Common.{◌≡◌, ℕ, ◌+◌, ◌≤◌, ◌<◌, List, [], ◌++◌, Ok, Err, length, refl, sym, subst, arith}
use Rattle.job_devices.proofs.TextLemmas.{Appends-then, writes_then, writes_same, writes_nothing}
use Rattle.job_devices.specs.States.{SinkState}
use Rattle.job_devices.specs.declared.device.WriteStop.{WriteStop}
use Rattle.job_devices.specs.declared.device.WriteStop.TheVariants.{Failed, NoMemory}
use Rattle.card_definitions.specs.Prefixes.{IsPrefix}
use Rattle.job_devices.specs.Text.{Writes}
use Rattle.deck_definitions.specs.Written.{card_text}
use Rattle.control_definitions.specs.Program.{Program}
use Rattle.listing_definitions.specs.Report.{Report}
use Rattle.listing_definitions.specs.Ending.{Ended, StatementLimit, Memory}
use Rattle.listing_definitions.specs.Listing.{reports_text}
use Rattle.question_definitions.specs.Solving.{Solving}
use Rattle.run_definitions.specs.State.{State, start}
use Rattle.run_definitions.specs.Moves.{Gain, printed_by, punched_by, Goes as GoesOn, gain_of}
use Rattle.run_definitions.specs.Run.{Step, Reaches, begun, stepped, is_over, is_ended, at_end, at_limit}
use Rattle.run_machine.specs.declared.act.Halt.{Halt}
use Rattle.run_machine.specs.declared.act.Halt.TheVariants as halt
use Rattle.run_machine.specs.declared.act.AfterStatement.{AfterStatement}
use Rattle.run_machine.specs.declared.act.AfterStatement.TheVariants.{Goes, Ends}
use Rattle.run_machine.specs.declared.end.End.{End}
use Rattle.setup_verbs.specs.Machines.{Machine}
use Rattle.run_machine.specs.Ends.{end_view}
use Rattle.setup_verbs.specs.Standing.{IsSound, Represents}
use Rattle.run_machine.specs.Punching.{gain_cards}
use Rattle.control_run.specs.Running.{decks_after, by_itself, for_memory, for_memory_of_punch, for_punch_fault, Turns, IsStepCut, IsDeckCut, Steps, RunsTo}
use Rattle.control_run.specs.Running.{IsRunCut, Runs}
use Rattle.control_run.proofs.Gains.{printed_text, reports_text_more, card_text_more, gains_whole, gains_part_at_fault, gains_part_for_memory}
use Rattle.control_run.proofs.Reported.{left}

module _ (S : Solving) (program : Program) (cards : List (List ℕ)) where
  -- the run has come to a state that the machine shows, its reports so far are printed, and its decks so far are punched
  pub record IsUnderway (print_old print_now punch_old punch_now : SinkState) (machine : Machine) (position executed : ℕ) : Type 0 where
    pub sound : IsSound cards machine
    pub first : 1 ≤ position
    pub within : executed ≤ 100000
    pub state : State
    pub stands : Represents cards machine position executed state
    pub reports : List Report
    pub punched : List (List ℕ)
    pub reaches : Reaches S program (decks_after program cards) reports punched state
    pub prints : Writes {T = Unit {0}} print_old print_now (Ok tt) (reports_text reports)
    pub punches : Writes {T = Unit {0}} punch_old punch_now (Ok tt) (card_text punched)

  -- a machine at the start of the run
  pub underway_first : (print punch : SinkState) (machine : Machine) → IsSound cards machine →
      Represents cards machine 1 0 (start (decks_after program cards)) →
      IsUnderway print print punch punch machine 1 0
  underway_first print punch machine sound stands = record {
    sound = sound;
    first = omega arith;
    within = omega arith;
    state = start (decks_after program cards);
    stands = stands;
    reports = [];
    punched = [];
    reaches = begun;
    prints = writes_nothing print tt;
    punches = writes_nothing punch tt;
  }

  module _ {old now punch_old punch_now : SinkState} {machine : Machine} {position executed : ℕ}
      (u : IsUnderway old now punch_old punch_now machine position executed) where
    -- the run with one more statement, which goes on
    reaches_more : {after : State} (gain : Gain) → Step S program u.state (GoesOn gain after) →
        Reaches S program (decks_after program cards) (u.reports ++ printed_by gain) (u.punched ++ punched_by gain) after
    reaches_more {after = after} gain step = stepped gain after u.reaches step

    punches_more : {punch_later : SinkState} (gain : Gain) → Writes {T = Unit {0}} punch_now punch_later (Ok tt) (gain_cards gain) →
        Writes {T = Unit {0}} punch_old punch_later (Ok tt) (card_text (u.punched ++ punched_by gain))
    punches_more gain w = writes_same (card_text_more u.punched (punched_by gain)) (writes_then u.punches w)

    -- what is printed stays as it was, and what is punched
    prints_same : (later : SinkState) → later ≡ now → Writes {T = Unit {0}} old later (Ok tt) (reports_text u.reports)
    prints_same later same = subst (λ (p : SinkState). Writes {T = Unit {0}} old p (Ok tt) (reports_text u.reports)) (sym same) u.prints

    punches_same : (later : SinkState) → later ≡ punch_now → Writes {T = Unit {0}} punch_old later (Ok tt) (card_text u.punched)
    punches_same later same = subst (λ (q : SinkState). Writes {T = Unit {0}} punch_old q (Ok tt) (card_text u.punched)) (sym same) u.punches

  module _ {old now : SinkState} (later : SinkState) {punch_old punch_now : SinkState} (punch_later : SinkState) {machine : Machine} {position executed : ℕ}
      (u : IsUnderway old now punch_old punch_now machine position executed) where
    -- one more statement leads to another
    underway_more : {new : Machine} {to : ℕ} → executed < 100000 → IsSound cards new →
        Turns S program cards now later punch_now punch_later executed u.state new (Goes to) →
        IsUnderway old later punch_old punch_later new to (executed + 1)
    underway_more within sound t = record {
      sound = sound;
      first = t.leads.3;
      within = omega arith;
      state = t.leads.0;
      stands = t.leads.2;
      reports = u.reports ++ printed_by t.gain;
      punched = u.punched ++ punched_by t.gain;
      reaches = reaches_more u t.gain t.leads.1;
      prints = writes_same (reports_text_more u.reports t.gain) (writes_then u.prints t.prints);
      punches = punches_more u t.gain t.punches;
    }

    -- one more statement ends the run
    underway_ended : {new : Machine} (end : End) →
        Turns S program cards now later punch_now punch_later executed u.state new (Ends end) →
        RunsTo S program cards old later punch_old punch_later (Ok tt) (end_view end)
    underway_ended end t = record {
      reports = u.reports ++ printed_by t.gain;
      punched = u.punched ++ punched_by t.gain;
      deck = [];
      can_end = by_itself (is_ended t.gain u.reaches t.leads);
      prints = writes_same (reports_text_more u.reports t.gain) (writes_then u.prints t.prints);
      gains = gains_whole (end_view end) punch_old.written punch_later.written (u.punched ++ punched_by t.gain) (punches_more u t.gain t.punches).bytes;
      leaves = left (punches_more u t.gain t.punches);
    }

    -- the print stops
    underway_cut : (stop : WriteStop) → IsStepCut S program cards now later punch_now punch_later u.state stop →
        IsRunCut S program cards old later punch_old punch_later stop
    underway_cut stop t =
        let part = t.prints.bytes in
        record {
          reports = u.reports;
          punched = u.punched;
          state = u.state;
          reaches = u.reaches;
          outcome = t.outcome;
          step = t.step;
          part = part.0;
          is_part = subst (λ (text : List ℕ). IsPrefix part.0 text) (sym (printed_text (gain_of t.outcome))) part.1;
          gains = Appends-then old.written now.written later.written (reports_text u.reports) part.0 u.prints.bytes part.2;
          leaves = left (writes_then u.prints t.prints);
          punches = punches_more u (gain_of t.outcome) t.punches;
        }

    -- the punch stops in a deck
    underway_deck_cut : (stop : WriteStop) → IsDeckCut S program cards now later punch_now punch_later u.state stop →
        Runs S program cards old later punch_old punch_later (Err (halt.Punch stop))
    underway_deck_cut Failed t =
        let w = writes_then u.punches t.punches in
        record {
          reports = u.reports;
          punched = u.punched;
          deck = t.deck;
          can_end = for_punch_fault t.deck (w.cause.failed refl) u.reaches t.punching;
          prints = prints_same u later t.is_quiet;
          gains = gains_part_at_fault punch_old.written punch_now.written punch_later.written u.punched t.deck u.punches.bytes t.punches.bytes;
          leaves = left w;
        }
    underway_deck_cut NoMemory t =
        let w = writes_then u.punches t.punches in
        record {
          reports = u.reports;
          punched = u.punched;
          deck = t.deck;
          can_end = for_memory_of_punch t.deck (w.cause.no_memory refl) u.reaches t.punching;
          prints = prints_same u later t.is_quiet;
          gains = gains_part_for_memory punch_old.written punch_now.written punch_later.written u.punched t.deck u.punches.bytes t.punches.bytes;
          leaves = left w;
        }

    -- a statement finds no memory
    underway_without_memory : later ≡ now → punch_later ≡ punch_now → RunsTo S program cards old later punch_old punch_later (Ok tt) Memory
    underway_without_memory same same_punch = record {
      reports = u.reports;
      punched = u.punched;
      deck = [];
      can_end = for_memory u.reaches;
      prints = prints_same u later same;
      gains = gains_whole Memory punch_old.written punch_later.written u.punched (punches_same u punch_later same_punch).bytes;
      leaves = left (punches_same u punch_later same_punch);
    }

  -- ---- the run is over

  module _ {old now punch_old punch_now : SinkState} {machine : Machine} {position executed : ℕ}
      (u : IsUnderway old now punch_old punch_now machine position executed) where
    -- the program's end
    pub underway_over : length program.statements < position → RunsTo S program cards old now punch_old punch_now (Ok tt) (Ended 0)
    underway_over over = record {
      reports = u.reports;
      punched = u.punched;
      deck = [];
      can_end = by_itself (is_over u.reaches (at_end (rw u.stands.is_position over)));
      prints = u.prints;
      gains = gains_whole (Ended 0) punch_old.written punch_now.written u.punched u.punches.bytes;
      leaves = left u.punches;
    }

    -- the statement limit
    pub underway_at_limit : position ≤ length program.statements → 100000 ≤ executed →
        RunsTo S program cards old now punch_old punch_now (Ok tt) StatementLimit
    underway_at_limit within most = record {
      reports = u.reports;
      punched = u.punched;
      deck = [];
      can_end = by_itself (is_over u.reaches (at_limit (rw u.stands.is_position within) (rw u.stands.is_executed most)));
      prints = u.prints;
      gains = gains_whole StatementLimit punch_old.written punch_now.written u.punched u.punches.bytes;
      leaves = left u.punches;
    }

  -- ---- by what a statement's result is

  pub underway_goes : {old now later punch_old punch_now punch_later : SinkState} {machine new : Machine} {position executed to : ℕ} (turn : AfterStatement) →
      turn ≡ Goes to →
      (u : IsUnderway old now punch_old punch_now machine position executed) → executed < 100000 → IsSound cards new →
      Steps S program cards now later punch_now punch_later position machine new (Ok turn) →
      IsUnderway old later punch_old punch_later new to (executed + 1)
  underway_goes {now = now} {later = later} {punch_now = punch_now} {punch_later = punch_later} {new = new} {executed = executed} turn is u within sound steps =
      underway_more later punch_later u within sound
      (subst (λ (t : AfterStatement). Turns S program cards now later punch_now punch_later executed u.state new t) is (steps executed u.state within u.stands))

  pub underway_ends : {old now later punch_old punch_now punch_later : SinkState} {machine : Machine} (new : Machine) {position executed : ℕ}
      (turn : AfterStatement) (end : End) → turn ≡ Ends end →
      (u : IsUnderway old now punch_old punch_now machine position executed) → executed < 100000 →
      Steps S program cards now later punch_now punch_later position machine new (Ok turn) →
      RunsTo S program cards old later punch_old punch_later (Ok tt) (end_view end)
  underway_ends {now = now} {later = later} {punch_now = punch_now} {punch_later = punch_later} new {executed = executed} turn end is u within steps =
      underway_ended later punch_later u {new = new} end
      (subst (λ (t : AfterStatement). Turns S program cards now later punch_now punch_later executed u.state new t) is (steps executed u.state within u.stands))

  -- a statement comes to nothing
  pub underway_halted : {old now : SinkState} (later : SinkState) {punch_old punch_now : SinkState} (punch_later : SinkState) {machine : Machine}
      (new : Machine) {position executed : ℕ} (h : Halt) →
      (u : IsUnderway old now punch_old punch_now machine position executed) → executed < 100000 →
      Steps S program cards now later punch_now punch_later position machine new (Err h) →
      Runs S program cards old later punch_old punch_later (Err h)
  underway_halted later punch_later new halt.NoMemory u within steps = underway_without_memory later punch_later u steps.0 steps.1
  underway_halted later punch_later new {executed = executed} (halt.Print stop) u within steps =
      underway_cut later punch_later u stop (steps executed u.state within u.stands)
  underway_halted later punch_later new {executed = executed} (halt.Punch stop) u within steps =
      underway_deck_cut later punch_later u stop (steps executed u.state within u.stands)
