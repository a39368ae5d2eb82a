-- How a statement comes to something.
use Rattle.std.proofs.Common.{◌≡◌, ℕ, List, [], Option, None, Some, Ok, Err, refl, sym, ap, subst, ◌∙◌}
use Rattle.job_devices.proofs.TextLemmas.{writes_nothing}
use Rattle.job_devices.specs.States.{SinkState}
use Rattle.job_devices.specs.declared.device.WriteStop.{WriteStop}
use Rattle.job_devices.specs.Text.{Writes}
use Rattle.problem_definitions.specs.Names.{Name}
use Rattle.problem_definitions.specs.Problem.{Problem}
use Rattle.problem_file.specs.Filed.{Filed}
use Rattle.control_definitions.specs.Cells.{Cells}
use Rattle.control_definitions.specs.Program.{Verb}
use Rattle.listing_definitions.specs.declared.VerbFault.{VerbFault}
use Rattle.listing_definitions.specs.Report.{Report}
use Rattle.listing_definitions.specs.Text.{report_text}
use Rattle.listing_definitions.specs.Ending.{VerbStop}
use Rattle.run_definitions.specs.State.{Present, State, problem_of}
use Rattle.run_definitions.specs.Moves.{Gain, Nothing, Prints, punched_by, StatementOutcome, stops, StatementMove, DecidesAlone, or_fault, gain_of, gain_text}
use Rattle.run_definitions.specs.Verbs.{verb_move}
use Rattle.run_machine.specs.declared.act.Act.{Act}
use Rattle.run_machine.specs.declared.act.Halt.TheVariants as halt
use Rattle.run_machine.specs.declared.machine.Machine.{Machine}
use Rattle.run_machine.specs.Standing.{filed, Represents}
use Rattle.run_machine.specs.Statements.{LeadsTo, Executes}

-- the problem that a cell names, or the one filed last, is the same in the state
pub problem_view : {K : Type 0} {Shows : Filed → K → Present → Type 0} {cards : List (List ℕ)} {machine : Machine K} {position executed : ℕ} {state : State} →
    Represents Shows cards machine position executed state →
    (cell : Cells → Option Name) (found : Option (Problem ℕ)) → filed (cell machine.cells) machine.file ≡ found →
    problem_of (cell state.cells) state.file ≡ found
problem_view {machine = machine} {state = state} s cell found e = s.file (cell state.cells) ∙ ap (λ (c : Cells). filed (cell c) machine.file) s.cells ∙ e

-- a verb fault
pub settles_fault : {X : Type 0} (card : ℕ) (fault : VerbFault) (found : Option X) (go : X → StatementMove) → found ≡ None →
    DecidesAlone card (or_fault card fault found go) (stops (VerbStop (record { fault = fault; card = card })))
settles_fault card fault found go none =
    subst (λ o. DecidesAlone card (or_fault card fault o go) (stops (VerbStop (record { fault = fault; card = card })))) (sym none) refl

-- no verb fault
pub settles_found : {X : Type 0} (card : ℕ) (fault : VerbFault) (found : Option X) (go : X → StatementMove) (x : X) (outcome : StatementOutcome) →
    found ≡ Some x → DecidesAlone card (go x) outcome → DecidesAlone card (or_fault card fault found go) outcome
settles_found card fault found go x outcome some given = subst (λ o. DecidesAlone card (or_fault card fault o go) outcome) (sym some) given

-- ---- with what is printed

module _ {K : Type 0} (Shows : Filed → K → Present → Type 0) (Given : ℕ → StatementMove → StatementOutcome → Type 0) (verb : Verb ℕ) (card : ℕ)
    (cards : List (List ℕ)) (old : Machine K) where
  pub quietly : (print : SinkState) {new : Machine K} {act : Act} →
      ((position executed : ℕ) (state : State) → Represents Shows cards old position executed state →
      LeadsTo Shows Given verb card cards position executed state new Nothing act) →
      Executes Shows Given verb card print print cards old new (Ok act)
  quietly print comes =
      λ position executed state s. record { gain = Nothing; no_cards = refl; comes = comes position executed state s; writes = writes_nothing print tt }

  pub loudly : {print_old print_new : SinkState} {new : Machine K} {act : Act} (report : Report) →
      ((position executed : ℕ) (state : State) → Represents Shows cards old position executed state →
      LeadsTo Shows Given verb card cards position executed state new (Prints report) act) →
      Writes {T = Unit {0}} print_old print_new (Ok tt) (report_text report) →
      Executes Shows Given verb card print_old print_new cards old new (Ok act)
  loudly report comes writes =
      λ position executed state s. record { gain = Prints report; no_cards = refl; comes = comes position executed state s; writes = writes }

  -- the report is broken off
  pub cut_off : {print_old print_new : SinkState} (new : Machine K) (stop : WriteStop) (report : Report) →
      ((position executed : ℕ) (state : State) → Represents Shows cards old position executed state →
      (outcome : StatementOutcome) × Given card (verb_move verb card state) outcome × (gain_of outcome ≡ Prints report)) →
      Writes {T = Unit {0}} print_old print_new (Err stop) (report_text report) →
      Executes Shows Given verb card print_old print_new cards old new (Err (halt.Print stop))
  cut_off {print_old = print_old} {print_new = print_new} new stop report comes writes = λ position executed state s.
      let t = comes position executed state s in
      record {
        outcome = t.0;
        no_cards = subst (λ (g : Gain). punched_by g ≡ []) (sym t.2) refl;
        gives = t.1;
        writes = subst (λ (g : Gain). Writes {T = Unit {0}} print_old print_new (Err stop) (gain_text g)) (sym t.2) writes;
      }
