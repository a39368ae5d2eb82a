-- A statement that needs a setup, and goes on with what is selected of it.
use Rattle.std.proofs.Common.{◌≡◌, ℕ, List, Option, Some, None, Ok, inr, refl, sym, ap, subst, ◌∙◌}
use Rattle.job_devices.specs.States.{SinkState}
use Rattle.lp_definitions.specs.LinearProgram.{LinearProgram}
use Rattle.lp_definitions.specs.declared.Evidence.{Evidence}
use Rattle.problem_definitions.specs.Problem.{Problem}
use Rattle.problem_file.specs.Filed.{filed_under}
use Rattle.control_definitions.specs.Program.{Verb}
use Rattle.control_definitions.specs.Cells.{Cells}
use Rattle.selection_definitions.specs.Selection.{selected}
use Rattle.listing_definitions.specs.declared.VerbFault.{VerbFault}
use Rattle.listing_definitions.specs.declared.VerbFault.TheVariants.{NoSetup}
use Rattle.listing_definitions.specs.Ending as endings
use Rattle.fitting_answers.specs.Real.{linear_programming_of_128_bits}
use Rattle.run_definitions.specs.State.{Present, State, choice_of}
use Rattle.run_definitions.specs.Moves.{StatementOutcome, stops, InSelection, SelectionOverflows, StatementMove, MayStop, Gives, or_fault}
use Rattle.run_definitions.specs.Verbs.{or_selection_fault, selects_present, verb_move}
use Rattle.run_machine.specs.declared.selecting.Refusal.{Refusal}
use Rattle.run_machine.specs.declared.selecting.Refusal.TheVariants.{Fault, Overflow, NoMemory}
use Rattle.run_machine.specs.Choosing.{HasSelectionFault, HasSelectionOverflow, IsUnselected, refused_act}
use Rattle.setup_verbs.specs.Kept.{Setup}
use Rattle.setup_verbs.specs.Machines.{Machine}
use Rattle.setup_verbs.specs.Standing.{IsPresent, ShowsSetup, Represents}
use Rattle.setup_verbs.specs.Statements.{Executes}
use Rattle.run_machine.proofs.Giving.{quietly}
use Rattle.setup_verbs.proofs.Giving.{gives_fault, gives_found, gives_unselected, gives_selected}
use Rattle.setup_verbs.proofs.Present.{present_with, IsPresentOf, present_at}

-- the state has no setup where the machine has none
pub setup_gone : (cards : List (List ℕ)) (machine : Machine) → machine.setup ≡ None → {position executed : ℕ} {state : State} →
    Represents cards machine position executed state → state.setup ≡ None
setup_gone cards machine none {state = state} s = subst (λ (kept : Option Setup). ShowsSetup machine.file kept state.setup) none s.setup

-- what the statement does with a setup, and with what is selected
module _ (verb : Verb ℕ) (card : ℕ) (go : State → Present → LinearProgram → StatementMove)
    (begins : (state : State) (outcome : StatementOutcome) →
    Gives linear_programming_of_128_bits card
    (or_fault card NoSetup state.setup (λ present. selects_present card state present (go state present))) outcome →
    Gives linear_programming_of_128_bits card (verb_move verb card state) outcome) where
  abbrev pub selecting_move : State → Present → LinearProgram → StatementMove
  selecting_move state present lp = MayStop (InSelection present.problem (choice_of state.cells present.options)) (go state present lp)

  abbrev pub with_setup : State → Present → StatementMove
  with_setup state present = or_selection_fault card (selected present.problem (choice_of state.cells present.options)) (selecting_move state present)

  pub without_setup : (cards : List (List ℕ)) (machine : Machine) (print : SinkState) → machine.setup ≡ None →
      Executes linear_programming_of_128_bits verb card print print cards machine machine (refused_act card (Fault NoSetup))
  without_setup cards machine print none =
      quietly IsPresent (Gives linear_programming_of_128_bits) verb card cards machine print (λ position executed state s.
      begins state (stops (endings.VerbStop (record { fault = NoSetup; card = card })))
      (gives_fault card NoSetup state.setup (with_setup state) (setup_gone cards machine none s)))

  module _ (cards : List (List ℕ)) (old : Machine) (setup : Setup) (is_setup : old.setup ≡ Some setup) (problem : Problem ℕ)
      (on_file : filed_under setup.name old.file ≡ Some problem) where
    module _ {position executed : ℕ} {state : State} (s : Represents cards old position executed state) where
      pub viewed : IsPresentOf problem setup state.setup
      viewed = present_at old.file setup state.setup problem on_file (subst (λ (kept : Option Setup). ShowsSetup old.file kept state.setup) is_setup s.setup)

      abbrev pub present : Present
      present = present_with problem setup.options viewed.opening viewed.steps

      setup_gives : (outcome : StatementOutcome) → Gives linear_programming_of_128_bits card (with_setup state present) outcome →
          Gives linear_programming_of_128_bits card (verb_move verb card state) outcome
      setup_gives outcome g = begins state outcome (gives_found card NoSetup state.setup (with_setup state) present outcome viewed.is_viewed g)

      pub selected_gives : (lp : LinearProgram) → selected problem (choice_of old.cells setup.options) ≡ Ok lp → (outcome : StatementOutcome) →
          Gives linear_programming_of_128_bits card (selecting_move state present lp) outcome →
          Gives linear_programming_of_128_bits card (verb_move verb card state) outcome
      selected_gives lp ok outcome g =
          setup_gives outcome (gives_selected card (selected problem (choice_of state.cells setup.options)) (selecting_move state present) lp outcome
          (ap (λ (c : Cells). selected problem (choice_of c setup.options)) s.cells ∙ ok) g)

      pub fault_gives : (fault : VerbFault) → HasSelectionFault problem (choice_of old.cells setup.options) fault →
          Gives linear_programming_of_128_bits card (verb_move verb card state) (stops (endings.VerbStop (record { fault = fault; card = card })))
      fault_gives fault h =
          setup_gives (stops (endings.VerbStop (record { fault = fault; card = card })))
          (gives_unselected card (selected problem (choice_of state.cells setup.options)) (selecting_move state present) h.why fault
          (ap (λ (c : Cells). selected problem (choice_of c setup.options)) s.cells ∙ h.is_refused) h.is_fault)

      pub overflow_gives : (e : Evidence) → HasSelectionOverflow problem (choice_of old.cells setup.options) e →
          Gives linear_programming_of_128_bits card (verb_move verb card state)
          (stops (endings.OverflowStop (record { evidence = e; place = None; card = card })))
      overflow_gives e h =
          selected_gives h.lp h.is_selected (stops (endings.OverflowStop (record { evidence = e; place = None; card = card })))
          (inr (e, None, (subst (λ (c : Cells). SelectionOverflows problem (choice_of c setup.options) e None) (sym s.cells) (h.is_refusal, refl)), refl))

    -- nothing is selected
    pub unselected : (print : SinkState) (refusal : Refusal) → IsUnselected problem (choice_of old.cells setup.options) refusal →
        Executes linear_programming_of_128_bits verb card print print cards old old (refused_act card refusal)
    unselected print (Fault fault) u =
        quietly IsPresent (Gives linear_programming_of_128_bits) verb card cards old print (λ position executed state s. fault_gives s fault u)
    unselected print (Overflow e) u =
        quietly IsPresent (Gives linear_programming_of_128_bits) verb card cards old print (λ position executed state s. overflow_gives s e u)
    unselected print NoMemory u = refl
