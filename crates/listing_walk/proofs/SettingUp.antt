-- What SETUP comes to.
use Rattle.std.proofs.Common.{◌≡◌, ℕ, not, List, [], Option, Some, None, Result, Ok, Err, IfOk, refl, sym, ap, subst, ◌∙◌}
use Rattle.lp_definitions.specs.LinearProgram.{LinearProgram}
use Rattle.lp_definitions.specs.Basis.{opening_statuses}
use Rattle.problem_definitions.specs.Names.{Name}
use Rattle.problem_definitions.specs.Problem.{Problem}
use Rattle.problem_file.specs.Filed.{Filed, filed_under}
use Rattle.control_definitions.specs.Program.{SetupOptions, Setup as SetupVerb}
use Rattle.control_definitions.specs.Cells.{Cells}
use Rattle.selection_definitions.specs.Selection.{selected}
use Rattle.listing_definitions.specs.declared.VerbFault.{VerbFault}
use Rattle.listing_definitions.specs.declared.VerbFault.TheVariants.{NoProblem}
use Rattle.listing_definitions.specs.Report.{SetUp}
use Rattle.listing_definitions.specs.Text.{report_text}
use Rattle.listing_definitions.specs.Ending.{VerbStop}
use Rattle.run_definitions.specs.State.{Present, State, problem_of, choice_of}
use Rattle.run_definitions.specs.Moves.{Nothing, Prints, StatementOutcome, next, stops, InSelection, StatementMove, Does, MayStop}
use Rattle.run_definitions.specs.Verbs.{or_selection_fault, verb_move}
use Rattle.run_machine.specs.declared.act.Act.TheVariants as acts
use Rattle.run_machine.specs.declared.end.End.TheVariants as ends
use Rattle.run_machine.specs.declared.machine.Machine.{Machine}
use Rattle.run_machine.specs.Choosing.{HasSelectionFault}
use Rattle.run_machine.specs.Standing.{named, filed}
use Rattle.run_machine.specs.Standing as machines
use Rattle.run_machine.proofs.Giving.{problem_view}
use Rattle.walk_definitions.specs.Checkers.{Checker}
use Rattle.walk_definitions.specs.Walker as walks
use Rattle.listing_walk.specs.declared.chosen.Chosen.{Chosen}
use Rattle.listing_walk.specs.declared.chosen.Named.{Named}
use Rattle.listing_walk.specs.declared.found.Found.{Found}
use Rattle.listing_walk.specs.declared.place.ListingPlace.{ListingPlace}
use Rattle.listing_walk.specs.declared.selecting.Unselected.{Unselected}
use Rattle.listing_walk.specs.declared.selecting.Unselected.TheVariants.{Fault, Unchecked}
use Rattle.listing_walk.specs.declared.selecting.Unselected.TheVariants as unselected
use Rattle.std.specs.declared.alloc.AllocError.{AllocError as NoMemory}
use Rattle.listing_walk.specs.declared.walk_step.WalkStep.{WalkStep}
use Rattle.listing_walk.specs.declared.walk_step.WalkStep.TheVariants as walk_step
use Rattle.listing_walk.specs.Ended.{found_view}
use Rattle.listing_walk.specs.Choosing.{IsMade, IsRefused, IsNotMade, IsOpened, IsNotOpened, no_problem, not_selected}
use Rattle.listing_walk.specs.Standing.{IsView, Faces}
use Rattle.listing_walk.specs.Walking.{TurnsTo, Passes, Refuses, Walks, IsUnchecked}
use Rattle.listing_walk.proofs.Selected.{fault_move, found_move, unselected_move, selected_move, made_turn, refused_turn}

-- the problem that is wanted is on file
pub filed_by : (wanted : Option Name) (file : Filed) (name : Name) (found : Option (Problem ℕ)) → named wanted file ≡ Some name →
    filed_under name file ≡ found → filed wanted file ≡ found
filed_by wanted file name found is on_file = rw is on_file

-- no problem is wanted, and none was put last
pub filed_none : (wanted : Option Name) (file : Filed) → named wanted file ≡ None → filed wanted file ≡ None
filed_none wanted file none = rw none refl

-- ---- a fault

-- a move that is a verb fault
pub faulted : (C : Checker) (cards : List (List ℕ)) (machine : Machine Chosen) (old new : ListingPlace) (fault : VerbFault) (card : ℕ) (next_step : WalkStep) →
    Passes machine old new (acts.Ends (ends.Verb fault card)) [] next_step →
    (w : walks.Walker) (move : StatementMove) (position executed : ℕ) → Faces old w → move ≡ Does (stops (VerbStop (record { fault = fault; card = card }))) →
    TurnsTo (walks.walk_move C w move) cards machine position executed new next_step
faulted C cards machine old new fault card next_step passes w move position executed f is =
    subst (λ (m : StatementMove). TurnsTo (walks.walk_move C w m) cards machine position executed new next_step) (sym is)
    (passes C w card (Does (stops (VerbStop (record { fault = fault; card = card })))) cards position executed Nothing f refl refl refl)

-- ---- what SETUP comes to

abbrev kept : Problem ℕ → SetupOptions → LinearProgram → Present
kept problem options lp = record { problem = problem; options = options; opening = opening_statuses lp; steps = [] }

abbrev after_setup : Problem ℕ → SetupOptions → LinearProgram → State → State
after_setup problem options lp state = record state { setup = Some (kept problem options lp); mark = None }

abbrev outcome_of : Problem ℕ → SetupOptions → LinearProgram → State → StatementOutcome
outcome_of problem options lp state = next (Prints (SetUp problem.name options.sense)) (after_setup problem options lp state)

module _ (card : ℕ) (options : SetupOptions) (state : State) where
  abbrev go_selected : Problem ℕ → LinearProgram → StatementMove
  go_selected problem lp = MayStop (InSelection problem (choice_of state.cells options)) (Does (outcome_of problem options lp state))

  abbrev go_found : Problem ℕ → StatementMove
  go_found problem = or_selection_fault card (selected problem (choice_of state.cells options)) (go_selected problem)

  no_problem_move : problem_of state.cells.xpbname state.file ≡ None →
      verb_move (SetupVerb options) card state ≡ Does (stops (VerbStop (record { fault = NoProblem; card = card })))
  unfolding verb_move
  no_problem_move none = fault_move card NoProblem (problem_of state.cells.xpbname state.file) go_found none

  refused_move : (problem : Problem ℕ) (fault : VerbFault) → problem_of state.cells.xpbname state.file ≡ Some problem →
      HasSelectionFault problem (choice_of state.cells options) fault →
      verb_move (SetupVerb options) card state ≡ Does (stops (VerbStop (record { fault = fault; card = card })))
  unfolding verb_move
  refused_move problem fault is h =
      found_move card NoProblem (problem_of state.cells.xpbname state.file) go_found problem is ∙
      unselected_move card (selected problem (choice_of state.cells options)) (go_selected problem) h.why fault h.is_refused h.is_fault

  set_up_move : (problem : Problem ℕ) (lp : LinearProgram) → problem_of state.cells.xpbname state.file ≡ Some problem →
      selected problem (choice_of state.cells options) ≡ Ok lp →
      verb_move (SetupVerb options) card state ≡ go_selected problem lp
  unfolding verb_move
  set_up_move problem lp is ok =
      found_move card NoProblem (problem_of state.cells.xpbname state.file) go_found problem is ∙
      selected_move card (selected problem (choice_of state.cells options)) (go_selected problem) lp ok

module _ (C : Checker) (card : ℕ) (cards : List (List ℕ)) (machine : Machine Chosen) (options : SetupOptions) where
  fault_by : (fault : VerbFault) (refusal : Unselected) → refusal ≡ Fault fault → IsNotOpened machine.cells machine.file options refusal →
      {position executed : ℕ} {state : State} → machines.Represents IsView cards machine position executed state →
      verb_move (SetupVerb options) card state ≡ Does (stops (VerbStop (record { fault = fault; card = card })))
  fault_by fault (Fault other) is (no_problem none) {state = state} s =
      let same : NoProblem ≡ fault = cc in
      no_problem_move card options state (problem_view s (λ (c : Cells). c.xpbname) None none)
      ∙ ap (λ (f : VerbFault). Does (stops (VerbStop (record { fault = f; card = card })))) same
  fault_by fault refusal is (not_selected problem some h) {state = state} s =
      refused_move card options state problem fault (problem_view s (λ (c : Cells). c.xpbname) (Some problem) some)
      (subst (λ (c : Cells). HasSelectionFault problem (choice_of c options) fault) (sym s.cells)
      (subst (IsNotMade problem (choice_of machine.cells options)) is h))

  pub setup_faulted : (old new : ListingPlace) (fault : VerbFault) (next_step : WalkStep) → IsNotOpened machine.cells machine.file options (Fault fault) →
      Passes machine old new (acts.Ends (ends.Verb fault card)) [] next_step →
      Walks C (SetupVerb options) card cards machine machine old new next_step
  setup_faulted old new fault next_step h passes = λ position executed state w s f.
      faulted C cards machine old new fault card next_step passes w (verb_move (SetupVerb options) card state) position executed f
      (fault_by fault (Fault fault) refl h s)

  unchecked_by : (refusal : Unselected) → refusal ≡ Unchecked → IsNotOpened machine.cells machine.file options refusal →
      (found : Found) (place : ListingPlace) → IsUnchecked place found →
      {position executed : ℕ} (state : State) (w : walks.Walker) → machines.Represents IsView cards machine position executed state → Faces place w →
      walks.walk_move C w (verb_move (SetupVerb options) card state) ≡ walks.Finds (found_view found)
  unchecked_by (Fault other) is (no_problem none) found place u state w s f = absurd (cc is)
  unchecked_by refusal is (not_selected problem some h) found place u state w s f =
      let r : IsRefused problem (choice_of state.cells options) =
      subst (λ (c : Cells). IsRefused problem (choice_of c options)) (sym s.cells) (subst (IsNotMade problem (choice_of machine.cells options)) is h) in
      ap (walks.walk_move C w) (set_up_move card options state problem r.lp (problem_view s (λ (c : Cells). c.xpbname) (Some problem) some) r.is_selected) ∙
      refused_turn C w problem (choice_of state.cells options) (Does (outcome_of problem options r.lp state)) r.is_refused ∙ u w f

  pub setup_unchecked : IsNotOpened machine.cells machine.file options Unchecked → (found : Found) (old new : ListingPlace) → IsUnchecked old found →
      Walks C (SetupVerb options) card cards machine machine old new (walk_step.Finds found)
  setup_unchecked h found old new u = λ position executed state w s f. unchecked_by Unchecked refl h found old u state w s f

  module _ (opened : Named) (o : IsOpened machine.cells machine.file options opened) where
    abbrev pub machine_after : Machine Chosen
    machine_after = record machine { setup = Some opened.chosen; mark = None }

    stands_set_up : {position executed : ℕ} {state : State} → machines.Represents IsView cards machine position executed state →
        machines.Represents IsView cards machine_after position executed (after_setup o.problem options opened.chosen.lp state)
    stands_set_up s = record {
      is_position = s.is_position;
      is_executed = s.is_executed;
      cells = s.cells;
      file = s.file;
      decks = s.decks;
      setup = (kept o.problem options opened.chosen.lp, refl, record { on_file = o.is_filed; has_options = sym o.are_options });
      mark = refl;
    }

    pub setup_done : (old new : ListingPlace) (text : List ℕ) (next_step : WalkStep) → text ≡ report_text (SetUp opened.name options.sense) →
        Passes machine_after old new acts.Next text next_step →
        Walks C (SetupVerb options) card cards machine machine_after old new next_step
    setup_done old new text next_step is passes = λ position executed state w s f.
        let made : IsMade o.problem (choice_of state.cells options) opened.chosen.lp =
        subst (λ (c : Cells). IsMade o.problem (choice_of c options) opened.chosen.lp) (sym s.cells) o.made in
        let is_problem : problem_of state.cells.xpbname state.file ≡ Some o.problem =
        problem_view s (λ (c : Cells). c.xpbname) (Some o.problem)
        (filed_by machine.cells.xpbname machine.file opened.chosen.name (Some o.problem) o.is_named o.is_filed) in
        let outcome : StatementOutcome = outcome_of o.problem options opened.chosen.lp state in
        subst (λ (t : walks.WalkTurn). TurnsTo t cards machine_after position executed new next_step)
        (sym (ap (walks.walk_move C w) (set_up_move card options state o.problem opened.chosen.lp is_problem made.is_selected)
        ∙ made_turn C w o.problem (choice_of state.cells options) (Does outcome) made.is_made))
        (passes C w card (Does outcome) cards position executed (Prints (SetUp o.problem.name options.sense)) f refl
        (after_setup o.problem options opened.chosen.lp state, refl, stands_set_up s)
        (ap (λ (n : Name). report_text (SetUp n options.sense)) (sym o.is_own) ∙ sym is))

-- ---- by the result

module _ (C : Checker) (card : ℕ) (cards : List (List ℕ)) (machine : Machine Chosen) (options : SetupOptions) (old new : ListingPlace)
    (result : Result WalkStep NoMemory) where
  pub setup_done_by : (opened : Named) (o : IsOpened machine.cells machine.file options opened) (text : List ℕ) →
      text ≡ report_text (SetUp opened.name options.sense) →
      IfOk result (Passes (record machine { setup = Some opened.chosen; mark = None }) old new acts.Next text) →
      IfOk result (Walks C (SetupVerb options) card cards machine (record machine { setup = Some opened.chosen; mark = None }) old new)
  setup_done_by opened o text is passes = done result passes
    where
      done : (r : Result WalkStep NoMemory) → IfOk r (Passes (record machine { setup = Some opened.chosen; mark = None }) old new acts.Next text) →
          IfOk r (Walks C (SetupVerb options) card cards machine (record machine { setup = Some opened.chosen; mark = None }) old new)
      done (Ok next_step) h = setup_done C card cards machine options opened o old new text next_step is h
      done (Err stop) h = tt

  pub setup_refused_by : (refusal : Unselected) → IsNotOpened machine.cells machine.file options refusal → (found : Found) → IsUnchecked old found →
      IfOk result (Refuses machine old new card refusal found) →
      IfOk result (Walks C (SetupVerb options) card cards machine machine old new)
  setup_refused_by refusal not found u refuses = by refusal not result refuses
    where
      by : (refusal : Unselected) → IsNotOpened machine.cells machine.file options refusal → (r : Result WalkStep NoMemory) →
          IfOk r (Refuses machine old new card refusal found) → IfOk r (Walks C (SetupVerb options) card cards machine machine old new)
      by (Fault fault) not (Ok next_step) passes = setup_faulted C card cards machine options old new fault next_step not passes
      by Unchecked not (Ok next_step) is =
          subst (λ (x : WalkStep). Walks C (SetupVerb options) card cards machine machine old new x) (sym is)
          (setup_unchecked C card cards machine options not found old new u)
      by unselected.NoMemory not (Ok next_step) refuses = absurd refuses
      by refusal not (Err stop) refuses = tt
