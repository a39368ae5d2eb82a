-- What the verbs come to that select again by the present cells.
use Rattle.std.proofs.Common.{◌≡◌, ℕ, ◌≤◌, true, List, [], Option, Some, None, IfSome, IsSome, Result, Ok, Err, IfOk, refl, sym, ap, subst, ◌∙◌}
use Rattle.std.proofs.lemmas.Option.{same_Some}
use Rattle.std.specs.declared.alloc.AllocError.{AllocError as NoMemory}
use Rattle.lp_definitions.specs.LinearProgram.{LinearProgram}
use Rattle.problem_definitions.specs.Problem.{Problem}
use Rattle.problem_file.specs.Filed.{Filed, filed_under}
use Rattle.control_definitions.specs.Program.{SetupOptions, Verb}
use Rattle.control_definitions.specs.Cells.{Cells}
use Rattle.selection_definitions.specs.Choice.{Choice}
use Rattle.selection_definitions.specs.Selection.{selected}
use Rattle.listing_definitions.specs.declared.Mark.{Mark}
use Rattle.listing_definitions.specs.declared.Mark.TheVariants as marks
use Rattle.listing_definitions.specs.declared.VerbFault.{VerbFault}
use Rattle.listing_definitions.specs.declared.VerbFault.TheVariants.{NoSetup}
use Rattle.listing_definitions.specs.Report.{Report}
use Rattle.listing_definitions.specs.Ending as endings
use Rattle.question_definitions.specs.Answers.{Basis}
use Rattle.run_definitions.specs.State.{Present, State, choice_of}
use Rattle.run_definitions.specs.Moves.{Prints, Ends, stops, InSelection, StatementMove, Does, MayStop, or_fault}
use Rattle.run_definitions.specs.Verbs.{selects_present, by_verdict, demanded, verb_move}
use Rattle.run_machine.specs.declared.act.Act.TheVariants as acts
use Rattle.run_machine.specs.declared.end.End.{End}
use Rattle.run_machine.specs.declared.end.End.TheVariants as ends
use Rattle.run_machine.specs.declared.finding.Finding.TheVariants.{Ended}
use Rattle.run_machine.specs.declared.machine.Machine.{Machine}
use Rattle.run_machine.specs.Choosing.{HasSelectionFault}
use Rattle.run_machine.specs.Ends.{end_view}
use Rattle.run_machine.specs.Findings.{demanded_act, act_of}
use Rattle.run_machine.specs.Standing.{AreDemands}
use Rattle.run_machine.specs.Standing as machines
use Rattle.walk_definitions.specs.Checkers.{Checker}
use Rattle.walk_definitions.specs.Walker as walks
use Rattle.listing_walk.specs.declared.chosen.Chosen.{Chosen}
use Rattle.listing_walk.specs.declared.found.Found.{Found}
use Rattle.listing_walk.specs.declared.place.ListingPlace.{ListingPlace}
use Rattle.listing_walk.specs.declared.selecting.Unselected.{Unselected}
use Rattle.listing_walk.specs.declared.selecting.Unselected.TheVariants as unselected
use Rattle.listing_walk.specs.declared.walk_step.WalkStep.{WalkStep}
use Rattle.listing_walk.specs.declared.walk_step.WalkStep.TheVariants as walk_step
use Rattle.listing_walk.specs.Ended.{found_view}
use Rattle.listing_walk.specs.Choosing.{IsMade, IsRefused, IsNotMade}
use Rattle.listing_walk.specs.Standing.{IsView, IsReady, Faces}
use Rattle.listing_walk.specs.Walking.{open_by, TurnsTo, IsOutcome, Passes, Walks, IsUnchecked, Refuses}
use Rattle.listing_walk.proofs.Selected.{fault_move, found_move, unselected_move, selected_move, made_turn, refused_turn}
use Rattle.listing_walk.proofs.SettingUp.{faulted}

-- ---- the setup of the state

abbrev pub present_with : Problem ℕ → SetupOptions → Basis → List Basis → Present
present_with problem options opening steps = record { problem = problem; options = options; opening = opening; steps = steps }

pub record IsPresentOf (problem : Problem ℕ) (options : SetupOptions) (viewed : Option Present) : Type 0 where
  pub opening : Basis
  pub steps : List Basis
  pub is_viewed : viewed ≡ Some (present_with problem options opening steps)

pub present_at : {cards : List (List ℕ)} {machine : Machine Chosen} {position executed : ℕ} {state : State} →
    machines.Represents IsView cards machine position executed state → (chosen : Chosen) → machine.setup ≡ Some chosen →
    (problem : Problem ℕ) → filed_under chosen.name machine.file ≡ Some problem → IsPresentOf problem chosen.options state.setup
present_at {machine = machine} {state = state} s chosen is problem on_file =
    let there = subst (λ (kept : Option Chosen). machines.ShowsSetup IsView machine.file kept state.setup) is s.setup in
    let present = there.0 in
    let same : present.problem ≡ problem = same_Some present.problem problem (sym there.2.on_file ∙ on_file) in
    record {
      opening = present.opening;
      steps = present.steps;
      is_viewed = there.1 ∙ ap (λ (q : Problem ℕ). Some (present_with q present.options present.opening present.steps)) same
          ∙ ap (λ (o : SetupOptions). Some (present_with problem o present.opening present.steps)) there.2.has_options;
    }

pub none_at : {cards : List (List ℕ)} {machine : Machine Chosen} {position executed : ℕ} {state : State} →
    machines.Represents IsView cards machine position executed state → machine.setup ≡ None → state.setup ≡ None
none_at {machine = machine} {state = state} s none = subst (λ (kept : Option Chosen). machines.ShowsSetup IsView machine.file kept state.setup) none s.setup

-- what is kept of a machine is ready, and its problem is on file
pub ready_of : (file : Filed) (kept : Option Chosen) (chosen : Chosen) → kept ≡ Some chosen → IfSome kept (IsReady file) → IsReady file chosen
ready_of file kept chosen is h = subst (λ (o : Option Chosen). IfSome o (IsReady file)) is h

pub stays_on_file : (file : Filed) (kept : Option Chosen) (chosen : Chosen) → kept ≡ Some chosen → IfSome kept (IsReady file) →
    IsSome (filed_under chosen.name file)
stays_on_file file kept chosen is h = subst IsSome (sym (ready_of file kept chosen is h).on_file) refl

-- ---- a verb that selects again

abbrev pub selecting : ℕ → State → (Present → LinearProgram → StatementMove) → StatementMove
selecting card state go = or_fault card NoSetup state.setup (λ present. selects_present card state present (go present))

abbrev pub fault_stop : VerbFault → ℕ → StatementMove
fault_stop fault card = Does (stops (endings.VerbStop (record { fault = fault; card = card })))

module _ (C : Checker) (card : ℕ) (cards : List (List ℕ)) (machine : Machine Chosen) {position executed : ℕ} {state : State}
    (s : machines.Represents IsView cards machine position executed state) (go : Present → LinearProgram → StatementMove) where
  pub no_setup_move : machine.setup ≡ None → selecting card state go ≡ fault_stop NoSetup card
  no_setup_move none = fault_move card NoSetup state.setup (λ (present : Present). selects_present card state present (go present)) (none_at s none)

  module _ (chosen : Chosen) (problem : Problem ℕ) (p : IsPresentOf problem chosen.options state.setup) where
    abbrev pub present : Present
    present = present_with problem chosen.options p.opening p.steps

    abbrev choice : Cells → Choice
    choice cells = choice_of cells chosen.options

    setup_move : selecting card state go ≡ selects_present card state present (go present)
    setup_move = found_move card NoSetup state.setup (λ (q : Present). selects_present card state q (go q)) present p.is_viewed

    pub fault_here : (fault : VerbFault) → HasSelectionFault problem (choice machine.cells) fault → selecting card state go ≡ fault_stop fault card
    fault_here fault h =
        let k : HasSelectionFault problem (choice state.cells) fault = subst (λ (c : Cells). HasSelectionFault problem (choice c) fault) (sym s.cells) h in
        setup_move ∙ unselected_move card (selected problem (choice state.cells))
        (λ (lp : LinearProgram). MayStop (InSelection problem (choice state.cells)) (go present lp)) k.why fault k.is_refused k.is_fault

    selected_here : (lp : LinearProgram) → selected problem (choice state.cells) ≡ Ok lp →
        selecting card state go ≡ MayStop (InSelection problem (choice state.cells)) (go present lp)
    selected_here lp ok =
        setup_move ∙ selected_move card (selected problem (choice state.cells))
        (λ (q : LinearProgram). MayStop (InSelection problem (choice state.cells)) (go present q)) lp ok

    pub made_here : (w : walks.Walker) (lp : LinearProgram) → IsMade problem (choice machine.cells) lp →
        walks.walk_move C w (selecting card state go) ≡ walks.walk_move C w (go present lp)
    made_here w lp made =
        let k : IsMade problem (choice state.cells) lp = subst (λ (c : Cells). IsMade problem (choice c) lp) (sym s.cells) made in
        ap (walks.walk_move C w) (selected_here lp k.is_selected) ∙ made_turn C w problem (choice state.cells) (go present lp) k.is_made

    -- an operation of the selection is refused, at whatever comes of it
    pub unmade_here : (w : walks.Walker) → IsRefused problem (choice machine.cells) →
        (lp : LinearProgram) ×
        (walks.walk_move C w (selecting card state go) ≡ walks.unless_found (walks.opened w (go present lp)) (walks.Finds (walks.Unchecked w.rest))) ×
        (selected problem (choice state.cells) ≡ Ok lp)
    unmade_here w refused =
        let k : IsRefused problem (choice state.cells) = subst (λ (c : Cells). IsRefused problem (choice c)) (sym s.cells) refused in (
          k.lp,
          ap (walks.walk_move C w) (selected_here k.lp k.is_selected)
              ∙ refused_turn C w problem (choice state.cells) (go present k.lp) k.is_refused,
          k.is_selected,
        )

    -- an operation of the selection is refused
    pub refused_here : (opens : (w : walks.Walker) (lp : LinearProgram) → walks.opened w (go present lp) ≡ open_by true true w) →
        IsRefused problem (choice machine.cells) → (found : Found) (place : ListingPlace) → IsUnchecked place found →
        (w : walks.Walker) → Faces place w → walks.walk_move C w (selecting card state go) ≡ walks.Finds (found_view found)
    refused_here opens refused found place u w f =
        let k : IsRefused problem (choice state.cells) = subst (λ (c : Cells). IsRefused problem (choice c)) (sym s.cells) refused in
        ap (walks.walk_move C w) (selected_here k.lp k.is_selected) ∙ refused_turn C w problem (choice state.cells) (go present k.lp) k.is_refused ∙
        ap (λ (x : Option walks.Found). walks.unless_found x (walks.Finds (walks.Unchecked w.rest))) (opens w k.lp) ∙ u w f

-- ---- by the verdict

module _ (card : ℕ) (cards : List (List ℕ)) (machine : Machine Chosen) (position executed : ℕ) (report : Report) (then : State)
    (t : machines.Represents IsView cards machine position executed then) where
  demanded_comes : (set : Option ℕ) → IfSome set (λ to. 1 ≤ to) → (end : End) (code : ℕ) → endings.Ended code ≡ end_view end →
      IsOutcome (demanded set code report then) cards machine position executed (Prints report) (demanded_act set end)
  demanded_comes (Some to) first end code same = (then, refl, t, first)
  demanded_comes None first end code same = ap (λ (ending : endings.Ending). Ends (Prints report) ending) (sym same)

  pub verdict_comes : (cells : Cells) → AreDemands cells → then.cells ≡ cells → (mark : Mark) →
      IsOutcome (by_verdict mark report then) cards machine position executed (Prints report) (act_of cells card (Ended mark))
  verdict_comes cells demands same marks.Optimal = (then, refl, t)
  verdict_comes cells demands same marks.Infeasible =
      subst (λ (c : Cells). IsOutcome (demanded c.xdonfs 1 report then) cards machine position executed (Prints report)
      (demanded_act cells.xdonfs ends.Infeasible)) (sym same) (demanded_comes cells.xdonfs demands.infeasible ends.Infeasible 1 refl)
  verdict_comes cells demands same marks.Unbounded =
      subst (λ (c : Cells). IsOutcome (demanded c.xdounb 2 report then) cards machine position executed (Prints report)
      (demanded_act cells.xdounb ends.Unbounded)) (sym same) (demanded_comes cells.xdounb demands.unbounded ends.Unbounded 2 refl)

-- ---- a verb that selects again, in the walk

module _ (C : Checker) (verb : Verb ℕ) (card : ℕ) (go : State → Present → LinearProgram → StatementMove)
    (is_move : (state : State) → verb_move verb card state ≡ selecting card state (go state)) (cards : List (List ℕ)) (machine : Machine Chosen)
    (old new : ListingPlace) where
  fault_walks : (fault : VerbFault) →
      ((position executed : ℕ) (state : State) → machines.Represents IsView cards machine position executed state →
      verb_move verb card state ≡ fault_stop fault card) → (result : Result WalkStep NoMemory) →
      IfOk result (Passes machine old new (acts.Ends (ends.Verb fault card)) []) → IfOk result (Walks C verb card cards machine machine old new)
  fault_walks fault is (Ok w') passes =
      λ position executed state w s f. faulted C cards machine old new fault card w' passes w (verb_move verb card state) position executed f
      (is position executed state s)
  fault_walks fault is (Err stop) passes = tt

  pub no_setup_walks : machine.setup ≡ None → (result : Result WalkStep NoMemory) →
      IfOk result (Passes machine old new (acts.Ends (ends.Verb NoSetup card)) []) → IfOk result (Walks C verb card cards machine machine old new)
  no_setup_walks none = fault_walks NoSetup (λ position executed state s. is_move state ∙ no_setup_move C card cards machine s (go state) none)

  module _ (chosen : Chosen) (is_setup : machine.setup ≡ Some chosen) (problem : Problem ℕ)
      (on_file : filed_under chosen.name machine.file ≡ Some problem) where
    pub unselected_walks : (fault : VerbFault) → HasSelectionFault problem (choice_of machine.cells chosen.options) fault →
        (result : Result WalkStep NoMemory) → IfOk result (Passes machine old new (acts.Ends (ends.Verb fault card)) []) →
        IfOk result (Walks C verb card cards machine machine old new)
    unselected_walks fault h =
        fault_walks fault
        (λ position executed state s. is_move state
        ∙ fault_here C card cards machine s (go state) chosen problem (present_at s chosen is_setup problem on_file) fault h)

    pub refused_walks :
        ((state : State) (present : Present) (w : walks.Walker) (lp : LinearProgram) → walks.opened w (go state present lp) ≡ open_by true true w) →
        IsRefused problem (choice_of machine.cells chosen.options) →
        (found : Found) → IsUnchecked old found → Walks C verb card cards machine machine old new (walk_step.Finds found)
    refused_walks opens refused found u = λ position executed state w s f.
        let p = present_at s chosen is_setup problem on_file in
        ap (walks.walk_move C w) (is_move state) ∙
        refused_here C card cards machine s (go state) chosen problem p
        (opens state (present_with problem chosen.options p.opening p.steps)) refused found old u w f

    -- nothing is selected, and the walk ends so where an operation of the selection is refused
    pub refusal_walks : (found : Found) →
        (IsRefused problem (choice_of machine.cells chosen.options) → Walks C verb card cards machine machine old new (walk_step.Finds found)) →
        (refusal : Unselected) → IsNotMade problem (choice_of machine.cells chosen.options) refusal → (result : Result WalkStep NoMemory) →
        IfOk result (Refuses machine old new card refusal found) → IfOk result (Walks C verb card cards machine machine old new)
    refusal_walks found ends_so (unselected.Fault fault) h result refuses = unselected_walks fault h result refuses
    refusal_walks found ends_so unselected.Unchecked h (Ok w') is =
        subst (λ (x : WalkStep). Walks C verb card cards machine machine old new x) (sym is) (ends_so h)
    refusal_walks found ends_so unselected.Unchecked h (Err stop) is = tt
    refusal_walks found ends_so unselected.NoMemory h (Ok w') refuses = absurd refuses
    refusal_walks found ends_so unselected.NoMemory h (Err stop) refuses = tt

    -- with a linear program
    pub made_walks : (lp : LinearProgram) → IsMade problem (choice_of machine.cells chosen.options) lp → (after : Machine Chosen) (w' : WalkStep) →
        ((position executed : ℕ) (state : State) (w : walks.Walker) (opening : Basis) (steps : List Basis) →
        machines.Represents IsView cards machine position executed state → Faces old w →
        state.setup ≡ Some (present_with problem chosen.options opening steps) →
        TurnsTo (walks.walk_move C w (go state (present_with problem chosen.options opening steps) lp)) cards after position executed new w') →
        Walks C verb card cards machine after old new w'
    made_walks lp made after w' comes = λ position executed state w s f.
        let p = present_at s chosen is_setup problem on_file in
        subst (λ (t : walks.WalkTurn). TurnsTo t cards after position executed new w')
        (sym (ap (walks.walk_move C w) (is_move state) ∙ made_here C card cards machine s (go state) chosen problem p w lp made))
        (comes position executed state w p.opening p.steps s f p.is_viewed)
