-- What SOLUTION and RANGE come to in the walk.
use Rattle.std.proofs.Common.{◌≡◌, ℕ, ◌+◌, List, [], Option, Some, None, IfSome, Result, Ok, Err, IfOk, refl, sym, ap, subst, ◌∙◌}
use Rattle.std.specs.declared.alloc.AllocError.{AllocError as NoMemory}
use Rattle.lp_definitions.specs.LinearProgram.{LinearProgram}
use Rattle.problem_definitions.specs.Problem.{Problem}
use Rattle.problem_file.specs.Filed.{Filed, filed_under}
use Rattle.control_definitions.specs.Cells.{Cells}
use Rattle.control_definitions.specs.Program.{Verb, Solution as SolutionVerb}
use Rattle.selection_definitions.specs.Selection.{selected}
use Rattle.listing_definitions.specs.declared.Mark.{Mark}
use Rattle.listing_definitions.specs.declared.VerbFault.{VerbFault}
use Rattle.listing_definitions.specs.declared.VerbFault.TheVariants.{NoSetup, NotSolved}
use Rattle.listing_definitions.specs.Report.{SolutionLines, Solution}
use Rattle.question_definitions.specs.Answers.{Sheet, OfSolution}
use Rattle.run_definitions.specs.State.{Present, State, choice_of}
use Rattle.run_definitions.specs.Moves.{Prints, StatementOutcome, next, StatementMove, or_fault}
use Rattle.run_definitions.specs.Verbs.{asks, shows_present, verb_move}
use Rattle.run_machine.specs.declared.act.Act.TheVariants as acts
use Rattle.run_machine.specs.declared.end.End.TheVariants as ends
use Rattle.run_machine.specs.declared.machine.Machine.{Machine}
use Rattle.run_machine.specs.Standing as machines
use Rattle.walk_definitions.specs.Checkers.{Checker}
use Rattle.walk_definitions.specs.Walker as walks
use Rattle.listing_walk.specs.declared.answering.Stopped.{Stopped}
use Rattle.listing_walk.specs.declared.answering.Stopped.TheVariants as stops
use Rattle.listing_walk.specs.declared.chosen.Chosen.{Chosen}
use Rattle.listing_walk.specs.declared.found.Found.{Found}
use Rattle.listing_walk.specs.declared.place.ListingPlace.{ListingPlace}
use Rattle.listing_walk.specs.declared.walk_step.WalkStep.{WalkStep}
use Rattle.listing_walk.specs.declared.walk_step.WalkStep.TheVariants as walk_step
use Rattle.listing_walk.specs.Standing.{IsView, IsSolved}
use Rattle.listing_walk.specs.Walking.{Passes, Walks}
use Rattle.listing_walk.specs.Asking.{asked_turn, Answered, IsAny, IsStopStep}
use Rattle.listing_walk.proofs.FollowOn.{placed, faces_still}
use Rattle.listing_walk.proofs.Selected.{fault_move, found_move, selected_move}
use Rattle.listing_walk.proofs.SettingUp.{faulted}
use Rattle.listing_walk.proofs.SolvingWalks.{present_with, present_at, none_at, fault_stop}

-- ---- faults

-- a statement that is a verb fault
pub fault_walks : (C : Checker) (verb : Verb ℕ) (card : ℕ) (cards : List (List ℕ)) (machine : Machine Chosen) (old new : ListingPlace) (fault : VerbFault) →
    ((position executed : ℕ) (state : State) → machines.Represents IsView cards machine position executed state →
    verb_move verb card state ≡ fault_stop fault card) → (result : Result WalkStep NoMemory) →
    IfOk result (Passes machine old new (acts.Ends (ends.Verb fault card)) []) → IfOk result (Walks C verb card cards machine machine old new)
fault_walks C verb card cards machine old new fault is (Ok w') passes = λ position executed state w s f.
    faulted C cards machine old new fault card w' passes w (verb_move verb card state) position executed f (is position executed state s)
fault_walks C verb card cards machine old new fault is (Err stop) passes = tt

-- the state has a setup where the machine has one
pub some_at : {cards : List (List ℕ)} {machine : Machine Chosen} {position executed : ℕ} {state : State} →
    machines.Represents IsView cards machine position executed state → (chosen : Chosen) → machine.setup ≡ Some chosen →
    (present : Present) × (state.setup ≡ Some present)
some_at {machine = machine} {state = state} s chosen is =
    let there = subst (λ (kept : Option Chosen). machines.ShowsSetup IsView machine.file kept state.setup) is s.setup in
    (there.0, there.1)

-- ---- verbs that show what is solved

abbrev pub showing : ℕ → State → (Present → Mark → StatementMove) → StatementMove
showing card state go = or_fault card NoSetup state.setup (λ present. or_fault card NotSolved state.mark (go present))

module _ (card : ℕ) (cards : List (List ℕ)) (machine : Machine Chosen) {position executed : ℕ} {state : State}
    (s : machines.Represents IsView cards machine position executed state) (go : Present → Mark → StatementMove) where
  pub showing_none : machine.setup ≡ None → showing card state go ≡ fault_stop NoSetup card
  showing_none none = fault_move card NoSetup state.setup (λ (present : Present). or_fault card NotSolved state.mark (go present)) (none_at s none)

  showing_setup : (present : Present) → state.setup ≡ Some present → showing card state go ≡ or_fault card NotSolved state.mark (go present)
  showing_setup present is = found_move card NoSetup state.setup (λ (q : Present). or_fault card NotSolved state.mark (go q)) present is

  pub showing_unsolved : (chosen : Chosen) → machine.setup ≡ Some chosen → machine.mark ≡ None → showing card state go ≡ fault_stop NotSolved card
  showing_unsolved chosen is none = let p = some_at s chosen is in showing_setup p.0 p.1 ∙ fault_move card NotSolved state.mark (go p.0) (s.mark ∙ none)

  pub showing_mark : (present : Present) → state.setup ≡ Some present → (mark : Mark) → machine.mark ≡ Some mark → showing card state go ≡ go present mark
  showing_mark present is mark there = showing_setup present is ∙ found_move card NotSolved state.mark (go present) mark (s.mark ∙ there)

-- what the present cells select is kept
pub solved_of : (cells : Cells) (file : Filed) (marked : Option Mark) (kept : Option Chosen) (mark : Mark) (chosen : Chosen) → marked ≡ Some mark →
    kept ≡ Some chosen →
    IfSome marked (λ mark. IfSome kept (IsSolved mark cells.xobj cells.xrhs file)) → IsSolved mark cells.xobj cells.xrhs file chosen
solved_of cells file marked kept mark chosen is_mark is_kept h =
    subst (λ (o : Option Chosen). IfSome o (IsSolved mark cells.xobj cells.xrhs file)) is_kept
    (subst (λ (m : Option Mark). IfSome m (λ x. IfSome kept (IsSolved x cells.xobj cells.xrhs file))) is_mark h)

pub selected_now : (machine : Machine Chosen) (chosen : Chosen) → machine.setup ≡ Some chosen → (mark : Mark) → machine.mark ≡ Some mark →
    (problem : Problem ℕ) → filed_under chosen.name machine.file ≡ Some problem →
    IfSome machine.mark (λ mark. IfSome machine.setup (IsSolved mark machine.cells.xobj machine.cells.xrhs machine.file)) →
    selected problem (choice_of machine.cells chosen.options) ≡ Ok chosen.lp
selected_now machine chosen is_setup mark is_mark problem on_file solved =
    solved_of machine.cells machine.file machine.mark machine.setup mark chosen is_mark is_setup solved problem on_file

-- ---- SOLUTION

abbrev sheet_of : Present → LinearProgram → Sheet
sheet_of present lp = record { problem = present.problem; lp = lp }

abbrev lines_move : ℕ → State → Present → Mark → StatementMove
lines_move card state present mark = shows_present card state present (OfSolution mark) (Solution mark)

solution_move : (card : ℕ) (state : State) → verb_move SolutionVerb card state ≡ showing card state (lines_move card state)
unfolding verb_move
solution_move card state = refl

module _ (C : Checker) (card : ℕ) (cards : List (List ℕ)) (machine : Machine Chosen) (old new : ListingPlace) where
  pub solution_no_setup : machine.setup ≡ None → (result : Result WalkStep NoMemory) →
      IfOk result (Passes machine old new (acts.Ends (ends.Verb NoSetup card)) []) → IfOk result (Walks C SolutionVerb card cards machine machine old new)
  solution_no_setup none =
      fault_walks C SolutionVerb card cards machine old new NoSetup
      (λ position executed state s. solution_move card state ∙ showing_none card cards machine s (lines_move card state) none)

  module _ (chosen : Chosen) (is_setup : machine.setup ≡ Some chosen) where
    pub solution_not_solved : machine.mark ≡ None → (result : Result WalkStep NoMemory) →
        IfOk result (Passes machine old new (acts.Ends (ends.Verb NotSolved card)) []) → IfOk result (Walks C SolutionVerb card cards machine machine old new)
    solution_not_solved none =
        fault_walks C SolutionVerb card cards machine old new NotSolved
        (λ position executed state s. solution_move card state ∙ showing_unsolved card cards machine s (lines_move card state) chosen is_setup none)

    module _ (mark : Mark) (is_mark : machine.mark ≡ Some mark) (problem : Problem ℕ) (on_file : filed_under chosen.name machine.file ≡ Some problem)
        (solved : IfSome machine.mark (λ mark. IfSome machine.setup (IsSolved mark machine.cells.xobj machine.cells.xrhs machine.file))) where
      abbrev go_on : State → SolutionLines → StatementOutcome
      go_on state lines = next (Prints (Solution mark lines)) state

      turn_view : {position executed : ℕ} {state : State} (w : walks.Walker) → machines.Represents IsView cards machine position executed state →
          walks.walk_move C w (verb_move SolutionVerb card state) ≡ asked_turn C w (OfSolution mark) (record { problem = problem; lp = chosen.lp })
          (go_on state)
      turn_view {state = state} w s =
          let p = present_at s chosen is_setup problem on_file in
          let present = present_with problem chosen.options p.opening p.steps in
          let ok : selected problem (choice_of state.cells chosen.options) ≡ Ok chosen.lp =
          ap (λ (c : Cells). selected problem (choice_of c chosen.options)) s.cells
          ∙ selected_now machine chosen is_setup mark is_mark problem on_file solved in
          ap (walks.walk_move C w) (solution_move card state ∙ showing_mark card cards machine s (lines_move card state) present p.is_viewed mark is_mark ∙
          selected_move card (selected problem (choice_of state.cells chosen.options))
          (λ (lp : LinearProgram). asks (OfSolution mark) (sheet_of present lp) present (go_on state)) chosen.lp ok)

      pub solution_view : Answered C (OfSolution mark) (record { problem = problem; lp = chosen.lp }) old new (IsAny (OfSolution mark)) (Ok tt) →
          Walks C SolutionVerb card cards machine machine old new walk_step.Next
      solution_view answered = λ position executed state w s f.
          let a = answered w (go_on state) f in (
            record (a.walker) { state = record state { position = state.position + 1 } },
            turn_view w s ∙ a.is_turn,
            record {
              state = placed (position + 1) (state.position + 1) s (ap (λ n. n + 1) s.is_position);
              faces = faces_still
                  (record state { position = state.position + 1 }) a.faces;
            },
          )

      found_walks : (found : Found) →
          Answered C {X = Unit {0}} (OfSolution mark) (record { problem = problem; lp = chosen.lp }) old new (IsAny (OfSolution mark))
          (Err (stops.Finds found)) →
          Walks C SolutionVerb card cards machine machine old new (walk_step.Finds found)
      found_walks found answered = λ position executed state w s f. turn_view w s ∙ answered w (go_on state) f

      pub solution_stopped : (stopped : Stopped) →
          Answered C {X = Unit {0}} (OfSolution mark) (record { problem = problem; lp = chosen.lp }) old new (IsAny (OfSolution mark)) (Err stopped) →
          (result : Result WalkStep NoMemory) →
          IfOk result (IsStopStep stopped) → IfOk result (Walks C SolutionVerb card cards machine machine old new)
      solution_stopped (stops.Finds found) answered (Ok w') is =
          subst (λ (x : WalkStep). Walks C SolutionVerb card cards machine machine old new x) (sym is) (found_walks found answered)
      solution_stopped (stops.Finds found) answered (Err stop) is = tt
      solution_stopped stops.NoMemory answered (Ok w') is = absurd is
      solution_stopped stops.NoMemory answered (Err stop) is = tt
