-- What RANGE and PUNCH come to in the walk.
use Rattle.std.proofs.Common.{◌≡◌, ℕ, Bool, true, false, List, [], Some, None, IfSome, Result, Ok, IfOk, refl, sym, ap, ◌∙◌, if◌then◌else◌}
use Rattle.std.specs.Prelude.{min, length}
use Rattle.std.specs.Option.{option_or}
use Rattle.std.specs.declared.alloc.AllocError.{AllocError as NoMemory}
use Rattle.lp_definitions.specs.LinearProgram.{LinearProgram}
use Rattle.problem_definitions.specs.Problem.{Problem}
use Rattle.problem_file.specs.Filed.{filed_under}
use Rattle.control_definitions.specs.Cells.{Cells}
use Rattle.control_definitions.specs.Program.{Ranging, Punch}
use Rattle.selection_definitions.specs.Selection.{selected}
use Rattle.listing_definitions.specs.declared.Mark.{Mark}
use Rattle.listing_definitions.specs.declared.Mark.TheVariants as marks
use Rattle.listing_definitions.specs.declared.VerbFault.TheVariants.{NoSetup, NotSolved, NotOptimal}
use Rattle.listing_definitions.specs.Report.{Ranges, BasisOut, RangeLines}
use Rattle.question_definitions.specs.Answers.{OfRanges, OfPunch}
use Rattle.run_definitions.specs.State.{Present, present_basis, State, choice_of}
use Rattle.run_definitions.specs.Moves.{Prints, Punches, next, StatementMove, Asks, or_fault}
use Rattle.run_definitions.specs.Verbs.{max_counted, asks, shows_present, if_optimal, verb_move}
use Rattle.run_machine.specs.declared.act.Act.TheVariants as acts
use Rattle.run_machine.specs.declared.end.End.TheVariants as ends
use Rattle.run_machine.specs.declared.machine.Machine.{Machine}
use Rattle.walk_definitions.specs.Checkers.{Checker}
use Rattle.walk_definitions.specs.Forms.{is_ranges, is_punched}
use Rattle.walk_definitions.specs.Walker as walks
use Rattle.listing_walk.specs.declared.chosen.Chosen.{Chosen}
use Rattle.listing_walk.specs.declared.found.Found.{Found}
use Rattle.listing_walk.specs.declared.place.ListingPlace.{ListingPlace}
use Rattle.listing_walk.specs.declared.selecting.Unselected.{Unselected}
use Rattle.listing_walk.specs.declared.walk_step.WalkStep.{WalkStep}
use Rattle.listing_walk.specs.declared.walk_step.WalkStep.TheVariants as walk_step
use Rattle.listing_walk.specs.Ended.{found_view}
use Rattle.listing_walk.specs.Choosing.{IsMade, IsRefused, IsNotMade}
use Rattle.listing_walk.specs.Standing.{IsReady, IsSolved, Faces}
use Rattle.listing_walk.specs.Walking.{Passes, IsReported, Refuses, Walks}
use Rattle.listing_walk.specs.Asking.{is_optimal}
use Rattle.listing_walk.proofs.Selected.{fault_move, found_move, selected_move}
use Rattle.listing_walk.proofs.SolvingWalks.{present_with, present_at, ready_of, selecting, no_setup_walks, refusal_walks, made_walks, unmade_here}
use Rattle.listing_walk.proofs.ViewsWalks.{fault_walks, some_at, showing, showing_none, showing_unsolved, showing_mark, selected_now}

-- the line stands where the walker is
at_line : (place : ListingPlace) (stands made : Bool) (found : Found) → IsReported place stands made found → (tests : List ℕ → Bool) →
    stands ≡ tests place.cursor → (w : walks.Walker) → Faces place w →
    walks.unless_found (option_or (walks.open_stop w) (walks.open_if (tests w.rest) w))
    (walks.Finds (if made then walks.Wrong w.rest else walks.Unchecked w.rest)) ≡ walks.Finds (found_view found)
at_line place stands made found h tests is w f =
    ap (λ (b : Bool). walks.unless_found (option_or (walks.open_stop w) (walks.open_if b w))
    (walks.Finds (if made then walks.Wrong w.rest else walks.Unchecked w.rest))) (ap tests f.rest ∙ sym is) ∙ h w f

-- ---- RANGE

abbrev range_move : ℕ → State → Present → Mark → StatementMove
range_move card state present mark = or_fault card NotOptimal (if_optimal mark) (λ optimal. shows_present card state present OfRanges Ranges)

ranging_move : (card : ℕ) (state : State) → verb_move Ranging card state ≡ showing card state (range_move card state)
unfolding verb_move
ranging_move card state = refl

not_optimal : (mark : Mark) → is_optimal mark ≡ false → if_optimal mark ≡ None
not_optimal marks.Optimal other = absurd (cc other)
not_optimal marks.Infeasible other = refl
not_optimal marks.Unbounded other = refl

optimal_so : (mark : Mark) → is_optimal mark ≡ true → if_optimal mark ≡ Some marks.Optimal
optimal_so marks.Optimal is = refl
optimal_so marks.Infeasible is = absurd (cc is)
optimal_so marks.Unbounded is = absurd (cc is)

module _ (C : Checker) (card : ℕ) (cards : List (List ℕ)) (machine : Machine Chosen) (old new : ListingPlace) where
  pub ranges_no_setup : machine.setup ≡ None → (result : Result WalkStep NoMemory) →
      IfOk result (Passes machine old new (acts.Ends (ends.Verb NoSetup card)) []) → IfOk result (Walks C Ranging card cards machine machine old new)
  ranges_no_setup none =
      fault_walks C Ranging card cards machine old new NoSetup
      (λ position executed state s. ranging_move card state ∙ showing_none card cards machine s (range_move card state) none)

  module _ (chosen : Chosen) (is_setup : machine.setup ≡ Some chosen) where
    pub ranges_not_solved : machine.mark ≡ None → (result : Result WalkStep NoMemory) →
        IfOk result (Passes machine old new (acts.Ends (ends.Verb NotSolved card)) []) → IfOk result (Walks C Ranging card cards machine machine old new)
    ranges_not_solved none =
        fault_walks C Ranging card cards machine old new NotSolved
        (λ position executed state s. ranging_move card state ∙ showing_unsolved card cards machine s (range_move card state) chosen is_setup none)

    module _ (mark : Mark) (is_mark : machine.mark ≡ Some mark) where
      pub ranges_not_optimal : is_optimal mark ≡ false → (result : Result WalkStep NoMemory) →
          IfOk result (Passes machine old new (acts.Ends (ends.Verb NotOptimal card)) []) → IfOk result (Walks C Ranging card cards machine machine old new)
      ranges_not_optimal other =
          fault_walks C Ranging card cards machine old new NotOptimal (λ position executed state s.
          let p = some_at s chosen is_setup in
          ranging_move card state ∙ showing_mark card cards machine s (range_move card state) p.0 p.1 mark is_mark ∙
          fault_move card NotOptimal (if_optimal mark) (λ (optimal : Mark). shows_present card state p.0 OfRanges Ranges) (not_optimal mark other))

      pub ranges_found : is_optimal mark ≡ true → IfSome machine.setup (IsReady machine.file) →
          IfSome machine.mark (λ mark. IfSome machine.setup (IsSolved mark machine.cells.xobj machine.cells.xrhs machine.file)) →
          (stands : Bool) → stands ≡ is_ranges old.cursor → (found : Found) → IsReported old stands true found →
          Walks C Ranging card cards machine machine old new (walk_step.Finds found)
      ranges_found is ready solved stands stands_is found h = λ position executed state w s f.
          let r = ready_of machine.file machine.setup chosen is_setup ready in
          let p = present_at s chosen is_setup r.problem r.on_file in
          let present = present_with r.problem chosen.options p.opening p.steps in
          let ok : selected r.problem (choice_of state.cells chosen.options) ≡ Ok chosen.lp =
          ap (λ (c : Cells). selected r.problem (choice_of c chosen.options)) s.cells
          ∙ selected_now machine chosen is_setup mark is_mark r.problem r.on_file solved in
          ap (walks.walk_move C w)
          (ranging_move card state ∙ showing_mark card cards machine s (range_move card state) present p.is_viewed mark is_mark ∙
          found_move card NotOptimal (if_optimal mark) (λ (optimal : Mark). shows_present card state present OfRanges Ranges) marks.Optimal
          (optimal_so mark is) ∙
          selected_move card (selected r.problem (choice_of state.cells chosen.options))
          (λ (lp : LinearProgram). asks OfRanges (record { problem = r.problem; lp = lp }) present
          (λ (lines : RangeLines). next (Prints (Ranges lines)) state)) chosen.lp ok) ∙
          at_line old stands true found h is_ranges stands_is w f

-- ---- PUNCH

abbrev punch_move : ℕ → State → Present → LinearProgram → StatementMove
punch_move card state present lp =
    Asks OfPunch (record { problem = present.problem; lp = lp }) (present_basis present)
    (λ cards. next (Punches (BasisOut present.problem.name (min (length cards) max_counted)) cards) state)

punching_move : (card : ℕ) (state : State) → verb_move Punch card state ≡ selecting card state (punch_move card state)
unfolding verb_move
punching_move card state = refl

module _ (C : Checker) (card : ℕ) (cards : List (List ℕ)) (machine : Machine Chosen) (old new : ListingPlace) where
  pub punch_no_setup : machine.setup ≡ None → (result : Result WalkStep NoMemory) →
      IfOk result (Passes machine old new (acts.Ends (ends.Verb NoSetup card)) []) → IfOk result (Walks C Punch card cards machine machine old new)
  punch_no_setup = no_setup_walks C Punch card (punch_move card) (punching_move card) cards machine old new

  module _ (chosen : Chosen) (is_setup : machine.setup ≡ Some chosen) (problem : Problem ℕ) (on_file : filed_under chosen.name machine.file ≡ Some problem)
      (stands : Bool) (stands_is : stands ≡ is_punched problem.name old.cursor) where
    pub punch_found : (lp : LinearProgram) → IsMade problem (choice_of machine.cells chosen.options) lp → (found : Found) → IsReported old stands true found →
        Walks C Punch card cards machine machine old new (walk_step.Finds found)
    punch_found lp made found h =
        made_walks C Punch card (punch_move card) (punching_move card) cards machine old new chosen is_setup problem on_file lp made machine
        (walk_step.Finds found)
        (λ position executed state w opening steps s f is_viewed. at_line old stands true found h (is_punched problem.name) stands_is w f)

    unmade_walks : IsRefused problem (choice_of machine.cells chosen.options) → (found : Found) → IsReported old stands false found →
        Walks C Punch card cards machine machine old new (walk_step.Finds found)
    unmade_walks refused found h = λ position executed state w s f.
        let p = present_at s chosen is_setup problem on_file in
        ap (walks.walk_move C w) (punching_move card state) ∙ (unmade_here C card cards machine s (punch_move card state) chosen problem p w refused).1
        ∙ at_line old stands false found h (is_punched problem.name) stands_is w f

    pub punch_refused : (found : Found) → IsReported old stands false found → (refusal : Unselected) →
        IsNotMade problem (choice_of machine.cells chosen.options) refusal → (result : Result WalkStep NoMemory) →
        IfOk result (Refuses machine old new card refusal found) →
        IfOk result (Walks C Punch card cards machine machine old new)
    punch_refused found reported =
        refusal_walks C Punch card (punch_move card) (punching_move card) cards machine old new chosen is_setup problem on_file found
        (λ refused. unmade_walks refused found reported)
