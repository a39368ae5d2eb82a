-- What PRIMAL and DUAL come to in the walk.
use Rattle.std.proofs.Common.{◌≡◌, ℕ, List, [], Option, Some, None, Result, Ok, Err, IfOk, refl, sym, ap, subst, ◌∙◌}
use Rattle.std.proofs.lemmas.Option.{same_Some}
use Rattle.std.specs.declared.alloc.AllocError.{AllocError as NoMemory}
use Rattle.lp_definitions.specs.LinearProgram.{LinearProgram}
use Rattle.problem_definitions.specs.Problem.{Problem}
use Rattle.problem_file.specs.Filed.{filed_under}
use Rattle.control_definitions.specs.Cells.{Cells, steps_allowed}
use Rattle.selection_definitions.specs.Selection.{selected}
use Rattle.listing_definitions.specs.declared.Mark.{Mark}
use Rattle.listing_definitions.specs.declared.Solver.{Solver}
use Rattle.listing_definitions.specs.declared.VerbFault.TheVariants.{NoSetup}
use Rattle.listing_definitions.specs.Report.{Solved}
use Rattle.question_definitions.specs.Answers.{Basis, Sheet, OfPath, PathEnd, Reached, PathLimit, PricesWrong}
use Rattle.run_definitions.specs.State.{Present, State, choice_of, gone_through}
use Rattle.run_definitions.specs.Moves.{Prints, StatementMove}
use Rattle.run_definitions.specs.Verbs.{asks, after_path, mark_of, verb_move}
use Rattle.run_machine.specs.declared.act.Act.{Act}
use Rattle.run_machine.specs.declared.act.Act.TheVariants as acts
use Rattle.run_machine.specs.declared.end.End.TheVariants as ends
use Rattle.run_machine.specs.declared.finding.Finding.TheVariants.{Ended}
use Rattle.run_machine.specs.declared.machine.Machine.{Machine}
use Rattle.run_machine.specs.Findings.{act_of}
use Rattle.run_machine.specs.Standing.{AreDemands}
use Rattle.run_machine.specs.Standing as machines
use Rattle.walk_definitions.specs.Checkers.{Checker}
use Rattle.walk_definitions.specs.Walker as walks
use Rattle.listing_walk.specs.declared.chosen.Chosen.{Chosen}
use Rattle.listing_walk.specs.declared.answering.Stopped.{Stopped}
use Rattle.listing_walk.specs.declared.answering.Stopped.TheVariants as stops
use Rattle.listing_walk.specs.declared.answering.Stopped.TheVariants.{Finds}
use Rattle.listing_walk.specs.declared.selecting.Unselected.{Unselected}
use Rattle.listing_walk.specs.declared.found.Found.{Found}
use Rattle.listing_walk.specs.declared.place.ListingPlace.{ListingPlace}
use Rattle.run_machine.specs.declared.solving.SolvingVerb.{SolvingVerb}
use Rattle.run_machine.specs.declared.solving.SolvingVerb.TheVariants.{Primal, Dual}
use Rattle.listing_walk.specs.declared.walk_step.WalkStep.{WalkStep}
use Rattle.listing_walk.specs.declared.walk_step.WalkStep.TheVariants as walk_step
use Rattle.listing_walk.specs.Choosing.{IsMade, IsNotMade}
use Rattle.listing_walk.specs.Standing.{IsView, IsSound, Faces}
use Rattle.listing_walk.specs.Walking.{TurnsTo, IsOutcome, Finishes, Passes, Walks, Refuses, IsUnchecked}
use Rattle.listing_walk.specs.Asking.{Answered, IsMarked, IsStopStep}
use Rattle.run_machine.specs.SolvingVerbs.{verb_of, solver_of, limit_of}
use Rattle.listing_walk.proofs.SolvingWalks.{present_with, selecting, no_setup_walks, refusal_walks, refused_walks, made_walks, verdict_comes}

abbrev sheet_of : Present → LinearProgram → Sheet
sheet_of present lp = record { problem = present.problem; lp = lp }

-- the path of a verb
abbrev path_move : SolvingVerb → ℕ → State → Present → LinearProgram → StatementMove
path_move verb card state present lp =
    asks (OfPath (solver_of verb) (limit_of verb state.cells)) (sheet_of present lp) present (after_path (solver_of verb) card present state)

solving_move : (verb : SolvingVerb) (card : ℕ) (state : State) → verb_move (verb_of verb) card state ≡ selecting card state (path_move verb card state)
unfolding verb_move
solving_move Primal card state = refl
solving_move Dual card state = refl

module _ (C : Checker) (verb : SolvingVerb) (card : ℕ) (cards : List (List ℕ)) (machine : Machine Chosen) (old new : ListingPlace) where
  pub solving_no_setup : machine.setup ≡ None → (result : Result WalkStep NoMemory) →
      IfOk result (Passes machine old new (acts.Ends (ends.Verb NoSetup card)) []) → IfOk result (Walks C (verb_of verb) card cards machine machine old new)
  solving_no_setup = no_setup_walks C (verb_of verb) card (path_move verb card) (solving_move verb card) cards machine old new

  module _ (chosen : Chosen) (is_setup : machine.setup ≡ Some chosen) (problem : Problem ℕ)
      (on_file : filed_under chosen.name machine.file ≡ Some problem) where
    pub solving_refused : (found : Found) → IsUnchecked old found → (refusal : Unselected) →
        IsNotMade problem (choice_of machine.cells chosen.options) refusal →
        (result : Result WalkStep NoMemory) → IfOk result (Refuses machine old new card refusal found) →
        IfOk result (Walks C (verb_of verb) card cards machine machine old new)
    solving_refused found u =
        refusal_walks C (verb_of verb) card (path_move verb card) (solving_move verb card) cards machine old new chosen is_setup problem on_file found
        (λ refused. refused_walks C (verb_of verb) card (path_move verb card) (solving_move verb card) cards machine old new chosen is_setup problem on_file
        (λ state present w lp. refl) refused found u)

    module _ (lp : LinearProgram) (made : IsMade problem (choice_of machine.cells chosen.options) lp) where
      found_walks : (after : Machine Chosen) (found : Found) →
          ((limit : Option ℕ) →
          Answered C {X = Mark} (OfPath (solver_of verb) limit) (record { problem = problem; lp = lp }) old new IsMarked (Err (Finds found))) →
          Walks C (verb_of verb) card cards machine after old new (walk_step.Finds found)
      found_walks after found answered =
          made_walks C (verb_of verb) card (path_move verb card) (solving_move verb card) cards machine old new chosen is_setup problem on_file lp made after
          (walk_step.Finds found)
          (λ position executed state w opening steps s f is_viewed. answered (limit_of verb state.cells) w
          (after_path (solver_of verb) card (present_with problem chosen.options opening steps) state) f)

      -- the walk ends
      pub solving_stopped : (after : Machine Chosen) (stopped : Stopped) →
          ((limit : Option ℕ) → Answered C {X = Mark} (OfPath (solver_of verb) limit) (record { problem = problem; lp = lp }) old new IsMarked (Err stopped)) →
          (result : Result WalkStep NoMemory) → IfOk result (IsStopStep stopped) → IfOk result (Walks C (verb_of verb) card cards machine after old new)
      solving_stopped after (Finds found) answered (Ok w') is =
          subst (λ (x : WalkStep). Walks C (verb_of verb) card cards machine after old new x) (sym is) (found_walks after found answered)
      solving_stopped after (Finds found) answered (Err stop) is = tt
      solving_stopped after stops.NoMemory answered (Ok w') is = absurd is
      solving_stopped after stops.NoMemory answered (Err stop) is = tt

      pub solving_stopped_by : (by : Solver) → by ≡ solver_of verb → (after : Machine Chosen) (stopped : Stopped) →
          ((limit : Option ℕ) → Answered C {X = Mark} (OfPath by limit) (record { problem = problem; lp = lp }) old new IsMarked (Err stopped)) →
          (result : Result WalkStep NoMemory) → IfOk result (IsStopStep stopped) → IfOk result (Walks C (verb_of verb) card cards machine after old new)
      solving_stopped_by by is after stopped answered =
          solving_stopped after stopped
          (λ limit. subst (λ (s : Solver). Answered C {X = Mark} (OfPath s limit) (record { problem = problem; lp = lp }) old new IsMarked (Err stopped)) is
          (answered limit))

      -- the machine once a verdict is taken
      abbrev pub machine_with : Mark → Machine Chosen
      machine_with mark = record machine { setup = Some (record chosen { lp = lp }); mark = Some mark }

      module _ (demands : AreDemands machine.cells) (mark : Mark) (mid : ListingPlace)
          (answered : (limit : Option ℕ) → Answered C (OfPath (solver_of verb) limit) (record { problem = problem; lp = lp }) old mid IsMarked (Ok mark))
          (act : Act) (is_act : act ≡ act_of machine.cells card (Ended mark)) where
        after_state : Present → State → Mark → List Basis → State
        after_state present state m bases = record state { setup = Some (gone_through bases present); mark = Some m }

        -- the machine shows the state after the verdict
        stands_after : {position executed : ℕ} {state : State} → machines.Represents IsView cards machine position executed state → (present : Present) →
            present.problem ≡ problem → present.options ≡ chosen.options →
            (bases : List Basis) (m : Mark) → mark ≡ m →
            machines.Represents IsView cards (machine_with mark) position executed (record state { setup = Some (gone_through bases present); mark = Some m })
        stands_after s present same options bases m e = record {
          is_position = s.is_position;
          is_executed = s.is_executed;
          cells = s.cells;
          file = s.file;
          decks = s.decks;
          setup = (gone_through bases present, refl, record { on_file = on_file ∙ ap Some (sym same); has_options = options });
          mark = ap Some (sym e);
        }

        ends_by : (w' : WalkStep) → Finishes mid new act w' → (position executed : ℕ) (state : State) (present : Present) → present.problem ≡ problem →
            present.options ≡ chosen.options → machines.Represents IsView cards machine position executed state →
            (turn : walks.WalkTurn) (v : walks.Walker) (answer : PathEnd) → turn ≡ walks.follows v (after_path (solver_of verb) card present state answer) →
            Faces mid v → IsMarked mark answer → TurnsTo turn cards (machine_with mark) position executed new w'
        ends_by w' finishes position executed state present same options s turn v (Reached bases verdict check) is faces e =
            let then : State = record state { setup = Some (gone_through bases present); mark = Some (mark_of verdict) } in
            let t : machines.Represents IsView cards (machine_with mark) position executed then =
            stands_after s present same options bases (mark_of verdict) e in
            let comes =
            verdict_comes card cards (machine_with mark) position executed (Solved (solver_of verb) verdict check) then t machine.cells demands s.cells
            (mark_of verdict) in
            subst (λ (x : walks.WalkTurn). TurnsTo x cards (machine_with mark) position executed new w') (sym is)
            (finishes v (after_path (solver_of verb) card present state (Reached bases verdict check)) cards (machine_with mark) position executed
            (Prints (Solved (solver_of verb) verdict check)) faces
            (subst (λ (a : Act). IsOutcome (after_path (solver_of verb) card present state (Reached bases verdict check)) cards
            (machine_with mark) position executed (Prints (Solved (solver_of verb) verdict check)) a)
            (ap (λ (m : Mark). act_of machine.cells card (Ended m)) (sym e) ∙ sym is_act) comes))
        ends_by w' finishes position executed state present same options s turn v PathLimit is faces e = absurd e
        ends_by w' finishes position executed state present same options s turn v (PricesWrong j) is faces e = absurd e

        ended_walks : (w' : WalkStep) → Finishes mid new act w' → Walks C (verb_of verb) card cards machine (machine_with mark) old new w'
        ended_walks w' finishes =
            made_walks C (verb_of verb) card (path_move verb card) (solving_move verb card) cards machine old new chosen is_setup problem on_file lp made
            (machine_with mark) w'
            (λ position executed state w opening steps s f is_viewed.
            let present = present_with problem chosen.options opening steps in
            let a = answered (limit_of verb state.cells) w (after_path (solver_of verb) card present state) f in
            ends_by w' finishes position executed state present refl refl s
            (walks.walk_move C w (path_move verb card state present lp)) a.walker a.answer a.is_turn a.faces a.holds)

        pub solving_ended : (after : Machine Chosen) → after ≡ machine_with mark → (result : Result WalkStep NoMemory) → IfOk result (Finishes mid new act) →
            IfOk result (Walks C (verb_of verb) card cards machine after old new)
        solving_ended after is (Ok w') finishes =
            subst (λ (m : Machine Chosen). Walks C (verb_of verb) card cards machine m old new w') (sym is) (ended_walks w' finishes)
        solving_ended after is (Err stop) finishes = tt

      -- and stays sound
      pub solving_sound : (mark : Mark) (after : Machine Chosen) → after ≡ machine_with mark → IsSound cards machine → IsSound cards after
      solving_sound mark after is sound = subst (IsSound cards) (sym is) (record {
        first = sound.first;
        last = sound.last;
        demands = sound.demands;
        ready =
            record {
              problem = problem;
              on_file = on_file;
              choice = choice_of machine.cells chosen.options;
              has_options = refl;
              is_selected =
                  made.is_selected;
            };
        solved =
            λ other there. subst (λ (q : Problem ℕ). selected q (choice_of machine.cells chosen.options) ≡ Ok lp)
            (same_Some problem other (sym on_file ∙ there)) made.is_selected;
      })
