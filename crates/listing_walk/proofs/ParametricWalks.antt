-- What PARAOBJ and PARARHS come to in the walk.
use Rattle.std.proofs.Common.{◌≡◌, ℕ, true, List, [], Option, Some, None, Result, Ok, Err, IfOk, length, refl, sym, ap, subst, ◌∙◌}
use Rattle.std.specs.Prelude.{option_and_then}
use Rattle.std.specs.List.{enumerate_from}
use Rattle.std.proofs.lemmas.List.{length-map}
use Rattle.std.proofs.lemmas.List.FromFn.{length-enumerate_from}
use Rattle.std.specs.declared.alloc.AllocError.{AllocError as NoMemory}
use Rattle.exact_values.specs.Rational.{ℚ}
use Rattle.lp_definitions.specs.LinearProgram.{LinearProgram}
use Rattle.problem_definitions.specs.Names.{Name}
use Rattle.problem_definitions.specs.Problem.{Problem}
use Rattle.problem_file.specs.Filed.{filed_under}
use Rattle.control_definitions.specs.Cells.{Cells, steps_allowed}
use Rattle.selection_definitions.specs.Choice.{Choice}
use Rattle.selection_definitions.specs.Selection.{selected}
use Rattle.listing_definitions.specs.declared.Mark.{Mark}
use Rattle.listing_definitions.specs.declared.VerbFault.{VerbFault}
use Rattle.listing_definitions.specs.declared.VerbFault.TheVariants.{NoSetup, NoParmax, ParmaxBelow}
use Rattle.listing_definitions.specs.Report.{Solved, Parametric}
use Rattle.question_definitions.specs.Answers.{Basis, Sheet, Changing, changing_name, parametric_solver, ParametricRun, OfParametricRun, ParametricRunEnd}
use Rattle.question_definitions.specs.Answers.{Opening, Chained, ParametricRunLimit}
use Rattle.answer_definitions.specs.ParametricRuns.{shifts_of}
use Rattle.run_definitions.specs.State.{Present, State, choice_of, gone_through}
use Rattle.run_definitions.specs.Moves.{Prints, StatementOutcome, StatementMove, or_fault}
use Rattle.run_definitions.specs.Verbs.{asks, after_parametric_run, mark_of, last_value, not_less, verb_move}
use Rattle.run_machine.specs.declared.act.Act.{Act}
use Rattle.run_machine.specs.declared.act.Act.TheVariants as acts
use Rattle.run_machine.specs.declared.end.End.TheVariants as ends
use Rattle.run_machine.specs.declared.finding.Finding.{Finding}
use Rattle.run_machine.specs.declared.finding.Finding.TheVariants.{Ended, RanThrough as Reached}
use Rattle.run_machine.specs.declared.machine.Machine.{Machine}
use Rattle.run_machine.specs.Findings.{act_of}
use Rattle.run_machine.specs.Standing.{AreDemands}
use Rattle.run_machine.specs.Standing as machines
use Rattle.walk_definitions.specs.Checkers.{Checker}
use Rattle.walk_definitions.specs.Walker as walks
use Rattle.parametric_request.specs.declared.request.Change.{Change}
use Rattle.parametric_request.specs.declared.request.Change.TheVariants as changes
use Rattle.parametric_request.specs.declared.request.ParametricVerb.{ParametricVerb}
use Rattle.parametric_request.specs.declared.request.ParametricVerb.TheVariants.{Paraobj, Pararhs}
use Rattle.parametric_request.specs.declared.request.RequestStop.{RequestStop}
use Rattle.parametric_request.specs.declared.request.RequestStop.TheVariants as request_stops
use Rattle.parametric_request.specs.Asking.{verb_of, name_moved, change_of, change_fault, IsAsked, IsAskFault, no_last, below, no_change, no_value, IsNotAsked}
use Rattle.parametric_request.specs.Asking.{IsChangeOf, ServesChange}
use Rattle.listing_claims.specs.declared.claims.AskedRun.{AskedRun}
use Rattle.listing_claims.specs.Asked.{parametric_run_of}
use Rattle.listing_answers.specs.declared.answer.ParametricRunAnswer.{ParametricRunAnswer}
use Rattle.listing_answers.specs.declared.answer.ParametricRunAnswer.TheVariants.{Opened, RanThrough}
use Rattle.listing_answers.specs.Taken.{IsParametricRunAnswer}
use Rattle.listing_walk.specs.declared.answering.Stopped.{Stopped}
use Rattle.listing_walk.specs.declared.answering.Stopped.TheVariants as stops
use Rattle.listing_walk.specs.declared.chosen.Chosen.{Chosen}
use Rattle.listing_walk.specs.declared.found.Found.{Found}
use Rattle.listing_walk.specs.declared.place.ListingPlace.{ListingPlace}
use Rattle.listing_walk.specs.declared.selecting.Unselected.{Unselected}
use Rattle.listing_walk.specs.declared.walk_step.WalkStep.{WalkStep}
use Rattle.listing_walk.specs.declared.walk_step.WalkStep.TheVariants as walk_step
use Rattle.listing_walk.specs.Choosing.{IsMade, IsNotMade}
use Rattle.listing_walk.specs.Standing.{IsView, IsSound, Faces}
use Rattle.listing_walk.specs.Walking.{open_by, TurnsTo, IsOutcome, Finishes, Passes, Walks, Refuses, IsUnchecked}
use Rattle.listing_walk.specs.Asking.{asked_turn, Answered, IsStopStep}
use Rattle.listing_walk.specs.ParametricVerbs.{finding_of, left_by, IsUnasked}
use Rattle.listing_walk.proofs.FollowOn.{finished_next}
use Rattle.listing_walk.proofs.Selected.{fault_move, found_move, as_many_rows}
use Rattle.listing_walk.proofs.SettingUp.{faulted}
use Rattle.listing_walk.proofs.SolvingWalks.{present_with, selecting, fault_stop, no_setup_walks, refusal_walks, refused_walks, made_walks, verdict_comes}

-- ---- what is asked for can be run

module _ (problem : Problem ℕ) (choice : Choice) (lp : LinearProgram) (ok : selected problem choice ≡ Ok lp) where
  values_counted : (name : Name) → length (shifts_of problem name) ≡ length problem.rows
  values_counted name = length-map (enumerate_from 1 problem.rows) _ ∙ length-enumerate_from 1 problem.rows

  pub serves_change : (name : Name) (change : Change) → IsChangeOf problem name change → ServesChange problem lp name change
  serves_change name (changes.Row row) is = let free = is.1 choice lp ok in (is.0, free.0, free.1)
  serves_change name (changes.Set shift) is = (is, ap length (sym is) ∙ values_counted name ∙ as_many_rows problem choice lp ok)

-- ---- the verb's tests

abbrev sheet_of : Present → LinearProgram → Sheet
sheet_of present lp = record { problem = present.problem; lp = lp }

module _ (verb : ParametricVerb) (card : ℕ) (state : State) (present : Present) where
  -- the run from the present basis
  abbrev run_move : LinearProgram → ParametricRun → StatementMove
  run_move lp parametric_run = asks (OfParametricRun parametric_run) (sheet_of present lp) present (after_parametric_run card parametric_run present state)

  abbrev up_to : LinearProgram → Changing → ℚ → StatementMove
  up_to lp changing to = run_move lp (record { changing = changing; from = state.cells.xparam; to = to; limit = steps_allowed state.cells })

  abbrev with_last : LinearProgram → Changing → ℚ → StatementMove
  with_last lp changing last = or_fault card ParmaxBelow (not_less state.cells.xparam last) (up_to lp changing)

  abbrev with_change : LinearProgram → Changing → StatementMove
  with_change lp changing = or_fault card NoParmax state.cells.xparmax (with_last lp changing)

  abbrev tested_move : LinearProgram → StatementMove
  tested_move lp = or_fault card (change_fault verb) (option_and_then (change_of verb present.problem) (name_moved verb state.cells)) (with_change lp)

  asked_move : (lp : LinearProgram) (parametric_run : ParametricRun) → IsAsked verb present.problem state.cells parametric_run →
      tested_move lp ≡ run_move lp parametric_run
  asked_move lp parametric_run a =
      let same : record { changing = parametric_run.changing; from = state.cells.xparam; to = parametric_run.to; limit = steps_allowed state.cells }
      ≡ parametric_run =
      λ i. record { changing = parametric_run.changing; from = sym a.is_first i; to = parametric_run.to; limit = sym a.is_limit i } in
      found_move card (change_fault verb) (option_and_then (change_of verb present.problem) (name_moved verb state.cells))
      (with_change lp) parametric_run.changing a.changes ∙
      found_move card NoParmax state.cells.xparmax (with_last lp parametric_run.changing) a.is_last.last a.is_last.is_moved ∙
      found_move card ParmaxBelow (not_less state.cells.xparam a.is_last.last) (up_to lp parametric_run.changing) parametric_run.to a.is_last.is_last ∙
      ap (run_move lp) same

  refused_move : (lp : LinearProgram) (fault : VerbFault) → IsAskFault verb present.problem state.cells fault → tested_move lp ≡ fault_stop fault card
  refused_move lp _ (no_change none) =
      fault_move card (change_fault verb) (option_and_then (change_of verb present.problem) (name_moved verb state.cells)) (with_change lp) none
  refused_move lp _ (no_value {changing = changing} changes (no_last none)) =
      found_move card (change_fault verb) (option_and_then (change_of verb present.problem) (name_moved verb state.cells)) (with_change lp) changing changes ∙
      fault_move card NoParmax state.cells.xparmax (with_last lp changing) none
  refused_move lp _ (no_value {changing = changing} changes (below {last = last} moved less)) =
      found_move card (change_fault verb) (option_and_then (change_of verb present.problem) (name_moved verb state.cells)) (with_change lp) changing changes ∙
      (found_move card NoParmax state.cells.xparmax (with_last lp changing) last moved ∙
      fault_move card ParmaxBelow (not_less state.cells.xparam last) (up_to lp changing) less)

-- what is open is the same at each end of the tests
opens_fault : {X : Type 0} (w : walks.Walker) (card : ℕ) (fault : VerbFault) (found : Option X) (go : X → StatementMove) →
    ((x : X) → walks.opened w (go x) ≡ open_by true true w) → walks.opened w (or_fault card fault found go) ≡ open_by true true w
opens_fault w card fault None go h = refl
opens_fault w card fault (Some x) go h = h x

opens_tested : (verb : ParametricVerb) (card : ℕ) (state : State) (present : Present) (w : walks.Walker) (lp : LinearProgram) →
    walks.opened w (tested_move verb card state present lp) ≡ open_by true true w
opens_tested verb card state present w lp =
    opens_fault w card (change_fault verb) (option_and_then (change_of verb present.problem) (name_moved verb state.cells))
    (with_change verb card state present lp) (λ changing.
    opens_fault w card NoParmax state.cells.xparmax (with_last verb card state present lp changing) (λ last.
    opens_fault w card ParmaxBelow (not_less state.cells.xparam last) (up_to verb card state present lp changing) (λ to. refl)))

parametric_move : (verb : ParametricVerb) (card : ℕ) (state : State) → verb_move (verb_of verb) card state ≡ selecting card state (tested_move verb card state)
unfolding verb_move
parametric_move Paraobj card state = refl
parametric_move Pararhs card state = refl

-- ---- the verb in the walk

module _ (C : Checker) (verb : ParametricVerb) (card : ℕ) (cards : List (List ℕ)) (machine : Machine Chosen) (old new : ListingPlace) where
  pub parametric_no_setup : machine.setup ≡ None → (result : Result WalkStep NoMemory) →
      IfOk result (Passes machine old new (acts.Ends (ends.Verb NoSetup card)) []) → IfOk result (Walks C (verb_of verb) card cards machine machine old new)
  parametric_no_setup = no_setup_walks C (verb_of verb) card (tested_move verb card) (parametric_move verb card) cards machine old new

  module _ (chosen : Chosen) (is_setup : machine.setup ≡ Some chosen) (problem : Problem ℕ)
      (on_file : filed_under chosen.name machine.file ≡ Some problem) where
    pub parametric_refused : (found : Found) → IsUnchecked old found → (refusal : Unselected) →
        IsNotMade problem (choice_of machine.cells chosen.options) refusal →
        (result : Result WalkStep NoMemory) → IfOk result (Refuses machine old new card refusal found) →
        IfOk result (Walks C (verb_of verb) card cards machine machine old new)
    parametric_refused found u =
        refusal_walks C (verb_of verb) card (tested_move verb card) (parametric_move verb card) cards machine old new chosen is_setup problem on_file found
        (λ refused.
        refused_walks C (verb_of verb) card (tested_move verb card) (parametric_move verb card) cards machine old new chosen is_setup problem on_file
        (λ state present w lp. opens_tested verb card state present w lp) refused found u)

    module _ (lp : LinearProgram) (made : IsMade problem (choice_of machine.cells chosen.options) lp) where
      abbrev through : (after : Machine Chosen) (w' : WalkStep) →
          ((position executed : ℕ) (state : State) (w : walks.Walker) (opening : Basis) (steps : List Basis) →
          machines.Represents IsView cards machine position executed state → Faces old w →
          state.setup ≡ Some (present_with problem chosen.options opening steps) →
          TurnsTo (walks.walk_move C w
          (tested_move verb card state (present_with problem chosen.options opening steps) lp)) cards after position executed new w') →
          Walks C (verb_of verb) card cards machine after old new w'
      through =
          made_walks C (verb_of verb) card (tested_move verb card) (parametric_move verb card) cards machine old new chosen is_setup problem on_file lp made

      unasked_by : (fault : VerbFault) → IsAskFault verb problem machine.cells fault → (w' : WalkStep) →
          Passes machine old new (acts.Ends (ends.Verb fault card)) [] w' → Walks C (verb_of verb) card cards machine machine old new w'
      unasked_by fault h w' passes =
          through machine w' (λ position executed state w opening steps s f is_viewed.
          faulted C cards machine old new fault card w' passes w
          (tested_move verb card state (present_with problem chosen.options opening steps) lp) position executed f
          (refused_move verb card state (present_with problem chosen.options opening steps) lp fault
          (subst (λ (c : Cells). IsAskFault verb problem c fault) (sym s.cells) h)))

      pub parametric_unasked : (stop : RequestStop) → IsNotAsked verb problem machine.cells stop → (result : Result WalkStep NoMemory) →
          IfOk result (IsUnasked machine old new card stop) → IfOk result (Walks C (verb_of verb) card cards machine machine old new)
      parametric_unasked (request_stops.Fault fault) h (Ok w') passes = unasked_by fault h w' passes
      parametric_unasked (request_stops.Fault fault) h (Err stop) passes = tt
      parametric_unasked request_stops.NoMemory h (Ok w') passes = absurd passes
      parametric_unasked request_stops.NoMemory h (Err stop) passes = tt

      module _ (request : AskedRun) (asked : IsAsked verb problem machine.cells (parametric_run_of (steps_allowed machine.cells) request)) where
        abbrev parametric_run : ParametricRun
        parametric_run = parametric_run_of (steps_allowed machine.cells) request

        -- the turn is that of the question
        turn_asked : {position executed : ℕ} {state : State} (w : walks.Walker) (opening : Basis) (steps : List Basis) →
            machines.Represents IsView cards machine position executed state →
            walks.walk_move C w (tested_move verb card state (present_with problem chosen.options opening steps) lp) ≡
            asked_turn C w (OfParametricRun parametric_run) (record { problem = problem; lp = lp })
            (after_parametric_run card parametric_run (present_with problem chosen.options opening steps) state)
        turn_asked {state = state} w opening steps s =
            ap (walks.walk_move C w)
            (asked_move verb card state (present_with problem chosen.options opening steps) lp parametric_run
            (subst (λ (c : Cells). IsAsked verb problem c parametric_run) (sym s.cells) asked))

        found_walks : (after : Machine Chosen) (found : Found) →
            ((limit : ℕ) →
            Answered C {X = ParametricRunAnswer} (OfParametricRun (parametric_run_of limit request))
            (record { problem = problem; lp = lp }) old new IsParametricRunAnswer (Err (stops.Finds found))) →
            Walks C (verb_of verb) card cards machine after old new (walk_step.Finds found)
        found_walks after found answered =
            through after (walk_step.Finds found) (λ position executed state w opening steps s f is_viewed.
            turn_asked w opening steps s
            ∙ answered (steps_allowed machine.cells) w (after_parametric_run card parametric_run (present_with problem chosen.options opening steps) state) f)

        pub parametric_stopped : (after : Machine Chosen) (stopped : Stopped) →
            ((limit : ℕ) →
            Answered C {X = ParametricRunAnswer} (OfParametricRun (parametric_run_of limit request))
            (record { problem = problem; lp = lp }) old new IsParametricRunAnswer (Err stopped)) →
            (result : Result WalkStep NoMemory) → IfOk result (IsStopStep stopped) → IfOk result (Walks C (verb_of verb) card cards machine after old new)
        parametric_stopped after (stops.Finds found) answered (Ok w') is =
            subst (λ (x : WalkStep). Walks C (verb_of verb) card cards machine after old new x) (sym is) (found_walks after found answered)
        parametric_stopped after (stops.Finds found) answered (Err stop) is = tt
        parametric_stopped after stops.NoMemory answered (Ok w') is = absurd is
        parametric_stopped after stops.NoMemory answered (Err stop) is = tt

        module _ (demands : AreDemands machine.cells) (mid : ListingPlace) where
          abbrev then_open : State → Present → List Basis → State
          then_open state present bases = record state { setup = Some (gone_through bases present); mark = None }

          abbrev then_run_through : State → Present → List Basis → ℚ → State
          then_run_through state present bases last =
              record state { setup = Some (gone_through bases present); mark = None; cells = record (state.cells) { xparam = last } }

          stands_open : (mark : Mark) {position executed : ℕ} {state : State} → machines.Represents IsView cards machine position executed state →
              (opening : Basis) (steps bases : List Basis) →
              machines.Represents IsView cards (left_by (Ended mark) machine) position executed
              (then_open state (present_with problem chosen.options opening steps) bases)
          stands_open mark s opening steps bases = record {
            is_position = s.is_position;
            is_executed = s.is_executed;
            cells = s.cells;
            file = s.file;
            decks = s.decks;
            setup =
                subst (λ (kept : Option Chosen). machines.ShowsSetup IsView machine.file kept
                (Some (gone_through bases (present_with problem chosen.options opening steps)))) (sym is_setup)
                (gone_through bases (present_with problem chosen.options opening steps), refl, record { on_file = on_file; has_options = refl });
            mark = refl;
          }

          stands_run_through : (last : ℚ) {position executed : ℕ} {state : State} → machines.Represents IsView cards machine position executed state →
              (opening : Basis) (steps bases : List Basis) →
              machines.Represents IsView cards (left_by (Reached last) machine) position executed
              (then_run_through state (present_with problem chosen.options opening steps) bases last)
          stands_run_through last s opening steps bases = record {
            is_position = s.is_position;
            is_executed = s.is_executed;
            cells = ap (λ (c : Cells). record c { xparam = last }) s.cells;
            file = s.file;
            decks = s.decks;
            setup =
                subst (λ (kept : Option Chosen). machines.ShowsSetup IsView machine.file kept
                (Some (gone_through bases (present_with problem chosen.options opening steps)))) (sym is_setup)
                (gone_through bases (present_with problem chosen.options opening steps), refl, record { on_file = on_file; has_options = refl });
            mark = refl;
          }

          -- by the answer
          ends_by : (x : ParametricRunAnswer) (act : Act) → act ≡ act_of (left_by (finding_of x) machine).cells card (finding_of x) → (w' : WalkStep) →
              Finishes mid new act w' → (position executed : ℕ) (state : State) (opening : Basis) (steps : List Basis) →
              machines.Represents IsView cards machine position executed state → (turn : walks.WalkTurn) (v : walks.Walker) (answer : ParametricRunEnd) →
              turn ≡ walks.follows v (after_parametric_run card parametric_run (present_with problem chosen.options opening steps) state answer) → Faces mid v →
              IsParametricRunAnswer x answer → TurnsTo turn cards (left_by (finding_of x) machine) position executed new w'
          ends_by (Opened mark) act is_act w' finishes position executed state opening steps s turn v (Opening bases verdict check) is faces e =
              let present = present_with problem chosen.options opening steps in
              let outcome : StatementOutcome = after_parametric_run card parametric_run present state (Opening bases verdict check) in
              let comes =
              verdict_comes card cards (left_by (Ended mark) machine) position executed (Solved (parametric_solver parametric_run.changing) verdict check)
              (then_open state present bases) (stands_open mark s opening steps bases) machine.cells demands s.cells (mark_of verdict) in
              subst (λ (t : walks.WalkTurn). TurnsTo t cards (left_by (Ended mark) machine) position executed new w') (sym is)
              (finishes v outcome cards (left_by (Ended mark) machine) position executed
              (Prints (Solved (parametric_solver parametric_run.changing) verdict check)) faces
              (subst (λ (a : Act). IsOutcome outcome cards (left_by (Ended mark) machine) position executed
              (Prints (Solved (parametric_solver parametric_run.changing) verdict check)) a)
              (ap (λ (m : Mark). act_of machine.cells card (Ended m)) (sym e) ∙ sym is_act) comes))
          ends_by (Opened mark) act is_act w' finishes position executed state opening steps s turn v (Chained bases intervals end) is faces e = absurd e
          ends_by (Opened mark) act is_act w' finishes position executed state opening steps s turn v ParametricRunLimit is faces e = absurd e
          ends_by (RanThrough last) act is_act w' finishes position executed state opening steps s turn v (Chained bases intervals end) is faces e =
              let present = present_with problem chosen.options opening steps in
              let report =
              Parametric (parametric_solver parametric_run.changing)
              (record { from = parametric_run.from; change = changing_name parametric_run.changing; intervals = intervals; end = end }) in
              let outcome : StatementOutcome = after_parametric_run card parametric_run present state (Chained bases intervals end) in
              let stands =
              subst (λ (x : ℚ). machines.Represents IsView cards (left_by (Reached last) machine) position executed (then_run_through state present bases x)) e
              (stands_run_through last s opening steps bases) in
              subst (λ (t : walks.WalkTurn). TurnsTo t cards (left_by (Reached last) machine) position executed new w') (sym is)
              (finishes v outcome cards (left_by (Reached last) machine) position executed (Prints report) faces
              (subst (λ (a : Act). IsOutcome outcome cards (left_by (Reached last) machine) position executed (Prints report) a) (sym is_act)
              (then_run_through state present bases (last_value end), refl, stands)))
          ends_by (RanThrough last) act is_act w' finishes position executed state opening steps s turn v (Opening bases verdict check) is faces e = absurd e
          ends_by (RanThrough last) act is_act w' finishes position executed state opening steps s turn v ParametricRunLimit is faces e = absurd e

          pub parametric_ended : (x : ParametricRunAnswer) →
              ((limit : ℕ) →
              Answered C (OfParametricRun (parametric_run_of limit request)) (record { problem = problem; lp = lp }) old mid IsParametricRunAnswer (Ok x)) →
              (after : Machine Chosen) → after ≡ left_by (finding_of x) machine →
              (act : Act) → act ≡ act_of after.cells card (finding_of x) → (result : Result WalkStep NoMemory) → IfOk result (Finishes mid new act) →
              IfOk result (Walks C (verb_of verb) card cards machine after old new)
          parametric_ended x answered after is act is_act (Ok w') finishes =
              subst (λ (m : Machine Chosen). Walks C (verb_of verb) card cards machine m old new w') (sym is)
              (through (left_by (finding_of x) machine) w' (λ position executed state w opening steps s f is_viewed.
              let a =
              answered (steps_allowed machine.cells) w (after_parametric_run card parametric_run (present_with problem chosen.options opening steps) state) f in
              ends_by x act (is_act ∙ ap (λ (m : Machine Chosen). act_of m.cells card (finding_of x)) is) w' finishes position executed state opening steps s
              (walks.walk_move C w (tested_move verb card state (present_with problem chosen.options opening steps) lp)) a.walker a.answer
              (turn_asked w opening steps s ∙ a.is_turn) a.faces a.holds))
          parametric_ended x answered after is act is_act (Err stop) finishes = tt

        -- a last value that no cell holds is handed out
        pub parametric_long : AreDemands machine.cells → (x : ParametricRunAnswer) (last : ℚ) → x ≡ RanThrough last →
            ((limit : ℕ) →
            Answered C (OfParametricRun (parametric_run_of limit request)) (record { problem = problem; lp = lp }) old new IsParametricRunAnswer (Ok x)) →
            Walks C (verb_of verb) card cards machine (record machine { mark = None }) old new (walk_step.Leaves last)
        parametric_long demands x last is answered =
            parametric_ended demands new (RanThrough last)
            (subst (λ (y : ParametricRunAnswer). (limit : ℕ) →
            Answered C (OfParametricRun (parametric_run_of limit request)) (record { problem = problem; lp = lp }) old new IsParametricRunAnswer
            (Ok y)) is answered)
            (left_by (Reached last) machine) refl acts.Next refl (Ok walk_step.Next) (finished_next new)

-- the machine after what was found, by the answer
pub left_so : (machine : Machine Chosen) (finding found : Finding) → finding ≡ found → (after : Machine Chosen) → after ≡ left_by finding machine →
    after ≡ left_by found machine
left_so machine finding found same after is = is ∙ ap (λ (f : Finding). left_by f machine) same

-- and stays sound
sound_by : (cards : List (List ℕ)) (machine : Machine Chosen) (x : ParametricRunAnswer) → IsSound cards machine → IsSound cards (left_by (finding_of x) machine)
sound_by cards machine (Opened mark) sound = record { first = sound.first; last = sound.last; demands = sound.demands; ready = sound.ready; solved = tt }
sound_by cards machine (RanThrough last) sound = record {
  first = sound.first;
  last = sound.last;
  demands = record { infeasible = sound.demands.infeasible; unbounded = sound.demands.unbounded };
  ready = sound.ready;
  solved = tt;
}

pub parametric_long_sound : (cards : List (List ℕ)) (machine : Machine Chosen) → IsSound cards machine → IsSound cards (record machine { mark = None })
parametric_long_sound cards machine sound = record { first = sound.first; last = sound.last; demands = sound.demands; ready = sound.ready; solved = tt }

pub parametric_sound : (cards : List (List ℕ)) (machine : Machine Chosen) (x : ParametricRunAnswer) (after : Machine Chosen) →
    after ≡ left_by (finding_of x) machine → IsSound cards machine → IsSound cards after
parametric_sound cards machine x after is sound = subst (IsSound cards) (sym is) (sound_by cards machine x sound)
