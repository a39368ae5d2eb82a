-- What a statement comes to in the walk, where XPARAM has a value that no cell holds.
use Rattle.std.proofs.Common.{◌≡◌, ℕ, ◌+◌, List, Option, Some, None, Result, Ok, Err, IfOk, refl, sym, ap, subst, ◌∙◌}
use Rattle.exact_values.specs.Rational.{ℚ}
use Rattle.std.specs.declared.alloc.AllocError.{AllocError as NoMemory}
use Rattle.control_definitions.specs.Cells.{Cells}
use Rattle.control_definitions.specs.declared.NumberCell.TheVariants.{Xparam, Xparmax}
use Rattle.control_definitions.specs.Program as program
use Rattle.control_definitions.specs.Program.{Verb}
use Rattle.run_definitions.specs.State.{State}
use Rattle.run_definitions.specs.Verbs.{verb_move}
use Rattle.run_machine.specs.declared.machine.Machine.{Machine}
use Rattle.run_machine.specs.Standing as machines
use Rattle.walk_definitions.specs.Checkers.{Checker}
use Rattle.walk_definitions.specs.Walker as walks
use Rattle.listing_walk.specs.declared.chosen.Chosen.{Chosen}
use Rattle.parametric_request.specs.declared.request.ParametricVerb.{ParametricVerb}
use Rattle.parametric_request.specs.declared.request.ParametricVerb.TheVariants as verbs
use Rattle.parametric_request.specs.Asking.{verb_of}
use Rattle.listing_walk.specs.declared.parameter.ParameterUse.{ParameterUse}
use Rattle.listing_walk.specs.declared.parameter.ParameterUse.TheVariants.{Reads, Sets, Neither}
use Rattle.listing_walk.specs.declared.place.ListingPlace.{ListingPlace}
use Rattle.listing_walk.specs.declared.walk_step.WalkStep.{WalkStep}
use Rattle.listing_walk.specs.declared.walk_step.WalkStep.TheVariants as walk_step
use Rattle.listing_walk.specs.Parameter.{use_of, as_next}
use Rattle.listing_walk.specs.Standing.{IsView, holding, Represents}
use Rattle.listing_walk.specs.Walking.{TurnsTo, Walks}
use Rattle.listing_walk.proofs.HeldMoves.{state_with, turn_with, verb_with, set_alike, walk_with}

module _ (x : ℚ) (cards : List (List ℕ)) (machine : Machine Chosen) (place : ListingPlace) where
  -- the machine's state, but for this value in XPARAM
  represents_with : (position executed : ℕ) (v : walks.Walker) → Represents cards machine position executed place v →
      Represents cards (holding (Some x) machine) position executed place (record v { state = state_with x v.state })
  represents_with position executed v r = record {
    state = record {
      is_position = r.state.is_position;
      is_executed = r.state.is_executed;
      cells = ap (λ (c : Cells). record c { xparam = x }) r.state.cells;
      file = r.state.file;
      decks = r.state.decks;
      setup = r.state.setup;
      mark = r.state.mark;
    };
    faces = record { rest = r.faces.rest; pending = r.faces.pending; reports = r.faces.reports };
  }

  comes_with : (position executed : ℕ) (turn : walks.WalkTurn) (w' : WalkStep) → TurnsTo turn cards machine position executed place w' →
      TurnsTo (turn_with x turn) cards (holding (Some x) machine) position executed place (as_next w')
  comes_with position executed turn walk_step.Next c =
      (record (c.0) { state = state_with x c.0.state }, ap (turn_with x) c.1, represents_with (position + 1) executed c.0 c.2)
  comes_with position executed turn (walk_step.Leaves last) c = (record (c.0) { state = state_with x c.0.state }, ap (turn_with x) c.1, left c.0 c.2)
    where
      left : (v : walks.Walker) → Represents cards (holding (Some last) machine) (position + 1) executed place v →
          Represents cards (holding (Some x) machine) (position + 1) executed place (record v { state = state_with x v.state })
      left v r = record {
        state = record {
          is_position = r.state.is_position;
          is_executed = r.state.is_executed;
          cells = ap (λ (c : Cells). record c { xparam = x }) r.state.cells;
          file = r.state.file;
          decks = r.state.decks;
          setup = r.state.setup;
          mark = r.state.mark;
        };
        faces = record { rest = r.faces.rest; pending = r.faces.pending; reports = r.faces.reports };
      }
  comes_with position executed turn (walk_step.Jump to) c =
      (record (c.0) { state = state_with x c.0.state }, ap (turn_with x) c.1, represents_with to executed c.0 c.2, c.3)
  comes_with position executed turn (walk_step.Finds found) c = ap (turn_with x) c

-- the state with the machine's own cells
module _ (x : ℚ) (cards : List (List ℕ)) (old : Machine Chosen) (position executed : ℕ) (state : State)
    (s : machines.Represents IsView cards (holding (Some x) old) position executed state) where
  abbrev before : State
  before = record state { cells = old.cells }

  stood : machines.Represents IsView cards old position executed before
  stood = record { is_position = s.is_position; is_executed = s.is_executed; cells = refl; file = s.file; decks = s.decks; setup = s.setup; mark = s.mark }

  same : state_with x before ≡ state
  same = ap (λ (c : Cells). record state { cells = c }) (sym s.cells)

module _ (x : ℚ) (C : Checker) (verb : Verb ℕ) (card : ℕ) (cards : List (List ℕ)) (old new : Machine Chosen) (place_old place_new : ListingPlace) where
  -- a statement that leaves XPARAM alone leaves this value there
  held : use_of verb ≡ Neither → (w' : WalkStep) → Walks C verb card cards old new place_old place_new w' →
      Walks C verb card cards (holding (Some x) old) (holding (Some x) new) place_old place_new (as_next w')
  held apart w' h = λ position executed state w s f.
      let first : State = before x cards old position executed state s in
      subst (λ (t : walks.WalkTurn). TurnsTo t cards (holding (Some x) new) position executed place_new (as_next w'))
      (sym (walk_with x C w (verb_move verb card first))
      ∙ ap (walks.walk_move C w) (sym (verb_with x verb apart card first) ∙ ap (verb_move verb card) (same x cards old position executed state s)))
      (comes_with x cards new place_new position executed (walks.walk_move C w (verb_move verb card first)) w'
      (h position executed first w (stood x cards old position executed state s) f))

  pub walks_held : use_of verb ≡ Neither → (w' left : WalkStep) → left ≡ as_next w' → Walks C verb card cards old new place_old place_new w' →
      Walks C verb card cards (holding (Some x) old) (holding (Some x) new) place_old place_new left
  walks_held apart w' left is h = subst (Walks C verb card cards (holding (Some x) old) (holding (Some x) new) place_old place_new) (sym is) (held apart w' h)

  -- one that sets XPARAM goes by the machine alone
  set : use_of verb ≡ Sets → (w' : WalkStep) → Walks C verb card cards old new place_old place_new w' →
      Walks C verb card cards (holding (Some x) old) new place_old place_new w'
  set sets w' h = λ position executed state w s f.
      let first : State = before x cards old position executed state s in
      subst (λ (t : walks.WalkTurn). TurnsTo t cards new position executed place_new w')
      (ap (walks.walk_move C w) (sym (set_alike x verb sets card first) ∙ ap (verb_move verb card) (same x cards old position executed state s)))
      (h position executed first w (stood x cards old position executed state s) f)

  set_ok : use_of verb ≡ Sets → (result : Result WalkStep NoMemory) → IfOk result (Walks C verb card cards old new place_old place_new) →
      IfOk result (Walks C verb card cards (holding (Some x) old) new place_old place_new)
  set_ok sets (Ok w') h = set sets w' h
  set_ok sets (Err stop) h = tt

module _ (C : Checker) (verb : Verb ℕ) (card : ℕ) (cards : List (List ℕ)) (old new : Machine Chosen) (place_old place_new : ListingPlace) where
  -- whatever a run left there
  pub walks_set : (last : Option ℚ) → use_of verb ≡ Sets → (result : Result WalkStep NoMemory) →
      IfOk result (Walks C verb card cards old new place_old place_new) → IfOk result (Walks C verb card cards (holding last old) new place_old place_new)
  walks_set None sets result h = h
  walks_set (Some x) sets result h = set_ok x C verb card cards old new place_old place_new sets result h

abbrev run_of : ParameterUse → ParametricVerb
run_of (Reads asked) = asked
run_of Sets = verbs.Paraobj
run_of Neither = verbs.Paraobj

-- the verb that begins a run
pub run_verb : (verb : Verb ℕ) (asked : ParametricVerb) → use_of verb ≡ Reads asked → verb_of asked ≡ verb
run_verb program.Initialz asked is = absurd (cc is)
run_verb (program.Title text) asked is = absurd (cc is)
run_verb (program.MoveName cell name) asked is = absurd (cc is)
run_verb (program.MoveNumber Xparam value) asked is = absurd (cc is)
run_verb (program.MoveNumber Xparmax value) asked is = absurd (cc is)
run_verb (program.MoveLimit limit) asked is = absurd (cc is)
run_verb (program.Mvadr demand to) asked is = absurd (cc is)
run_verb (program.Goto to) asked is = absurd (cc is)
run_verb program.Convert asked is = absurd (cc is)
run_verb program.Revise asked is = absurd (cc is)
run_verb (program.Setup options) asked is = absurd (cc is)
run_verb program.Primal asked is = absurd (cc is)
run_verb program.Dual asked is = absurd (cc is)
run_verb program.Solution asked is = absurd (cc is)
run_verb program.Ranging asked is = absurd (cc is)
run_verb program.Paraobj asked is = ap (λ (how : ParameterUse). verb_of (run_of how)) (sym is)
run_verb program.Pararhs asked is = ap (λ (how : ParameterUse). verb_of (run_of how)) (sym is)
run_verb program.Bcdout asked is = absurd (cc is)
run_verb program.Punch asked is = absurd (cc is)
run_verb program.Insert asked is = absurd (cc is)
run_verb program.Exit asked is = absurd (cc is)
