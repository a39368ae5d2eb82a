-- A statement at a position, and where it leads.
use Rattle.std.proofs.Common.{◌≡◌, ℕ, ◌+◌, ◌-◌, ◌≤◌, ◌<◌, Bool, true, false, List, [], Option, Some, None, Result, IfOk, Ok, Err, slice_get, drop, length, refl}
use Rattle.std.proofs.Common.{sym, ap, subst, ◌∙◌, if◌then◌else◌, arith, rules}
use Rattle.std.specs.Prelude.{nat_lt}
use Rattle.exact_values.specs.Rational.{ℚ}
use Rattle.card_definitions.specs.Cards.{numbered_cards}
use Rattle.deck_definitions.specs.Decks.{decks_of}
use Rattle.control_definitions.specs.Program.{Statement, Program}
use Rattle.std.specs.declared.alloc.AllocError.{AllocError as NoMemory}
use Rattle.listing_definitions.specs.Ending.{Ending, Ended, StatementLimit}
use Rattle.run_definitions.specs.State.{State, start}
use Rattle.run_definitions.specs.Run.{counted, max_executed}
use Rattle.run_machine.specs.declared.machine.Machine.{Machine}
use Rattle.run_machine.specs.Standing as machines
use Rattle.walk_definitions.specs.Checkers.{Checker}
use Rattle.walk_definitions.specs.Walker as walks
use Rattle.walk_definitions.specs.Found.{first_walker, Reaches, begun, walked}
use Rattle.listing_walk.specs.declared.chosen.Chosen.{Chosen}
use Rattle.listing_walk.specs.declared.found.Found.{Found}
use Rattle.listing_walk.specs.declared.place.ListingPlace.{ListingPlace}
use Rattle.listing_walk.specs.declared.walk_step.WalkStep.TheVariants as walk_step
use Rattle.listing_walk.specs.declared.walk_step.AfterStep.TheVariants as after_step
use Rattle.listing_walk.specs.Ended.{found_view, decks_after, IsFoundBy}
use Rattle.listing_walk.specs.Standing.{IsView, IsSound, Faces, holding, Represents}
use Rattle.listing_walk.specs.Walking.{Walks, Steps}

-- the state with one more statement counted
counted_stands : {cards : List (List ℕ)} {machine : Machine Chosen} {position executed : ℕ} {state : State} →
    machines.Represents IsView cards machine position executed state →
    machines.Represents IsView cards machine position (executed + 1) (counted state)
counted_stands s = record {
  is_position = s.is_position;
  is_executed = ap (λ n. n + 1) s.is_executed;
  cells = s.cells;
  file = s.file;
  decks = s.decks;
  setup = s.setup;
  mark = s.mark;
}

-- ---- the turn

abbrev turn_by : Checker → Program → walks.Walker → Bool → Bool → walks.WalkTurn
turn_by C program w over more =
    if over then walks.closes w (Ended 0) else if more then walks.walk_statement C w
    (slice_get program.statements (w.state.position - 1)) else walks.closes w StatementLimit

is_turn : (C : Checker) (program : Program) (w : walks.Walker) →
    walks.turn C program w ≡ turn_by C program w (nat_lt (length program.statements) w.state.position) (nat_lt w.state.executed max_executed)
unfolding walks.turn
is_turn C program w = refl

-- the program's end
turn_over : (C : Checker) (program : Program) (w : walks.Walker) → length program.statements < w.state.position →
    walks.turn C program w ≡ walks.closes w (Ended 0)
turn_over C program w over =
    let e : nat_lt (length program.statements) w.state.position ≡ true = search rules in
    is_turn C program w ∙ ap (λ (b : Bool). turn_by C program w b (nat_lt w.state.executed max_executed)) e

-- the statement limit
turn_at_limit : (C : Checker) (program : Program) (w : walks.Walker) → w.state.position ≤ length program.statements → 100000 ≤ w.state.executed →
    walks.turn C program w ≡ walks.closes w StatementLimit
turn_at_limit C program w within most =
    let e : nat_lt (length program.statements) w.state.position ≡ false = search rules in
    let f : nat_lt w.state.executed max_executed ≡ false = search rules in
    is_turn C program w ∙ ap (λ (b : Bool). turn_by C program w b (nat_lt w.state.executed max_executed)) e ∙ ap (λ (b : Bool). turn_by C program w false b) f

-- a statement
turn_at : (C : Checker) (program : Program) (w : walks.Walker) (statement : Statement ℕ) → w.state.position ≤ length program.statements →
    w.state.executed < 100000 →
    slice_get program.statements (w.state.position - 1) ≡ Some statement → walks.turn C program w ≡ walks.walk_statement C w (Some statement)
turn_at C program w statement within more there =
    let e : nat_lt (length program.statements) w.state.position ≡ false = search rules in
    let f : nat_lt w.state.executed max_executed ≡ true = search rules in
    is_turn C program w ∙ ap (λ (b : Bool). turn_by C program w b (nat_lt w.state.executed max_executed)) e ∙ ap (λ (b : Bool). turn_by C program w false b) f ∙
    ap (walks.walk_statement C w) there

-- ---- a statement

held_last : (before : Option ℚ) (machine : Machine Chosen) (last : ℚ) → holding (Some last) (holding before machine) ≡ holding (Some last) machine
held_last None machine last = refl
held_last (Some value) machine last = refl

module _ (C : Checker) (program : Program) (cards : List (List ℕ)) (position : ℕ) (statement : Statement ℕ)
    (there : slice_get program.statements (position - 1) ≡ Some statement) (within : position ≤ length program.statements)
    (old new : Machine Chosen) (place_old place_new : ListingPlace) where
  turn_here : (executed : ℕ) (w : walks.Walker) → executed < 100000 → Represents cards old position executed place_old w →
      walks.turn C program w ≡ walks.walk_statement C w (Some statement)
  turn_here executed w more s =
      turn_at C program w statement (rw s.state.is_position within) (rw s.state.is_executed more) (rw s.state.is_position there)

  pub steps_next : Walks C statement.verb statement.card cards old new place_old place_new walk_step.Next →
      Steps C program cards position old new place_old place_new (after_step.Goes (position + 1))
  steps_next h = λ executed w more s.
      let c = h position (executed + 1) (counted w.state) w (counted_stands s.state) s.faces in
      (c.0, turn_here executed w more s ∙ c.1, c.2, omega arith)

  -- a value that is left stands in place of the one before it
  pub steps_leaves : (before : Option ℚ) (machine : Machine Chosen) → new ≡ holding before machine → (last : ℚ) →
      Walks C statement.verb statement.card cards old new place_old place_new (walk_step.Leaves last) →
      Steps C program cards position old (holding (Some last) machine) place_old place_new (after_step.Goes (position + 1))
  steps_leaves before machine is last h = λ executed w more s.
      let c = h position (executed + 1) (counted w.state) w (counted_stands s.state) s.faces in (
        c.0,
        turn_here executed w more s
            ∙ c.1,
        subst (λ (m : Machine Chosen). Represents cards m (position + 1) (executed + 1) place_new c.0)
            (ap (holding (Some last)) is ∙ held_last before machine last) c.2,
        omega arith,
      )

  pub steps_jump : (to : ℕ) → Walks C statement.verb statement.card cards old new place_old place_new (walk_step.Jump to) →
      Steps C program cards position old new place_old place_new (after_step.Goes to)
  steps_jump to h = λ executed w more s.
      let c = h position (executed + 1) (counted w.state) w (counted_stands s.state) s.faces in
      (c.0, turn_here executed w more s ∙ c.1, c.2, c.3)

  pub steps_found : (found : Found) → Walks C statement.verb statement.card cards old new place_old place_new (walk_step.Finds found) →
      Steps C program cards position old new place_old place_new (after_step.Finds found)
  steps_found found h = λ executed w more s.
      turn_here executed w more s ∙ h position (executed + 1) (counted w.state) w (counted_stands s.state) s.faces

-- ---- the walk

module _ (C : Checker) (program : Program) (cards : List (List ℕ)) (listing : List ℕ) where
  -- a walker is reached that stands here
  pub record IsUnderway (last : Option ℚ) (machine : Machine Chosen) (place : ListingPlace) (position executed : ℕ) : Type 0 where
    pub sound : IsSound cards machine
    pub first : 1 ≤ position
    pub within : executed ≤ 100000
    pub few : place.reports ≤ executed
    pub walker : walks.Walker
    pub reaches : Reaches C program (decks_after program cards) listing walker
    pub stands : Represents cards (holding last machine) position executed place walker

  pub underway_first : (machine : Machine Chosen) (place : ListingPlace) →
      IsSound cards machine → machines.Represents IsView cards machine 1 0 (start (decks_after program cards)) →
      place.cursor ≡ listing → place.pending ≡ None → place.reports ≡ 0 → IsUnderway None machine place 1 0
  underway_first machine place sound stands rest none no_reports = record {
    sound = sound;
    first = omega arith;
    within = omega arith;
    few = omega (arith, no_reports);
    walker = first_walker (decks_after program cards) listing;
    reaches = begun;
    stands = record {
      state = stands;
      faces = record { rest = sym rest; pending = rw none refl; reports = sym no_reports };
    };
  }

  module _ {last : Option ℚ} {machine : Machine Chosen} {place : ListingPlace} {position executed : ℕ}
      (u : IsUnderway last machine place position executed) where
    pub underway_more : (left : Option ℚ) (new : Machine Chosen) (later : ListingPlace) (to : ℕ) → executed < 100000 → IsSound cards new →
        later.reports ≤ place.reports + 1 →
        Steps C program cards position (holding last machine) (holding left new) place later (after_step.Goes to) → IsUnderway left new later to (executed + 1)
    underway_more left new later to more sound few steps =
        let c = steps executed u.walker more u.stands in
        let before : place.reports ≤ executed = u.few in
        record {
          sound = sound;
          first = c.3;
          within = omega arith;
          few = omega (arith, few, before);
          walker = c.0;
          reaches = walked u.reaches c.1;
          stands = c.2;
        }

    pub underway_found : (new : Machine Chosen) (later : ListingPlace) (found : Found) → executed < 100000 →
        Steps C program cards position (holding last machine) new place later (after_step.Finds found) → IsFoundBy C program cards listing found
    underway_found new later found more steps = record { walker = u.walker; reaches = u.reaches; finds = steps executed u.walker more u.stands }

    pub underway_over : (found : Found) → length program.statements < position →
        ((w : walks.Walker) → Faces place w → walks.closes w (Ended 0) ≡ walks.Finds (found_view found)) → IsFoundBy C program cards listing found
    underway_over found over closes = record {
      walker = u.walker;
      reaches = u.reaches;
      finds = turn_over C program u.walker (rw u.stands.state.is_position over) ∙ closes u.walker u.stands.faces;
    }

    pub underway_at_limit : (found : Found) → position ≤ length program.statements → 100000 ≤ executed →
        ((w : walks.Walker) → Faces place w → walks.closes w StatementLimit ≡ walks.Finds (found_view found)) →
        IsFoundBy C program cards listing found
    underway_at_limit found within most closes = record {
      walker = u.walker;
      reaches = u.reaches;
      finds = turn_at_limit C program u.walker (rw u.stands.state.is_position within) (rw u.stands.state.is_executed most) ∙ closes u.walker u.stands.faces;
    }

  -- ---- by the result of a comparison with an end

  module _ {last : Option ℚ} {machine : Machine Chosen} {place : ListingPlace} {position executed : ℕ} (u : IsUnderway last machine place position executed)
      (result : Result Found NoMemory) where
    pub over_by : length program.statements < position →
        IfOk result (λ found. (w : walks.Walker) → Faces place w → walks.closes w (Ended 0) ≡ walks.Finds (found_view found)) →
        IfOk result (IsFoundBy C program cards listing)
    over_by over closes = by result closes
      where
        by : (r : Result Found NoMemory) → IfOk r (λ found. (w : walks.Walker) → Faces place w → walks.closes w (Ended 0) ≡ walks.Finds (found_view found)) →
            IfOk r (IsFoundBy C program cards listing)
        by (Ok found) h = underway_over u found over h
        by (Err stop) h = tt

    pub at_limit_by : position ≤ length program.statements → 100000 ≤ executed →
        IfOk result (λ found. (w : walks.Walker) → Faces place w → walks.closes w StatementLimit ≡ walks.Finds (found_view found)) →
        IfOk result (IsFoundBy C program cards listing)
    at_limit_by within most closes = by result closes
      where
        by : (r : Result Found NoMemory) →
            IfOk r (λ found. (w : walks.Walker) → Faces place w → walks.closes w StatementLimit ≡ walks.Finds (found_view found)) →
            IfOk r (IsFoundBy C program cards listing)
        by (Ok found) h = underway_at_limit u found within most h
        by (Err stop) h = tt

-- an end before any report
pub closes_first : (listing : List ℕ) (place : ListingPlace) → place.cursor ≡ listing → place.pending ≡ None → place.reports ≡ 0 →
    (ending : Ending) (result : Result Found NoMemory) →
    IfOk result (λ found. (w : walks.Walker) → Faces place w → walks.closes w ending ≡ walks.Finds (found_view found)) →
    IfOk result (λ found. walks.closes (first_walker [] listing) ending ≡ walks.Finds (found_view found))
closes_first listing place rest none no_reports ending (Ok found) closes =
    closes (first_walker [] listing) (record { rest = sym rest; pending = rw none refl; reports = sym no_reports })
closes_first listing place rest none no_reports ending (Err stop) closes = tt
