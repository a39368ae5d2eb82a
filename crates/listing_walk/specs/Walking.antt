-- What a statement comes to in the walk.
--     looks_by, clears_by          where a stop is looked for, and where what is pending has to be settled
--     TurnsTo turn .. next_step           the turn is this: the walk goes on, or it ends
--     Walks C verb card ..         from each walker that stands here, the statement comes to this
use Rattle.std.specs.Prelude.{◌≡◌, ℕ, ◌+◌, ◌≤◌, ◌<◌, Bool, true, false, List, [], ◌∷◌, Option, None, Some, if◌then◌else◌}
use Rattle.std.specs.Option.{option_or}
use Rattle.control_definitions.specs.Program.{Verb, Program}
use Rattle.run_definitions.specs.State.{State}
use Rattle.run_definitions.specs.Moves.{StatementOutcome, StatementMove, Does, Gain, DecidesAlone, gain_text}
use Rattle.run_definitions.specs.Verbs.{verb_move}
use Rattle.run_machine.specs.declared.act.Act.{Act}
use Rattle.run_machine.specs.declared.act.Act.TheVariants as acts
use Rattle.run_machine.specs.declared.end.End.TheVariants as ends
use Rattle.run_machine.specs.declared.machine.Machine.{Machine}
use Rattle.run_machine.specs.Standing as machines
use Rattle.run_machine.specs.Statements.{Follows}
use Rattle.walk_definitions.specs.Checkers.{Checker}
use Rattle.walk_definitions.specs.Walker as walks
use Rattle.listing_walk.specs.declared.chosen.Chosen.{Chosen}
use Rattle.listing_walk.specs.declared.place.ListingPlace.{ListingPlace}
use Rattle.listing_walk.specs.declared.found.Found.{Found}
use Rattle.listing_walk.specs.declared.selecting.Unselected.{Unselected}
use Rattle.listing_walk.specs.declared.selecting.Unselected.TheVariants.{Fault, Unchecked, NoMemory}
use Rattle.listing_walk.specs.declared.walk_step.WalkStep.{WalkStep}
use Rattle.listing_walk.specs.declared.walk_step.WalkStep.TheVariants.{Next, Leaves, Jump, Finds}
use Rattle.listing_walk.specs.declared.walk_step.AfterStep.{AfterStep}
use Rattle.listing_walk.specs.declared.walk_step.AfterStep.TheVariants as after_step
use Rattle.listing_walk.specs.Ended.{found_view}
use Rattle.listing_walk.specs.Standing.{IsView, Faces, holding, Represents}
use Rattle.run_definitions.specs.Run.{max_executed}

-- ---- what is open

-- what is open, where a stop is looked for, and where what is pending has to be settled
abbrev pub open_by : Bool → Bool → walks.Walker → Option walks.Found
open_by looks clears w = option_or (if looks then walks.open_stop w else None) (if clears then walks.open_pending w else None)

-- something is printed
abbrev pub has_text : List ℕ → Bool
has_text [] = false
has_text (byte ∷ text) = true

-- each text that isn't empty is a report
abbrev pub one_if : Bool → ℕ
one_if true = 1
one_if false = 0

abbrev pub ends_run : Act → Bool
ends_run acts.Next = false
ends_run (acts.Jump to) = false
ends_run (acts.Ends end) = true

-- ---- what comes

-- the walk goes on with a walker that stands here, or it ends
abbrev pub TurnsTo : walks.WalkTurn → List (List ℕ) → Machine Chosen → ℕ → ℕ → ListingPlace → WalkStep → Type 0
TurnsTo turn cards machine position executed place Next = (v : walks.Walker) × (turn ≡ walks.Walks v) × Represents cards machine (position + 1) executed place v
TurnsTo turn cards machine position executed place (Leaves last) =
    (v : walks.Walker) × (turn ≡ walks.Walks v) × Represents cards (holding (Some last) machine) (position + 1) executed place v
TurnsTo turn cards machine position executed place (Jump to) =
    (v : walks.Walker) × (turn ≡ walks.Walks v) × Represents cards machine to executed place v × (1 ≤ to)
TurnsTo turn cards machine position executed place (Finds found) = turn ≡ walks.Finds (found_view found)

-- the outcome is that of an act, which was reached with this machine
abbrev pub IsOutcome : StatementOutcome → List (List ℕ) → Machine Chosen → ℕ → ℕ → Gain → Act → Type 0
IsOutcome outcome cards machine position executed gain act = Follows IsView DecidesAlone 0 (Does outcome) cards machine position executed gain act

-- after a report was passed, or where none was due
abbrev pub Finishes : ListingPlace → ListingPlace → Act → WalkStep → Type 0
Finishes old new act next_step =
    (v : walks.Walker) (outcome : StatementOutcome) (cards : List (List ℕ)) (machine : Machine Chosen) (position executed : ℕ) (gain : Gain) → Faces old v →
    IsOutcome outcome cards machine position executed gain act → TurnsTo (walks.follows v outcome) cards machine position executed new next_step

-- a move that asks nothing, and comes to an act with this text, whatever the checker is
abbrev pub Passes : Machine Chosen → ListingPlace → ListingPlace → Act → List ℕ → WalkStep → Type 0
Passes machine old new act text next_step =
    (C : Checker) (w : walks.Walker) (card : ℕ) (move : StatementMove) (cards : List (List ℕ)) (position executed : ℕ) (gain : Gain) → Faces old w →
    walks.refuses_selection move ≡ false →
    Follows IsView DecidesAlone card move cards machine position executed gain act → gain_text gain ≡ text →
    TurnsTo (walks.walk_move C w move) cards machine position executed new next_step

-- an operation is refused here, where a stop and what is pending come first
abbrev pub IsUnchecked : ListingPlace → Found → Type 0
IsUnchecked place found =
    (w : walks.Walker) → Faces place w → walks.unless_found (open_by true true w) (walks.Finds (walks.Unchecked w.rest)) ≡ walks.Finds (found_view found)

-- a report that can't be attested is due here, and its line stands or doesn't
abbrev pub IsReported : ListingPlace → Bool → Bool → Found → Type 0
IsReported place stands made found =
    (w : walks.Walker) → Faces place w →
    walks.unless_found (option_or (walks.open_stop w) (walks.open_if stands w))
    (walks.Finds (if made then walks.Wrong w.rest else walks.Unchecked w.rest)) ≡ walks.Finds (found_view found)

-- what is refused, and why; the walk ends with what is found, where an operation of the selection is refused
abbrev pub Refuses : Machine Chosen → ListingPlace → ListingPlace → ℕ → Unselected → Found → WalkStep → Type 0
Refuses machine old new card (Fault fault) found next_step = Passes machine old new (acts.Ends (ends.Verb fault card)) [] next_step
Refuses machine old new card Unchecked found next_step = next_step ≡ Finds found
Refuses machine old new card NoMemory found next_step = ⊥

-- the statement of a verb
abbrev pub Walks : Checker → Verb ℕ → ℕ → List (List ℕ) → Machine Chosen → Machine Chosen → ListingPlace → ListingPlace → WalkStep → Type 0
Walks C verb card cards old new place_old place_new next_step =
    (position executed : ℕ) (state : State) (w : walks.Walker) → machines.Represents IsView cards old position executed state → Faces place_old w →
    TurnsTo (walks.walk_move C w (verb_move verb card state)) cards new position executed place_new next_step

-- the statement at a position
abbrev pub ComesTo : walks.WalkTurn → List (List ℕ) → Machine Chosen → ℕ → ListingPlace → AfterStep → Type 0
ComesTo turn cards machine executed place (after_step.Goes to) =
    (v : walks.Walker) × (turn ≡ walks.Walks v) × Represents cards machine to executed place v × (1 ≤ to)
ComesTo turn cards machine executed place (after_step.Finds found) = turn ≡ walks.Finds (found_view found)

abbrev pub Steps : Checker → Program → List (List ℕ) → ℕ → Machine Chosen → Machine Chosen → ListingPlace → ListingPlace → AfterStep → Type 0
Steps C program cards position old new place_old place_new next_step =
    (executed : ℕ) (w : walks.Walker) → executed < max_executed → Represents cards old position executed place_old w →
    ComesTo (walks.turn C program w) cards new (executed + 1) place_new next_step
