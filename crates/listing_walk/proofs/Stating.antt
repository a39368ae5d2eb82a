-- What the statements come to that ask nothing.
use Rattle.std.proofs.Common.{◌≡◌, ℕ, false, List, [], Option, Some, Result, Ok, Err, IfOk, refl, sym, ap, subst}
use Rattle.std.specs.Io.KnownBytes.{Appends}
use Rattle.job_devices.specs.States.{SinkState}
use Rattle.std.specs.declared.alloc.AllocError.{AllocError as NoMemory}
use Rattle.job_devices.specs.declared.memory.SureSink.{SureSink}
use Rattle.job_devices.specs.Memory.{sure_bytes, sure_sink_state}
use Rattle.control_definitions.specs.declared.NameCell.{NameCell}
use Rattle.control_definitions.specs.declared.NumberCell.{NumberCell}
use Rattle.control_definitions.specs.declared.Demand.{Demand}
use Rattle.control_definitions.specs.Program.{Verb, Initialz, Title, MoveName, MoveNumber, MoveLimit, Mvadr, Goto, Convert, Revise, Bcdout, Exit}
use Rattle.exact_values.specs.Rational.{ℚ}
use Rattle.listing_definitions.specs.declared.VerbFault.TheVariants.{DeckNotFound, NoProblem}
use Rattle.run_definitions.specs.State.{State, problem_of}
use Rattle.run_definitions.specs.Moves.{Gain, Nothing, gain_text, DecidesAlone}
use Rattle.run_definitions.specs.Verbs.{verb_move}
use Rattle.deck_definitions.specs.Decks.{deck_taken}
use Rattle.deck_definitions.specs.Conversion.{conversion}
use Rattle.revise_definitions.specs.Revision.{revision}
use Rattle.run_machine.specs.declared.act.Act.{Act}
use Rattle.run_machine.specs.declared.machine.Machine.{Machine}
use Rattle.run_machine.specs.declared.taking.DeckVerb.{DeckVerb}
use Rattle.run_machine.specs.declared.taking.DeckVerb.TheVariants as deck_verb
use Rattle.run_machine.specs.Describing.{verb_of}
use Rattle.run_machine.specs.Statements.{Decides, Executes}
use Rattle.run_machine.specs.Statements as statements
use Rattle.run_machine.specs.Punching.{Performs}
use Rattle.run_machine.specs.Standing as machines
use Rattle.walk_definitions.specs.Checkers.{Checker}
use Rattle.walk_definitions.specs.Walker.{refuses_selection}
use Rattle.listing_walk.specs.declared.chosen.Chosen.{Chosen}
use Rattle.listing_walk.specs.declared.place.ListingPlace.{ListingPlace}
use Rattle.listing_walk.specs.declared.walk_step.WalkStep.{WalkStep}
use Rattle.listing_walk.specs.Standing.{IsView}
use Rattle.listing_walk.specs.Walking.{Passes, Walks}
use Rattle.listing_walk.proofs.Settled.{plain_fault, plain_deck}

-- ---- statements that select nothing

abbrev pub IsPlain : Verb ℕ → ℕ → Type 0
IsPlain verb card = (state : State) → refuses_selection (verb_move verb card state) ≡ false

pub plain_initialz : (card : ℕ) → IsPlain Initialz card
unfolding verb_move
plain_initialz card = λ state. refl

pub plain_title : (text : List ℕ) (card : ℕ) → IsPlain (Title text) card
unfolding verb_move
plain_title text card = λ state. refl

pub plain_name : (cell : NameCell) (name : List ℕ) (card : ℕ) → IsPlain (MoveName cell name) card
unfolding verb_move
plain_name cell name card = λ state. refl

pub plain_number : (cell : NumberCell) (value : ℚ) (card : ℕ) → IsPlain (MoveNumber cell value) card
unfolding verb_move
plain_number cell value card = λ state. refl

pub plain_limit : (limit : Option ℕ) (card : ℕ) → IsPlain (MoveLimit limit) card
unfolding verb_move
plain_limit limit card = λ state. refl

pub plain_demand : (demand : Demand) (to card : ℕ) → IsPlain (Mvadr demand to) card
unfolding verb_move
plain_demand demand to card = λ state. refl

pub plain_goto : (to card : ℕ) → IsPlain (Goto to) card
unfolding verb_move
plain_goto to card = λ state. refl

pub plain_exit : (card : ℕ) → IsPlain Exit card
unfolding verb_move
plain_exit card = λ state. refl

plain_convert : (card : ℕ) → IsPlain Convert card
unfolding verb_move
plain_convert card = λ state.
    plain_fault card DeckNotFound (deck_taken state.cells.xdata state.decks) _
    (λ taken. plain_deck (conversion taken.0 state.cells.xpbname) _ (λ problem. refl))

plain_revise : (card : ℕ) → IsPlain Revise card
unfolding verb_move
plain_revise card = λ state.
    plain_fault card NoProblem (problem_of state.cells.xoldname state.file) _ (λ old.
    plain_fault card DeckNotFound (deck_taken state.cells.xdata state.decks) _
    (λ taken. plain_deck (revision old taken.0 state.cells.xpbname) _ (λ problem. refl)))

pub plain_deck_verb : (verb : DeckVerb) (card : ℕ) → IsPlain (verb_of verb) card
plain_deck_verb deck_verb.Convert = plain_convert
plain_deck_verb deck_verb.Revise = plain_revise

pub plain_bcdout : (card : ℕ) → IsPlain Bcdout card
unfolding verb_move
plain_bcdout card = λ state. plain_fault card NoProblem (problem_of state.cells.xpbname state.file) _ (λ problem. refl)

-- ---- what is printed into memory

-- bytes that were appended to none are all
appended : (old new : Option (List ℕ)) (bytes text : List ℕ) → Appends old new bytes → old ≡ Some [] → new ≡ Some text → bytes ≡ text
appended old new bytes text h none all =
    sym (subst (λ (n : Option (List ℕ)). Appends (Some []) n bytes) all (subst (λ (o : Option (List ℕ)). Appends o new bytes) none h))

module _ (C : Checker) (verb : Verb ℕ) (card : ℕ) (cards : List (List ℕ)) (old new : Machine Chosen) (place_old place_new : ListingPlace) (act : Act)
    (text : List ℕ) (plain : IsPlain verb card) where
  -- with some gain that has this text, the statement comes to this act
  record Gains (position executed : ℕ) (state : State) : Type 0 where
    gain : Gain
    comes : statements.LeadsTo IsView DecidesAlone verb card cards position executed state new gain act
    is_text : gain_text gain ≡ text

  walks_by : ((position executed : ℕ) (state : State) → machines.Represents IsView cards old position executed state → Gains position executed state) →
      (result : Result WalkStep NoMemory) →
      IfOk result (Passes new place_old place_new act text) → IfOk result (Walks C verb card cards old new place_old place_new)
  walks_by gains (Ok next_step) passes = λ position executed state w s f.
      let g = gains position executed state s in
      passes C w card (verb_move verb card state) cards position executed g.gain f (plain state) g.comes g.is_text
  walks_by gains (Err stop) passes = tt

  module _ (print_old print_new : SinkState) (none : print_old.written ≡ Some []) (all : print_new.written ≡ Some text) where
    pub walks_printed : Executes IsView DecidesAlone verb card print_old print_new cards old new (Ok act) → (result : Result WalkStep NoMemory) →
        IfOk result (Passes new place_old place_new act text) → IfOk result (Walks C verb card cards old new place_old place_new)
    walks_printed executes = walks_by (λ position executed state s.
        let a = executes position executed state s in
        record { gain = a.gain; comes = a.comes; is_text = appended print_old.written print_new.written (gain_text a.gain) text a.writes.bytes none all })

    pub walks_punched : (punch_old punch_new : SinkState) →
        Performs IsView DecidesAlone verb card print_old print_new punch_old punch_new cards old new (Ok act) → (result : Result WalkStep NoMemory) →
        IfOk result (Passes new place_old place_new act text) → IfOk result (Walks C verb card cards old new place_old place_new)
    walks_punched punch_old punch_new performs = walks_by (λ position executed state s.
        let a = performs position executed state s in
        record { gain = a.gain; comes = a.comes; is_text = appended print_old.written print_new.written (gain_text a.gain) text a.prints.bytes none all })

-- a statement that prints nothing
pub walks_quietly : (C : Checker) (verb : Verb ℕ) (card : ℕ) (cards : List (List ℕ)) (old new : Machine Chosen) (place_old place_new : ListingPlace)
    (act : Act) → IsPlain verb card → Decides IsView DecidesAlone verb card old new act →
    (result : Result WalkStep NoMemory) → IfOk result (Passes new place_old place_new act []) →
    IfOk result (Walks C verb card cards old new place_old place_new)
walks_quietly C verb card cards old new place_old place_new act plain decides =
    walks_by C verb card cards old new place_old place_new act [] plain
    (λ position executed state s. record { gain = Nothing; comes = decides cards position executed state s; is_text = refl })

-- ---- with a sink in memory

module _ (C : Checker) (verb : Verb ℕ) (card : ℕ) (cards : List (List ℕ)) (old new : Machine Chosen) (place_old place_new : ListingPlace) (act : Act)
    (text : List ℕ) (plain : IsPlain verb card) (from to : SureSink) (none : sure_bytes from ≡ []) (all : text ≡ sure_bytes to)
    (result : Result WalkStep NoMemory) (passes : IfOk result (Passes new place_old place_new act text)) where
  pub walks_loudly : Executes IsView DecidesAlone verb card (sure_sink_state from) (sure_sink_state to) cards old new (Ok act) →
      IfOk result (Walks C verb card cards old new place_old place_new)
  walks_loudly executes =
      walks_printed C verb card cards old new place_old place_new act text plain (sure_sink_state from) (sure_sink_state to)
      (ap Some none) (ap Some (sym all)) executes result passes

  pub walks_punching : (punch_old punch_new : SinkState) →
      Performs IsView DecidesAlone verb card (sure_sink_state from) (sure_sink_state to) punch_old punch_new cards old new (Ok act) →
      IfOk result (Walks C verb card cards old new place_old place_new)
  walks_punching punch_old punch_new performs =
      walks_punched C verb card cards old new place_old place_new act text plain (sure_sink_state from) (sure_sink_state to)
      (ap Some none) (ap Some (sym all)) punch_old punch_new performs result passes
