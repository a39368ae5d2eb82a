-- What INSERT comes to in the walk.
use Rattle.std.proofs.Common.{◌≡◌, ℕ, ◌-◌, Bool, ◌&&◌, List, [], Option, Some, None, Result, Ok, Err, is_ok, IfOk, IfSome, drop, refl, sym, ap, subst, ◌∙◌}
use Rattle.std.proofs.lemmas.Option.{same_Some}
use Rattle.std.specs.declared.alloc.AllocError.{AllocError as NoMemory}
use Rattle.card_definitions.specs.Cards.{Card, live, numbered_cards, cards_between}
use Rattle.lp_definitions.specs.LinearProgram.{LinearProgram}
use Rattle.problem_definitions.specs.Names.{Name}
use Rattle.problem_definitions.specs.Problem.{Problem}
use Rattle.problem_file.specs.Filed.{Filed, filed_under}
use Rattle.deck_definitions.specs.declared.DeckFault.{DeckFault}
use Rattle.deck_definitions.specs.Conversion.{deck_name}
use Rattle.deck_definitions.specs.Decks.{decks_of, deck_taken}
use Rattle.selection_definitions.specs.Choice.{Choice}
use Rattle.selection_definitions.specs.Selection.{selected}
use Rattle.basis_deck_definitions.specs.Placings.{HasNames}
use Rattle.basis_deck_definitions.specs.Reading.{basis_reading}
use Rattle.job_decks.specs.declared.deck.Deck.{Deck}
use Rattle.control_definitions.specs.Cells.{Cells}
use Rattle.control_definitions.specs.Program.{Insert}
use Rattle.listing_definitions.specs.declared.VerbFault.TheVariants.{NoSetup, DeckNotFound}
use Rattle.question_definitions.specs.Answers.{Basis, OfInstall}
use Rattle.run_definitions.specs.State.{Present, State, choice_of}
use Rattle.run_definitions.specs.Moves.{Nothing, stops, StatementMove, Does, or_fault}
use Rattle.run_definitions.specs.Verbs.{or_deck_fault, deck_stop, asks, after_install, verb_move}
use Rattle.run_machine.specs.declared.act.Act.TheVariants as acts
use Rattle.run_machine.specs.declared.end.End.TheVariants as ends
use Rattle.run_machine.specs.declared.machine.Machine.{Machine}
use Rattle.run_machine.specs.Standing as machines
use Rattle.walk_definitions.specs.Checkers.{Checker}
use Rattle.walk_definitions.specs.Forms.{is_inserted}
use Rattle.walk_definitions.specs.Walker as walks
use Rattle.listing_walk.specs.declared.chosen.Chosen.{Chosen}
use Rattle.listing_walk.specs.declared.found.Found.{Found}
use Rattle.listing_walk.specs.declared.place.ListingPlace.{ListingPlace}
use Rattle.listing_walk.specs.declared.selecting.Unselected.{Unselected}
use Rattle.listing_walk.specs.declared.walk_step.WalkStep.{WalkStep}
use Rattle.listing_walk.specs.declared.walk_step.WalkStep.TheVariants as walk_step
use Rattle.listing_walk.specs.Choosing.{IsMade, IsRefused, IsNotMade}
use Rattle.listing_walk.specs.Standing.{IsView, IsReady, Faces}
use Rattle.listing_walk.specs.Walking.{TurnsTo, Passes, Refuses, Walks}
use Rattle.listing_walk.specs.Inserting.{taken_of, is_line_of, is_line_due, open_install, IsInstallDue, IsInstallRefused}
use Rattle.listing_walk.proofs.SameLimits.{read_alike}
use Rattle.listing_walk.proofs.Selected.{as_many_rows, as_many_columns}
use Rattle.listing_walk.proofs.SettingUp.{faulted}
use Rattle.listing_walk.proofs.SolvingWalks.{present_with, present_at, ready_of, selecting, no_setup_walks, refusal_walks, made_walks, unmade_here}

-- what INSERT does with the basis that a deck stands for, and with the deck that is taken
abbrev asks_install : ℕ → State → Present → LinearProgram → List Card × List (List Card) → Basis → StatementMove
asks_install card state present lp taken s =
    asks (OfInstall s) (record { problem = present.problem; lp = lp }) present (after_install card lp s taken present state)

abbrev insert_by : ℕ → State → Present → LinearProgram → Option (List Card × List (List Card)) → StatementMove
insert_by card state present lp found =
    or_fault card DeckNotFound found (λ taken. or_deck_fault (basis_reading present.problem lp taken.0) (asks_install card state present lp taken))

abbrev insert_move : ℕ → State → Present → LinearProgram → StatementMove
insert_move card state present lp = insert_by card state present lp (deck_taken state.cells.xdata state.decks)

inserting_move : (card : ℕ) (state : State) → verb_move Insert card state ≡ selecting card state (insert_move card state)
unfolding verb_move
inserting_move card state = refl

-- the end by a fault of a deck
deck_faulted : (C : Checker) (cards : List (List ℕ)) (machine : Machine Chosen) (old new : ListingPlace) (fault : DeckFault) (card : ℕ) (w' : WalkStep) →
    Passes machine old new (acts.Ends (ends.Deck fault)) [] w' →
    (w : walks.Walker) (move : StatementMove) (position executed : ℕ) → Faces old w → move ≡ Does (stops (deck_stop fault)) →
    TurnsTo (walks.walk_move C w move) cards machine position executed new w'
deck_faulted C cards machine old new fault card w' passes w move position executed f is =
    subst (λ (m : StatementMove). TurnsTo (walks.walk_move C w m) cards machine position executed new w') (sym is)
    (passes C w card (Does (stops (deck_stop fault))) cards position executed Nothing f refl refl refl)

module _ (card : ℕ) (state : State) (present : Present) (lp : LinearProgram) (w : walks.Walker) where
  -- a stop is open, the line where the deck has no fault and the line stands, and what is pending
  opened_read : (taken : List Card × List (List Card)) (read : Result Basis DeckFault) →
      walks.opened w (or_deck_fault read (asks_install card state present lp taken)) ≡ open_install
      (is_ok read && is_inserted (deck_name (live taken.0)) w.rest) w
  opened_read taken (Err fault) = refl
  opened_read taken (Ok s) = refl

  opened_so : (cards : List (List ℕ)) (deck : Option Deck) →
      walks.opened w (insert_by card state present lp (taken_of cards deck)) ≡ open_install (is_line_due present.problem lp cards deck w.rest) w
  opened_so cards None = refl
  opened_so cards (Some deck) =
      let taken : List Card × List (List Card) = (cards_between deck.first deck.last cards, decks_of (drop deck.last (numbered_cards cards))) in
      opened_read taken (basis_reading present.problem lp taken.0)

-- ---- the linear program that was selected last

-- the names of a choice don't count here, its options do
due_alike : (problem : Problem ℕ) (c d : Choice) → c.options ≡ d.options → (p q : LinearProgram) → selected problem c ≡ Ok p → selected problem d ≡ Ok q →
    (cards : List (List ℕ)) (deck : Option Deck) (rest : List ℕ) →
    is_line_due problem p cards deck rest ≡ is_line_due problem q cards deck rest
due_alike problem c d same p q is_p is_q cards None rest = refl
due_alike problem c d same p q is_p is_q cards (Some deck) rest =
    ap (λ (read : Result Basis DeckFault). is_ok read && is_line_of cards (Some deck) rest)
    (read_alike problem c d same p q is_p is_q (cards_between deck.first deck.last cards))

-- it is one of the problem, with the options that are kept
pub record IsKept (problem : Problem ℕ) (chosen : Chosen) : Type 0 where
  pub choice : Choice
  pub has_options : choice.options ≡ chosen.options
  pub is_selected : selected problem choice ≡ Ok chosen.lp

pub kept_of : (file : Filed) (setup : Option Chosen) (chosen : Chosen) → setup ≡ Some chosen → IfSome setup (IsReady file) → (problem : Problem ℕ) →
    filed_under chosen.name file ≡ Some problem → IsKept problem chosen
kept_of file setup chosen is ready problem on_file =
    let r = ready_of file setup chosen is ready in
    let same : r.problem ≡ problem = same_Some r.problem problem (sym r.on_file ∙ on_file) in
    record {
      choice = r.choice;
      has_options = r.has_options;
      is_selected = subst (λ (q : Problem ℕ). selected q r.choice ≡ Ok chosen.lp) same r.is_selected;
    }

pub kept_names : (problem : Problem ℕ) (chosen : Chosen) → IsKept problem chosen → HasNames problem chosen.lp
kept_names problem chosen kept =
    record { rows = as_many_rows problem kept.choice chosen.lp kept.is_selected; columns = as_many_columns problem kept.choice chosen.lp kept.is_selected }

-- the deck that is taken of the machine's cards
pub taken_by : (cards : List (List ℕ)) (machine : Machine Chosen) (wanted : Option Name) → wanted ≡ machine.cells.xdata → (deck : Option Deck) →
    deck_taken wanted (decks_of (drop (machine.decks_from - 1) (numbered_cards cards))) ≡ taken_of cards deck →
    deck_taken machine.cells.xdata (decks_of (drop (machine.decks_from - 1) (numbered_cards cards))) ≡ taken_of cards deck
taken_by cards machine wanted same deck is =
    ap (λ (n : Option Name). deck_taken n (decks_of (drop (machine.decks_from - 1) (numbered_cards cards)))) (sym same) ∙ is

-- its line stands, or doesn't, in what is left
pub line_by : (cards : List (List ℕ)) (place : ListingPlace) (deck : Option Deck) (rest : List ℕ) → rest ≡ place.cursor → (stands : Bool) →
    stands ≡ is_line_of cards deck rest → stands ≡ is_line_of cards deck place.cursor
line_by cards place deck rest same stands is = is ∙ ap (is_line_of cards deck) same

-- the same of the line and the deck
pub due_by : (problem : Problem ℕ) (lp : LinearProgram) (cards : List (List ℕ)) (place : ListingPlace) (deck : Option Deck) (rest : List ℕ) →
    rest ≡ place.cursor → (due : Bool) → due ≡ is_line_due problem lp cards deck rest →
    due ≡ is_line_due problem lp cards deck place.cursor
due_by problem lp cards place deck rest same due is = is ∙ ap (is_line_due problem lp cards deck) same

module _ (C : Checker) (card : ℕ) (cards : List (List ℕ)) (machine : Machine Chosen) (old new : ListingPlace) where
  pub insert_no_setup : machine.setup ≡ None → (result : Result WalkStep NoMemory) →
      IfOk result (Passes machine old new (acts.Ends (ends.Verb NoSetup card)) []) → IfOk result (Walks C Insert card cards machine machine old new)
  insert_no_setup = no_setup_walks C Insert card (insert_move card) (inserting_move card) cards machine old new

  module _ (chosen : Chosen) (is_setup : machine.setup ≡ Some chosen) (problem : Problem ℕ) (on_file : filed_under chosen.name machine.file ≡ Some problem)
      (deck : Option Deck)
      (is_taken : deck_taken machine.cells.xdata (decks_of (drop (machine.decks_from - 1) (numbered_cards cards))) ≡ taken_of cards deck) where
    -- the state has the decks that are left
    deck_at : {position executed : ℕ} {state : State} → machines.Represents IsView cards machine position executed state →
        deck_taken state.cells.xdata state.decks ≡ taken_of cards deck
    deck_at {state = state} s = ap (λ (c : Cells). deck_taken c.xdata state.decks) s.cells ∙ ap (deck_taken machine.cells.xdata) s.decks ∙ is_taken

    -- ---- a selection is refused

    unmade_walks : IsRefused problem (choice_of machine.cells chosen.options) → IsKept problem chosen → (due : Bool) →
        due ≡ is_line_due problem chosen.lp cards deck old.cursor → (found : Found) → IsInstallRefused old due found →
        Walks C Insert card cards machine machine old new (walk_step.Finds found)
    unmade_walks refused kept due is found u = λ position executed state w s f.
        let p = present_at s chosen is_setup problem on_file in
        let present = present_with problem chosen.options p.opening p.steps in
        let q = unmade_here C card cards machine s (insert_move card state) chosen problem p w refused in
        let same : is_line_due problem q.0 cards deck w.rest ≡ due =
        due_alike problem (choice_of state.cells chosen.options) kept.choice (sym kept.has_options) q.0 chosen.lp q.2 kept.is_selected cards deck w.rest
        ∙ ap (is_line_due problem chosen.lp cards deck) f.rest ∙ sym is in
        ap (walks.walk_move C w) (inserting_move card state) ∙ q.1 ∙
        ap (λ (o : Option (List Card × List (List Card))). walks.unless_found (walks.opened w (insert_by card state present q.0 o))
        (walks.Finds (walks.Unchecked w.rest))) (deck_at s) ∙
        ap (λ (o : Option walks.Found). walks.unless_found o (walks.Finds (walks.Unchecked w.rest)))
        (opened_so card state present q.0 w cards deck ∙ ap (λ (b : Bool). open_install b w) same) ∙ u w f

    pub insert_refused : IsKept problem chosen → (due : Bool) → due ≡ is_line_due problem chosen.lp cards deck old.cursor → (found : Found) →
        IsInstallRefused old due found → (refusal : Unselected) →
        IsNotMade problem (choice_of machine.cells chosen.options) refusal →
        (result : Result WalkStep NoMemory) → IfOk result (Refuses machine old new card refusal found) →
        IfOk result (Walks C Insert card cards machine machine old new)
    insert_refused kept due is found u =
        refusal_walks C Insert card (insert_move card) (inserting_move card) cards machine old new chosen is_setup problem on_file found
        (λ refused. unmade_walks refused kept due is found u)

    -- ---- with a linear program

    module _ (lp : LinearProgram) (made : IsMade problem (choice_of machine.cells chosen.options) lp) where
      pub insert_no_deck : deck ≡ None → (result : Result WalkStep NoMemory) →
          IfOk result (Passes machine old new (acts.Ends (ends.Verb DeckNotFound card)) []) → IfOk result (Walks C Insert card cards machine machine old new)
      insert_no_deck none (Ok w') passes =
          made_walks C Insert card (insert_move card) (inserting_move card) cards machine old new chosen is_setup problem on_file lp made machine w'
          (λ position executed state w opening steps s f is_viewed.
          let present = present_with problem chosen.options opening steps in
          faulted C cards machine old new DeckNotFound card w' passes w (insert_move card state present lp) position executed f
          (ap (insert_by card state present lp) (deck_at s ∙ ap (taken_of cards) none)))
      insert_no_deck none (Err stop) passes = tt

      module _ (one : Deck) (is_one : deck ≡ Some one) where
        abbrev deck_fields : List Card
        deck_fields = cards_between one.first one.last cards

        abbrev taken : List Card × List (List Card)
        taken = (deck_fields, decks_of (drop one.last (numbered_cards cards)))

        -- what the deck gives decides the move
        read_move : (read : Result Basis DeckFault) → basis_reading problem lp deck_fields ≡ read → {position executed : ℕ} {state : State} →
            machines.Represents IsView cards machine position executed state → (opening : Basis) (steps : List Basis) →
            insert_move card state (present_with problem chosen.options opening steps) lp ≡ or_deck_fault read
            (asks_install card state (present_with problem chosen.options opening steps) lp taken)
        read_move read is {state = state} s opening steps =
            let present = present_with problem chosen.options opening steps in
            ap (insert_by card state present lp) (deck_at s ∙ ap (taken_of cards) is_one)
            ∙ ap (λ (r : Result Basis DeckFault). or_deck_fault r (asks_install card state present lp taken)) is

        pub insert_bad_deck : (fault : DeckFault) → basis_reading problem lp deck_fields ≡ Err fault → (result : Result WalkStep NoMemory) →
            IfOk result (Passes machine old new (acts.Ends (ends.Deck fault)) []) →
            IfOk result (Walks C Insert card cards machine machine old new)
        insert_bad_deck fault is (Ok w') passes =
            made_walks C Insert card (insert_move card) (inserting_move card) cards machine old new chosen is_setup problem on_file lp made machine w'
            (λ position executed state w opening steps s f is_viewed.
            deck_faulted C cards machine old new fault card w' passes w
            (insert_move card state (present_with problem chosen.options opening steps) lp) position executed f (read_move (Err fault) is s opening steps))
        insert_bad_deck fault is (Err stop) passes = tt

        pub insert_due : (stands : Bool) → stands ≡ is_line_of cards deck old.cursor → (basis : Basis) → basis_reading problem lp deck_fields ≡ Ok basis →
            (found : Found) → IsInstallDue old stands found →
            Walks C Insert card cards machine machine old new (walk_step.Finds found)
        insert_due stands stands_is basis is found due =
            made_walks C Insert card (insert_move card) (inserting_move card) cards machine old new chosen is_setup problem on_file lp made machine
            (walk_step.Finds found) (λ position executed state w opening steps s f is_viewed.
            ap (walks.walk_move C w) (read_move (Ok basis) is s opening steps) ∙
            ap (λ (b : Bool). walks.unless_found (open_install b w) (walks.Finds (walks.Wrong w.rest)))
            (ap (is_inserted (deck_name (live deck_fields))) f.rest ∙ ap (λ (o : Option Deck). is_line_of cards o old.cursor) (sym is_one)
            ∙ sym stands_is) ∙
            due w f)
