-- How the walk along a listing ends.
--     found_view found                         what is found, in the words of the walk
--     IsFoundBy C program cards listing found  the walk of a checker comes to this
use Rattle.std.specs.Prelude.{◌≡◌, ℕ, ◌-◌, List, drop}
use Rattle.card_definitions.specs.Cards.{Card, numbered_cards}
use Rattle.deck_definitions.specs.Decks.{decks_of}
use Rattle.control_definitions.specs.Program.{Program}
use Rattle.walk_definitions.specs.Checkers.{Checker}
use Rattle.walk_definitions.specs.Walker as walks
use Rattle.walk_definitions.specs.Found.{Reaches}
use Rattle.listing_walk.specs.declared.found.Found.{Found}
use Rattle.listing_walk.specs.declared.found.Found.TheVariants.{Attested, Wrong, Open, Unchecked}

abbrev pub found_view : Found → walks.Found
found_view (Attested reports) = walks.Attested reports
found_view (Wrong rest) = walks.Wrong rest.now
found_view (Open rest) = walks.Open rest.now
found_view (Unchecked rest) = walks.Unchecked rest.now

-- the decks of the cards after a program
abbrev pub decks_after : Program → List (List ℕ) → List (List Card)
decks_after program cards = decks_of (drop (program.decks_from - 1) (numbered_cards cards))

pub record IsFoundBy (C : Checker) (program : Program) (cards : List (List ℕ)) (listing : List ℕ) (found : Found) : Type 0 where
  pub walker : walks.Walker
  pub reaches : Reaches C program (decks_after program cards) listing walker
  pub finds : walks.turn C program walker ≡ walks.Finds (found_view found)
