-- What INSERT comes to in the walk.
--     taken_of cards deck          the cards of the deck that is taken, and the decks that are left
--     is_line_of cards deck rest   the line of INSERT stands here, for the deck that is taken
--     is_line_due .. deck rest     and the deck has no fault
--     IsInstallDue place stands found   the line of INSERT is due here
--     IsInstallRefused place due found  an operation of the selection is refused, where the line is due or isn't
use Rattle.std.specs.Prelude.{◌≡◌, ℕ, ◌≤◌, Bool, false, ◌&&◌, List, [], Option, Some, None, is_ok, length, drop, option_map}
use Rattle.std.specs.Option.{option_or}
use Rattle.card_definitions.specs.Cards.{Card, live, numbered_cards, cards_between}
use Rattle.deck_definitions.specs.Conversion.{deck_name}
use Rattle.deck_definitions.specs.Decks.{decks_of}
use Rattle.lp_definitions.specs.LinearProgram.{LinearProgram}
use Rattle.problem_definitions.specs.Problem.{Problem}
use Rattle.basis_deck_definitions.specs.Reading.{basis_reading}
use Rattle.job_decks.specs.declared.deck.Deck.{Deck}
use Rattle.walk_definitions.specs.Forms.{is_inserted}
use Rattle.walk_definitions.specs.Walker as walks
use Rattle.listing_walk.specs.declared.found.Found.{Found}
use Rattle.listing_walk.specs.declared.place.ListingPlace.{ListingPlace}
use Rattle.listing_walk.specs.Ended.{found_view}
use Rattle.listing_walk.specs.Standing.{Faces}

-- the numbers of a deck are those of cards, in order
abbrev pub LiesWithin : List (List ℕ) → Deck → Type 0
LiesWithin cards deck = (1 ≤ deck.first) × (deck.first ≤ deck.last) × (deck.last ≤ length cards)

abbrev pub taken_of : List (List ℕ) → Option Deck → Option (List Card × List (List Card))
taken_of cards deck = option_map (λ d. (cards_between d.first d.last cards, decks_of (drop d.last (numbered_cards cards)))) deck

abbrev pub is_line_of : List (List ℕ) → Option Deck → List ℕ → Bool
is_line_of cards None rest = false
is_line_of cards (Some deck) rest = is_inserted (deck_name (live (cards_between deck.first deck.last cards))) rest

abbrev pub is_line_due : Problem ℕ → LinearProgram → List (List ℕ) → Option Deck → List ℕ → Bool
is_line_due problem lp cards None rest = false
is_line_due problem lp cards (Some deck) rest = is_ok (basis_reading problem lp (cards_between deck.first deck.last cards)) && is_line_of cards (Some deck) rest

-- a stop comes first, then the line, if it stands, and then what is pending
abbrev pub open_install : Bool → walks.Walker → Option walks.Found
open_install stands w = option_or (walks.open_stop w) (option_or (walks.open_if stands w) (walks.open_pending w))

abbrev pub IsInstallDue : ListingPlace → Bool → Found → Type 0
IsInstallDue place stands found =
    (w : walks.Walker) → Faces place w → walks.unless_found (open_install stands w) (walks.Finds (walks.Wrong w.rest)) ≡ walks.Finds (found_view found)

-- the walk ends here, with what is open or unchecked
abbrev pub IsInstallRefused : ListingPlace → Bool → Found → Type 0
IsInstallRefused place due found =
    (w : walks.Walker) → Faces place w → walks.unless_found (open_install due w) (walks.Finds (walks.Unchecked w.rest)) ≡ walks.Finds (found_view found)
