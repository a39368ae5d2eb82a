-- The cards of a job from a place on.
use Rattle.std.specs.Prelude.{ℕ, ◌≡◌, ◌-◌, false, List, drop, slice_get, Some}
use Rattle.card_definitions.specs.Cards.{Card, is_skipped, numbered_cards}

-- the cards from this number on
abbrev pub cards_from : ℕ → List (List ℕ) → List Card
cards_from number cards = drop (number - 1) (numbered_cards cards)

-- the card with this number isn't skipped
abbrev pub IsLiveAt : ℕ → List (List ℕ) → Type 0
IsLiveAt number cards = (card : List ℕ) → slice_get cards (number - 1) ≡ Some card → is_skipped card ≡ false
