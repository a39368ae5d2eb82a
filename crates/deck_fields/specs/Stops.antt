-- How the reading of a deck stops.
use Rattle.std.specs.Prelude.{◌≡◌, ℕ, List, [], ◌∷◌, Option, Some}
use Rattle.card_definitions.specs.Cards.{Card, live}
use Rattle.card_reader.specs.declared.stop.CardStop.{CardStop}
use Rattle.card_reader.specs.Stop.{IfFault}
use Rattle.deck_definitions.specs.declared.DeckFault.{DeckFault}
use Rattle.deck_definitions.specs.declared.DeckFaultKind.{DeckFaultKind}
use Rattle.deck_definitions.specs.Conversion.{fault_by, first_faulty}

-- a fault is that of this card after others, by a test
abbrev pub StopsAt : (List Card → List ℕ → Option DeckFaultKind) → List Card → Card → CardStop DeckFault → Type 0
StopsAt test seen card stop = IfFault (λ found. first_faulty test seen (live (card ∷ [])) ≡ Some found) stop

-- a fault is that of this deck
abbrev pub Stops : (List Card → List ℕ → Option DeckFaultKind) → List Card → CardStop DeckFault → Type 0
Stops test deck stop = IfFault (λ found. fault_by test deck ≡ Some found) stop
