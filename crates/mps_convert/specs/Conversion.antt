-- How a conversion stops.
use Rattle.std.specs.Prelude.{◌≡◌, List, Option, Err}
use Rattle.card_definitions.specs.Cards.{Card}
use Rattle.card_reader.specs.declared.stop.CardStop.{CardStop}
use Rattle.card_reader.specs.Stop.{IfFault}
use Rattle.problem_definitions.specs.Names.{Name}
use Rattle.deck_definitions.specs.declared.DeckFault.{DeckFault}
use Rattle.deck_definitions.specs.Conversion.{conversion}

-- a fault is what the deck converts to
abbrev pub Refuses : List Card → Option Name → CardStop DeckFault → Type 0
Refuses deck name stop = IfFault (λ found. conversion deck name ≡ Err found) stop
