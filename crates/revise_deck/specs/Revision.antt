-- How a revision stops.
use Rattle.std.specs.Prelude.{◌≡◌, ℕ, List, Option, Err}
use Rattle.card_definitions.specs.Cards.{Card}
use Rattle.card_reader.specs.declared.stop.CardStop.{CardStop}
use Rattle.card_reader.specs.Stop.{IfFault}
use Rattle.problem_definitions.specs.Names.{Name}
use Rattle.problem_definitions.specs.Problem.{Problem}
use Rattle.deck_definitions.specs.declared.DeckFault.{DeckFault}
use Rattle.revise_definitions.specs.Revision.{revision}

-- a fault is what the revision gives
abbrev pub Refuses : Problem ℕ → List Card → Option Name → CardStop DeckFault → Type 0
Refuses old deck name stop = IfFault (λ found. revision old deck name ≡ Err found) stop
