-- What is reported of a card that isn't taken.
use Rattle.std.specs.Prelude.{◌≡◌, Option, Some}
use Rattle.card_reader.specs.declared.stop.CardStop.{CardStop}
use Rattle.card_reader.specs.declared.stop.CardStop.TheVariants.{Fault, NoMemory}
use Rattle.deck_definitions.specs.declared.DeckFaultKind.{DeckFaultKind}

-- a card that is refused has this fault, and memory may run out at any time
abbrev pub ReportsDeckFault : Option DeckFaultKind → CardStop DeckFaultKind → Type 0
ReportsDeckFault fault (Fault kind) = fault ≡ Some kind
ReportsDeckFault fault NoMemory = Unit {0}
