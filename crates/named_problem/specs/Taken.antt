-- What a card of a deck does to what is made of the cards.
use Rattle.std.specs.Prelude.{◌≡◌, Option, None, Result, OnOk, IfErr}
use Rattle.card_reader.specs.declared.stop.CardStop.{CardStop}
use Rattle.deck_definitions.specs.declared.DeckFaultKind.{DeckFaultKind}
use Rattle.deck_fields.specs.Reported.{ReportsDeckFault}

-- a card that was taken has no fault, and what is there now is the state after it; of one that wasn't taken its fault is reported, or memory ran out
pub record TakesCard {S : Type 0} (fault : Option DeckFaultKind) (now next : S) (outcome : Result (Unit {0}) (CardStop DeckFaultKind)) : Type 0 where
  pub no_fault : OnOk outcome (fault ≡ None)
  pub step : OnOk outcome (now ≡ next)
  pub stop : IfErr outcome (ReportsDeckFault fault)
