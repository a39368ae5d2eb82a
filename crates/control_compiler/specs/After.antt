-- What a draft of a program holds of the cards that were read.
use Rattle.std.specs.Prelude.{◌≡◌, ◌++◌, ◌∷◌, [], Bool, List, Some, None, Result, Ok, Err, All, map, option_map, filter_map}
use Rattle.card_definitions.specs.Cards.{Card}
use Rattle.control_definitions.specs.Compiled.{control_card_fault, is_pend, fault_at}
use Rattle.control_verbs.specs.Views.{viewed, statement_view, IsLawful}
use Rattle.control_definitions.specs.declared.ControlFault.{ControlFault}
use Rattle.card_reader.specs.declared.stop.CardStop.{CardStop}
use Rattle.card_reader.specs.declared.stop.CardStop.TheVariants.{Fault, NoMemory}
use Rattle.control_compiler.specs.Cards.{HasPositions, statement_said}
use Rattle.control_compiler.specs.declared.draft.Draft.{Draft}

-- a draft holds the labels and the statements of these cards
pub record IsAfter (cards : List Card) (draft : Draft) : Type 0 where
  pub labels : HasPositions draft.labels cards
  pub statements : map statement_view draft.statements.items ≡ filter_map statement_said cards
  pub lawful : All (λ statement. IsLawful (viewed statement.verb)) draft.statements.items

-- What becomes of a draft by one more card, of which there are as many before as it has statements and PROGRAM: the card's
-- fault, or a draft with it. Memory may run out at any time.
abbrev pub Takes : Result Bool (CardStop ControlFault) → List Card → Card → Draft → Type 0
Takes (Err (Fault fault)) cards card draft = option_map (fault_at card.number) (control_card_fault cards card.bytes) ≡ Some fault
Takes (Err NoMemory) cards card draft = Unit {0}
Takes (Ok ends) cards card draft = (control_card_fault cards card.bytes ≡ None) × (ends ≡ is_pend card.bytes) × IsAfter (cards ++ card ∷ []) draft
