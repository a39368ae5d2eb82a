-- Cards of printable bytes, and what their fields are.
use Rattle.std.specs.Prelude.{◌≡◌, ◌≤◌, true, List, length}
use Rattle.std.specs.List.{AllByRecursion, list_all}
use Rattle.card_definitions.specs.Cards.{Card, is_printable}
use Rattle.card_definitions.specs.Fields.{Reading}
use Rattle.problem_definitions.specs.Valid.{IsName}

-- cards of printable bytes
abbrev pub ArePrintableCards : List Card → Type 0
ArePrintableCards cards = AllByRecursion (λ (card : Card). list_all is_printable card.bytes ≡ true) cards

-- names and fields of numbers, as a card has them
pub record IsReading (card : Reading) : Type 0 where
  pub name1 : IsName card.name1
  pub name2 : IsName card.name2
  pub name3 : IsName card.name3
  pub value1 : length card.value1 ≤ 12
  pub value2 : length card.value2 ≤ 12
