-- Texts that stand in places, with blanks after them.
use Rattle.std.specs.Prelude.{◌≡◌, ℕ, List, length, IsTrue}
use Rattle.std.specs.List.{list_all}
use Rattle.card_definitions.specs.Words.{without_trailing}
use Rattle.card_definitions.specs.Cards.{is_blank, is_printable}

-- the text that stands in these places
abbrev pub text_in : List ℕ → List ℕ
text_in places = without_trailing is_blank places

-- the 8 places of a name
pub record ArePrintable (places : List ℕ) : Type 0 where
  pub eight : length places ≡ 8
  pub printable : IsTrue (list_all is_printable places)
