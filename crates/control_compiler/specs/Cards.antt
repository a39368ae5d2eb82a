-- What the labels and the statements of cards are, before labels are positions.
use Rattle.std.specs.Prelude.{◌≡◌, ℕ, false, List, Option, Some, None, option_map, bytes_eq, if◌then◌else◌}
use Rattle.std.specs.Map.{lookup}
use Rattle.card_definitions.specs.Words.{is_empty}
use Rattle.card_definitions.specs.Cards.{Card}
use Rattle.control_definitions.specs.Program.{Statement}
use Rattle.control_definitions.specs.Verbs.{verb_of}
use Rattle.control_definitions.specs.Compiled.{position_of}

-- each label of the cards has its position in the table, and no other text has one
abbrev pub HasPositions : List (List ℕ × ℕ) → List Card → Type 0
HasPositions labels cards = (label : List ℕ) → is_empty label ≡ false → lookup (bytes_eq label) labels ≡ position_of cards label

-- what a card says as a statement, with its label by name; PROGRAM and PEND are none
abbrev pub statement_said : Card → Option (Statement (List ℕ))
statement_said card = option_map (λ verb. record { card = card.number; verb = verb }) (verb_of card.bytes)

-- the position of another text, once a label has this one
abbrev pub placed : Option (List ℕ) → ℕ → List ℕ → Option ℕ → Option ℕ
placed None position other before = before
placed (Some label) position other before = if bytes_eq label other then Some position else before
