-- What the words that were found on a card show.
use Rattle.std.specs.Prelude.{◌≡◌, ℕ, ◌+◌, ◌<◌, ◌≤◌, List, [], ◌++◌, take, drop, get_or, slice_get, unwrap_or, length}
use Rattle.std.specs.List.{slice_split}
use Rattle.card_definitions.specs.Cards.{is_blank}
use Rattle.card_definitions.specs.Fields.{Word as Read, words, words_from}
use Rattle.deck_fields.specs.declared.card_words.Word.{Word}
use Rattle.deck_fields.specs.declared.card_words.Words.{Words}
use Rattle.card_definitions.specs.declared.TheConstants.{CARD_COLUMNS}

abbrev pub word_view : Word → Read
word_view word = record { column = word.column; text = word.text.now }

-- a word that isn't there
abbrev pub absent : Read
absent = record { column = 0; text = [] }

-- a number of a card's columns
abbrev pub IsColumn : ℕ → Type 0
IsColumn column = (1 ≤ column) × (column ≤ CARD_COLUMNS)

-- The view of a card's words is their count, and the first seven of them; one that isn't there has column 0 and no byte.
pub record ShowsWords (found : Words) (card : List ℕ) : Type 0 where
  pub count : found.count ≡ length (words card)
  pub each : (k : ℕ) → (d : Word) → k < 7 → word_view (get_or found.words k d) ≡ unwrap_or (slice_get (words card) k) absent
  pub columns : (k : ℕ) → (d : Word) → k < 7 → k < found.count → IsColumn (get_or found.words k d).column

-- these are the words of a card before this place, from 0, at which a word may begin
pub record AreWordsBefore (found : Words) (card : List ℕ) (start : ℕ) : Type 0 where
  pub split : words card ≡ take found.count (words card) ++ words_from (start + 1) (slice_split is_blank (drop start card))
  pub few : found.count ≤ start
  pub counted : found.count ≤ length (words card)
  pub seven : length found.words ≡ 7
  pub each : (k : ℕ) → (d : Word) → k < 7 → word_view (get_or found.words k d) ≡ unwrap_or (slice_get (take found.count (words card)) k) absent
  pub columns : (k : ℕ) → (d : Word) → k < 7 → k < found.count → IsColumn (get_or found.words k d).column
