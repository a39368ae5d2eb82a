-- The fields of a data card.
use Rattle.std.specs.Prelude.{ℕ, Bool, ◌-◌, ◌+◌, List, [], ◌∷◌, ◌++◌, ◌==◌, Option, length, take, drop, slice_get, unwrap_or, option_map, find, position}
use Rattle.std.specs.List.{list_all, slice_split}
use Rattle.std.specs.Option.{option_and_then}
use Rattle.card_definitions.specs.Words.{without_trailing, without_leading}
use Rattle.card_definitions.specs.Cards.{is_blank}

-- columns from to of a card, as far as it has them, without trailing blanks; columns count from 1
abbrev pub columns : ℕ → ℕ → List ℕ → List ℕ
columns from to card = without_trailing is_blank (take (to + 1 - from) (drop (from - 1) card))

-- a column is blank where the card has a blank there or ends before it
abbrev pub is_blank_column : List ℕ → ℕ → Bool
is_blank_column card column = is_blank (unwrap_or (slice_get card (column - 1)) 32)

-- the columns before, between and after the names and numbers of a data card that are to be blank
abbrev pub gaps : List ℕ
gaps = 1 ∷ 4 ∷ 13 ∷ 14 ∷ 23 ∷ 24 ∷ 37 ∷ 38 ∷ 39 ∷ 48 ∷ 49 ∷ []

abbrev pub gaps_are_blank : List ℕ → Bool
gaps_are_blank card = list_all (is_blank_column card) gaps

-- ---- words

-- a word of a card: its first column, and its bytes
pub record Word : Type 0 where
  pub column : ℕ
  pub text : List ℕ

-- the word that a part between blanks is, if it isn't empty
abbrev pub word_if_any : ℕ → List ℕ → List Word
word_if_any column [] = []
word_if_any column (byte ∷ bytes) = record { column = column; text = byte ∷ bytes } ∷ []

-- the words among parts that stand one blank apart, where the first part begins in this column
abbrev pub words_from : ℕ → List (List ℕ) → List Word
words_from column [] = []
words_from column (part ∷ parts) = word_if_any column part ++ words_from (column + length part + 1) parts

-- The words of a card are its longest runs of bytes other than blanks.
unfoldable pub words : List ℕ → List Word
words card = words_from 1 (slice_split is_blank card)

-- the text of a word by its place, from 0; empty where the card has fewer
abbrev pub word_text : List ℕ → ℕ → List ℕ
word_text card place = unwrap_or (option_map (λ word. word.text) (slice_get (words card) place)) []

abbrev pub first_word : List ℕ → List ℕ
first_word card = word_text card 0

-- ---- fields

-- How the fields of a data card are found: they stand at fixed columns; or the card's words are the fields of one of these
-- lists, in order: of the list that has as many fields as the card has words.
pub data Form : Type 0 where
  Fixed : Form
  Free : List (List ℕ) → Form

-- the list with so many fields
abbrev pub fields_for : List (List ℕ) → ℕ → Option (List ℕ)
fields_for lists count = find (λ fields. length fields == count) lists

-- a field that no word is: it is blank
abbrev pub no_word : Word
no_word = record { column = 1; text = [] }

-- the word that is a field, where the words are these fields in order
abbrev pub word_of : List ℕ → List Word → ℕ → Word
word_of fields words field = unwrap_or (option_and_then (slice_get words) (position (λ other. other == field) fields)) no_word

-- What is read of a data card: its fields 1 to 6, and the columns in which the numbers of fields 4 and 6 begin.
pub record Reading : Type 0 where
  pub kind : List ℕ
  pub name1 : List ℕ
  pub name2 : List ℕ
  pub value1 : List ℕ
  pub name3 : List ℕ
  pub value2 : List ℕ
  pub value1_column : ℕ
  pub value2_column : ℕ

-- what is read of words that are these fields in order
abbrev pub read_words : List ℕ → List Word → Reading
read_words fields words = record {
  kind = (word_of fields words 1).text;
  name1 = (word_of fields words 2).text;
  name2 = (word_of fields words 3).text;
  value1 = (word_of fields words 4).text;
  name3 = (word_of fields words 5).text;
  value2 = (word_of fields words 6).text;
  value1_column = (word_of fields words 4).column;
  value2_column = (word_of fields words 6).column;
}

-- At fixed columns field 1 is read without surrounding blanks, the others without trailing ones, and columns 62 to 80 aren't
-- read. By words the whole card counts.
unfoldable pub reading_of : Form → List ℕ → Reading
reading_of Fixed card = record {
  kind = without_leading is_blank (columns 2 3 card);
  name1 = columns 5 12 card;
  name2 = columns 15 22 card;
  value1 = columns 25 36 card;
  name3 = columns 40 47 card;
  value2 = columns 50 61 card;
  value1_column = 25;
  value2_column = 50;
}
reading_of (Free lists) card = read_words (unwrap_or (fields_for lists (length (words card))) []) (words card)
