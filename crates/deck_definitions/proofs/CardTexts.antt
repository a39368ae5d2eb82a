-- What a printable card reads as: names, and fields of numbers.
use Rattle.std.proofs.Common.{◌≡◌, ℕ, ◌+◌, ◌-◌, ◌≤◌, Bool, true, false, cond, ◌&&◌, ◌||◌, List, [], ◌∷◌, None, length, take, drop, arith, lit≤, unwrap_or, refl}
use Rattle.std.proofs.Common.{◌∙◌, nat_lt, ltb-false, is_none, if◌then◌else◌}
use Rattle.std.specs.List.{AllByRecursion, list_all, list_any, suffix_len}
use Rattle.std.proofs.lemmas.List.{length-take}
use Rattle.card_definitions.specs.Words.{is_empty, ◌⟹◌}
use Rattle.card_definitions.specs.Cards.{is_blank, is_printable}
use Rattle.card_definitions.specs.Fields.{Fixed, Reading, reading_of, columns, words, word_of, fields_for, first_word}
use Rattle.card_definitions.specs.Numbers.{number_fault, decimal_of}
use Rattle.card_definitions.proofs.Trailing.{part_passes, trimmed_twice, length-trimmed}
use Rattle.card_definitions.proofs.FirstFaults.{passes}
use Rattle.card_definitions.proofs.FreeWords.{IsWordText, words-texts, field-passes, word-printable, word-trimmed}
use Rattle.card_definitions.proofs.Trimmed.{length-field, number_of-trimmed}
use Rattle.problem_definitions.specs.Valid.{IsName, IsDecimal}
use Rattle.problem_definitions.proofs.Each.{each-append}
use Rattle.deck_definitions.specs.declared.DeckFaultKind.{DeckFaultKind}
use Rattle.deck_definitions.specs.declared.DeckFaultKind.TheVariants.{WordCount, LongName, LongNumber}
use Rattle.deck_definitions.specs.declared.Section.{Section}
use Rattle.deck_definitions.specs.declared.Style.{Style}
use Rattle.deck_definitions.specs.declared.Style.TheVariants.{FixedFields, FreeFields}
use Rattle.deck_definitions.specs.DataCards.{Pair, pair_if, pairs_of, part_pairs_of, form_on, words_on}
use Rattle.deck_definitions.specs.Conversion.{is_longer, type_fault, words_fault, form_fault}
use Rattle.deck_definitions.specs.Readings.{IsReading}

-- columns of a card are no more than so many
short_columns : (from to n : ℕ) (card : List ℕ) → to + 1 - from ≤ n → length (columns from to card) ≤ n
short_columns from to n card few =
    let trimmed = length-trimmed is_blank (take (to + 1 - from) (drop (from - 1) card)) in
    omega (arith, trimmed, few, length-take (to + 1 - from) (drop (from - 1) card))

-- at most 8 columns of a printable card are a name
pub columns-name : (from to : ℕ) (card : List ℕ) → to + 1 - from ≤ 8 → list_all is_printable card ≡ true → IsName (columns from to card)
columns-name from to card few printable = record {
  short = short_columns from to 8 card few;
  printable = part_passes is_printable 0 (length part - suffix_len is_blank part) part (part_passes is_printable (from - 1) (to + 1 - from) card printable);
  trimmed = trimmed_twice is_blank part;
}
  where
    part : List ℕ
    part = take (to + 1 - from) (drop (from - 1) card)

-- fixed columns are few enough, whatever stands in the gaps
pub fixed-lawful : (card : List ℕ) → list_all is_printable card ≡ true → IsReading (reading_of Fixed card)
unfolding reading_of
fixed-lawful card printable = record {
  name1 = columns-name 5 12 card (lit≤ tt) printable;
  name2 = columns-name 15 22 card (lit≤ tt) printable;
  name3 = columns-name 40 47 card (lit≤ tt) printable;
  value1 = short_columns 25 36 12 card (lit≤ tt);
  value2 = short_columns 50 61 12 card (lit≤ tt);
}

-- a word of a printable card is a name, if it isn't longer than names are
word-name : (text : List ℕ) → length text ≤ 8 → IsWordText text → IsName text
word-name text short is = record { short = short; printable = word-printable text is; trimmed = word-trimmed text is }

-- no text of a list is longer
short-each : (most : ℕ) (texts : List (List ℕ)) → list_any (is_longer most) texts ≡ false → AllByRecursion (λ text. length text ≤ most) texts
short-each most [] none = tt
short-each most (text ∷ texts) none = (
  short (is_longer most text) refl (first (is_longer most text) (list_any (is_longer most) texts) none),
  short-each most texts
      (second (is_longer most text) (list_any (is_longer most) texts) none),
)
  where
    first : (a b : Bool) → (a || b) ≡ false → a ≡ false
    first true b none = none
    first false b none = refl

    second : (a b : Bool) → (a || b) ≡ false → b ≡ false
    second true true none = none
    second true false none = refl
    second false b none = none

    short : (b : Bool) → nat_lt most (length text) ≡ b → b ≡ false → length text ≤ most
    short b is none = ltb-false most (length text) (is ∙ none)

-- words in which no fault of form was found aren't too long
record AreShort (read : Reading) : Type 0 where
  names : list_any (is_longer 8) (read.name1 ∷ read.name2 ∷ read.name3 ∷ []) ≡ false
  numbers : list_any (is_longer 12) (read.value1 ∷ read.value2 ∷ []) ≡ false

unreported : (b : Bool) (kind : DeckFaultKind) → (b ⟹ kind) ≡ None → b ≡ false
unreported true kind none = absurd (cc none)
unreported false kind none = refl

words-short : (lists : List (List ℕ)) (card : List ℕ) (read : Reading) → words_fault lists card read ≡ None → AreShort read
words-short lists card read formed =
    let reported = passes (
    (is_none (fields_for lists (length (words card))) ⟹ WordCount) ∷
    (list_any (is_longer 8) (read.name1 ∷ read.name2 ∷ read.name3 ∷ []) ⟹ LongName) ∷
    (list_any (is_longer 12) (read.value1 ∷ read.value2 ∷ []) ⟹ LongNumber) ∷ []) formed in
    record { names = unreported _ LongName reported.1.0; numbers = unreported _ LongNumber reported.1.1.0 }

module _ (section : Section) (deletes : Bool) (card : List ℕ) where
  free-lawful : list_all is_printable card ≡ true → form_fault FreeFields section deletes card ≡ None →
      IsReading (reading_of (form_on FreeFields section deletes card) card)
  unfolding reading_of
  free-lawful printable formed = record {
    name1 = word-name (text 2) names.0 (is 2);
    name2 = word-name (text 3) names.1.0 (is 3);
    name3 = word-name (text 5) names.1.1.0 (is 5);
    value1 = numbers.0;
    value2 = numbers.1.0;
  }
    where
      fields : List ℕ
      fields = unwrap_or (fields_for (words_on section deletes (first_word card)) (length (words card))) []

      text : ℕ → List ℕ
      text k = (word_of fields (words card) k).text

      is : (k : ℕ) → IsWordText (text k)
      is k = field-passes IsWordText fields (words card) k refl (words-texts card printable)

      short : AreShort (reading_of (form_on FreeFields section deletes card) card)
      short = words-short (words_on section deletes (first_word card)) card (reading_of (form_on FreeFields section deletes card) card)
          (passes ((if deletes then None else type_fault section (first_word card)) ∷ words_fault (words_on section deletes (first_word card)) card
          (reading_of (form_on FreeFields section deletes card) card) ∷ []) formed).1.0

      names : AllByRecursion (λ text. length text ≤ 8) (text 2 ∷ text 3 ∷ text 5 ∷ [])
      names = short-each 8 (text 2 ∷ text 3 ∷ text 5 ∷ []) short.names

      numbers : AllByRecursion (λ text. length text ≤ 12) (text 4 ∷ text 6 ∷ [])
      numbers = short-each 12 (text 4 ∷ text 6 ∷ []) short.numbers

  -- a printable card that has its form reads as names and fields of numbers
  pub reading-lawful : (style : Style) → list_all is_printable card ≡ true → form_fault style section deletes card ≡ None →
      IsReading (reading_of (form_on style section deletes card) card)
  reading-lawful FixedFields printable formed = fixed-lawful card printable
  reading-lawful FreeFields printable formed = free-lawful printable formed

-- a field of a number in which no fault was found
pub text_is_decimal : (field : List ℕ) → length field ≤ 12 → number_fault field ≡ None → IsDecimal (decimal_of field)
text_is_decimal field short fine = record { short = omega (arith, length-field field, short); value = number_of-trimmed field fine }

-- a pair has a short field of a number, if it is there
pair-short : (row value : List ℕ) (column : ℕ) → length value ≤ 12 → AllByRecursion (λ (pair : Pair). length pair.value ≤ 12) (pair_if row value column)
pair-short row value column short = by (is_empty row && is_empty value)
  where
    by : (b : Bool) → AllByRecursion (λ (pair : Pair). length pair.value ≤ 12) (cond b [] (record { row = row; value = value; column = column } ∷ []))
    by true = tt
    by false = (short, tt)

-- the pairs of a card have short fields of numbers
pub pairs-short : (card : Reading) → IsReading card → AllByRecursion (λ (pair : Pair). length pair.value ≤ 12) (pairs_of card)
pairs-short card reads = (reads.value1, pair-short card.name3 card.value2 card.value2_column reads.value2)

-- and so have those of a combination
pub part_pairs-short : (card : Reading) → IsReading card → AllByRecursion (λ (pair : Pair). length pair.value ≤ 12) (part_pairs_of card)
part_pairs-short card reads =
    each-append (λ (pair : Pair). length pair.value ≤ 12) (pair_if card.name2 card.value1 card.value1_column)
    (pair_if card.name3 card.value2 card.value2_column)
    (pair-short card.name2 card.value1 card.value1_column reads.value1) (pair-short card.name3 card.value2 card.value2_column reads.value2)
