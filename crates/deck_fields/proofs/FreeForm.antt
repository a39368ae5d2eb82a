-- The form of a data card of a free deck, where its first word has no fault and its section takes so many words.
use Rattle.std.proofs.Common.{◌≡◌, ℕ, Bool, true, false, List, [], ◌∷◌, Option, Some, None, length, unwrap_or, if◌then◌else◌, refl, ap, ap₂, sym, subst, ◌∙◌}
use Rattle.std.specs.List.{list_any}
use Rattle.std.specs.Option.{option_or}
use Rattle.std.specs.Prelude.{is_none}
use Rattle.card_definitions.specs.Words.{◌⟹◌}
use Rattle.card_definitions.specs.Fields.{words, word_text, first_word, fields_for, read_words, Reading, reading_of}
use Rattle.card_definitions.proofs.FirstFaults.{or_none}
use Rattle.deck_definitions.specs.declared.DeckFaultKind.{DeckFaultKind}
use Rattle.deck_definitions.specs.declared.DeckFaultKind.TheVariants.{WordCount, LongName, LongNumber}
use Rattle.deck_definitions.specs.declared.Section.{Section}
use Rattle.deck_definitions.specs.declared.Style.TheVariants.{FreeFields}
use Rattle.deck_definitions.specs.DataCards.{form_on, words_on}
use Rattle.deck_definitions.specs.Conversion.{type_fault, is_longer, words_fault, form_fault}
use Rattle.deck_fields.specs.declared.texts.Fields.{Fields}
use Rattle.deck_fields.specs.Readings.{ShowsFields}

module _ (section : Section) (deletes : Bool) (card first : List ℕ) (count : ℕ) (list : List ℕ) (f : Fields)
    (first_is : first ≡ word_text card 0) (count_is : count ≡ length (words card))
    (typed : (if deletes then None else type_fault section first) ≡ None)
    (found : fields_for (words_on section deletes first) count ≡ Some list)
    (shows : ShowsFields f (read_words list (words card))) where
  taken : fields_for (words_on section deletes (first_word card)) (length (words card)) ≡ Some list
  taken = sym (ap₂ (λ word n. fields_for (words_on section deletes word) n) first_is count_is) ∙ found

  pub reading : ShowsFields f (reading_of (form_on FreeFields section deletes card) card)
  unfolding reading_of
  reading = subst (ShowsFields f) (sym (ap (λ fields. read_words (unwrap_or fields []) (words card)) taken)) shows

  -- the tests of lengths
  abbrev lengths_fault : List ℕ → List ℕ → List ℕ → List ℕ → List ℕ → Option DeckFaultKind
  lengths_fault name1 name2 name3 value1 value2 =
      option_or (list_any (is_longer 8) (name1 ∷ name2 ∷ name3 ∷ []) ⟹ LongName) (option_or (list_any (is_longer 12) (value1 ∷ value2 ∷ []) ⟹ LongNumber) None)

  by_lengths : form_fault FreeFields section deletes card ≡ lengths_fault f.name1.now f.name2.now f.name3.now f.value1.now f.value2.now
  by_lengths =
      ap (λ fault. option_or fault (option_or (words_fault (words_on section deletes (first_word card)) card read) None))
      (ap (λ word. if deletes then None else type_fault section word) (sym first_is) ∙ typed)
      ∙ or_none (words_fault (words_on section deletes (first_word card)) card read)
      ∙ ap (λ fields. option_or (is_none fields ⟹ WordCount) (lengths_fault read.name1 read.name2 read.name3 read.value1 read.value2)) taken
      ∙ (λ i. lengths_fault (sym reading.name1 i) (sym reading.name2 i) (sym reading.name3 i) (sym reading.value1 i) (sym reading.value2 i))
    where
      read : Reading
      read = reading_of (form_on FreeFields section deletes card) card

  module _ (long_names long_numbers : Bool) (names : list_any (is_longer 8) (f.name1.now ∷ f.name2.now ∷ f.name3.now ∷ []) ≡ long_names)
      (numbers : list_any (is_longer 12) (f.value1.now ∷ f.value2.now ∷ []) ≡ long_numbers) where
    by_tests : form_fault FreeFields section deletes card ≡ option_or (long_names ⟹ LongName) (option_or (long_numbers ⟹ LongNumber) None)
    by_tests = by_lengths ∙ ap₂ (λ b c. option_or (b ⟹ LongName) (option_or (c ⟹ LongNumber) None)) names numbers

  pub long_name : list_any (is_longer 8) (f.name1.now ∷ f.name2.now ∷ f.name3.now ∷ []) ≡ true → form_fault FreeFields section deletes card ≡ Some LongName
  long_name names = by_tests true _ names refl

  pub long_number : list_any (is_longer 8) (f.name1.now ∷ f.name2.now ∷ f.name3.now ∷ []) ≡ false
      → list_any (is_longer 12) (f.value1.now ∷ f.value2.now ∷ []) ≡ true
      → form_fault FreeFields section deletes card ≡ Some LongNumber
  long_number names numbers = by_tests false true names numbers

  pub formed : list_any (is_longer 8) (f.name1.now ∷ f.name2.now ∷ f.name3.now ∷ []) ≡ false
      → list_any (is_longer 12) (f.value1.now ∷ f.value2.now ∷ []) ≡ false
      → form_fault FreeFields section deletes card ≡ None
  formed names numbers = by_tests false false names numbers
