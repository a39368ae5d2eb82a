-- The words of a printable card are printable texts without blanks, and so is each field that is read of them.
use Rattle.std.proofs.Common.{◌≡◌, ℕ, zero, suc, ◌+◌, ◌-◌, ◌<◌, Bool, true, false, not, cond, ◌&&◌, List, [], ◌∷◌, ◌++◌, Option, Some, None, length, take}
use Rattle.std.proofs.Common.{slice_get, unwrap_or, option_and_then, get_or, position, refl, ap, sym, ◌∙◌, arith, take_all, ◌==◌}
use Rattle.std.specs.List.{AllByRecursion, list_all, slice_split, onto_first, suffix_len}
use Rattle.std.proofs.lemmas.List.Sums.{suffix_len-take_no}
use Rattle.card_definitions.specs.Words.{without_trailing}
use Rattle.card_definitions.specs.Cards.{is_blank, is_printable}
use Rattle.card_definitions.specs.Fields.{Word, word_if_any, words_from, words, no_word, word_of}

-- ---- parts

module _ (p q : ℕ → Bool) where
  into-first : (x : ℕ) (parts : List (List ℕ)) → q x ≡ true → AllByRecursion (λ part. list_all q part ≡ true) parts →
      AllByRecursion (λ part. list_all q part ≡ true) (onto_first x parts)
  into-first x [] is each = (rw is refl, tt)
  into-first x (part ∷ parts) is each = (rw is each.0, each.1)

  -- each part has only elements that pass q, if those that don't pass p do
  parts-pass : (xs : List ℕ) → AllByRecursion (λ x. p x ≡ false → q x ≡ true) xs → AllByRecursion (λ part. list_all q part ≡ true) (slice_split p xs)
  parts-pass [] each = (refl, tt)
  parts-pass (x ∷ xs) each = by (p x) refl (parts-pass xs each.1)
    where
      by : (b : Bool) → p x ≡ b → AllByRecursion (λ part. list_all q part ≡ true) (slice_split p xs) →
          AllByRecursion (λ part. list_all q part ≡ true) (cond (p x) ([] ∷ slice_split p xs) (onto_first x (slice_split p xs)))
      by true is more = rw is (refl, more)
      by false is more = rw is (into-first x (slice_split p xs) (each.0 is) more)

-- a byte of a word on a printable card: printable, and no blank
abbrev is_word_byte : ℕ → Bool
is_word_byte byte = is_printable byte && not (is_blank byte)

printable-parts : (card : List ℕ) → list_all is_printable card ≡ true → AllByRecursion (λ byte. is_blank byte ≡ false → is_word_byte byte ≡ true) card
printable-parts [] is = tt
printable-parts (byte ∷ card) is = (
  λ clear. both (is_printable byte) (is_blank byte) (first (is_printable byte) (list_all is_printable card) is) clear,
  printable-parts card
      (second (is_printable byte) (list_all is_printable card) is),
)
  where
    first : (a b : Bool) → (a && b) ≡ true → a ≡ true
    first true b is = refl
    first false b is = is

    second : (a b : Bool) → (a && b) ≡ true → b ≡ true
    second true b is = is
    second false b is = absurd (cc is)

    both : (a b : Bool) → a ≡ true → b ≡ false → (a && not b) ≡ true
    both true false is clear = refl
    both true true is clear = absurd (cc clear)
    both false b is clear = absurd (cc is)

-- ---- words

module _ (P : List ℕ → Type 0) where
  word-passes : (column : ℕ) (part : List ℕ) (more : List Word) → P part → AllByRecursion (λ (word : Word). P word.text) more →
      AllByRecursion (λ (word : Word). P word.text) (word_if_any column part ++ more)
  word-passes column [] more is each = each
  word-passes column (byte ∷ part) more is each = (is, each)

  words-pass : (column : ℕ) (parts : List (List ℕ)) → AllByRecursion P parts → AllByRecursion (λ (word : Word). P word.text) (words_from column parts)
  words-pass column [] each = tt
  words-pass column (part ∷ parts) each =
      word-passes column part (words_from (column + length part + 1) parts) each.0 (words-pass (column + length part + 1) parts each.1)

  -- a field that is read of words is empty, or one of them
  pub field-passes : (fields : List ℕ) (all : List Word) (field : ℕ) → P [] → AllByRecursion (λ (word : Word). P word.text) all →
      P (word_of fields all field).text
  field-passes fields all field blank each = by (position (λ other. other == field) fields)
    where
      at : (all : List Word) (k : ℕ) → AllByRecursion (λ (word : Word). P word.text) all → P (unwrap_or (slice_get all k) no_word).text
      at [] k each = blank
      at (word ∷ all) zero each = each.0
      at (word ∷ all) (suc k) each = at all k each.1

      by : (place : Option ℕ) → P (unwrap_or (option_and_then (slice_get all) place) no_word).text
      by None = blank
      by (Some k) = at all k each

abbrev pub IsWordText : List ℕ → Type 0
IsWordText text = list_all is_word_byte text ≡ true

pub words-texts : (card : List ℕ) → list_all is_printable card ≡ true → AllByRecursion (λ (word : Word). IsWordText word.text) (words card)
unfolding words
words-texts card printable = words-pass IsWordText 1 (slice_split is_blank card) (parts-pass is_blank is_word_byte card (printable-parts card printable))

-- ---- texts of words

pub word-printable : (text : List ℕ) → IsWordText text → list_all is_printable text ≡ true
word-printable [] is = refl
word-printable (byte ∷ text) is = by (is_printable byte) (is_blank byte) (list_all is_word_byte text) is (λ rest. word-printable text rest)
  where
    by : (a b c : Bool) → (a && not b && c) ≡ true → (c ≡ true → list_all is_printable text ≡ true) → (a && list_all is_printable text) ≡ true
    by true false c is more = more is
    by true true c is more = absurd (cc is)
    by false b c is more = absurd (cc is)

last-clear : (text : List ℕ) (k d : ℕ) → k < length text → IsWordText text → is_blank (get_or text k d) ≡ false
last-clear [] k d below is = absurd (omega (arith, below))
last-clear (byte ∷ text) zero d below is = by (is_printable byte) (is_blank byte) (list_all is_word_byte text) is
  where
    by : (a b c : Bool) → (a && not b && c) ≡ true → b ≡ false
    by true false c is = refl
    by true true c is = absurd (cc is)
    by false b c is = absurd (cc is)
last-clear (byte ∷ text) (suc k) d below is =
    last-clear text k d (omega (arith, below)) (by (is_printable byte && not (is_blank byte)) (list_all is_word_byte text) is)
  where
    by : (a b : Bool) → (a && b) ≡ true → b ≡ true
    by true b is = is
    by false b is = absurd (cc is)

-- it has no trailing blanks
pub word-trimmed : (text : List ℕ) → IsWordText text → without_trailing is_blank text ≡ text
word-trimmed [] is = refl
word-trimmed (byte ∷ text) is =
    let whole : take (length (byte ∷ text)) (byte ∷ text) ≡ byte ∷ text = take_all (length (byte ∷ text)) (byte ∷ text) (omega arith) in
    let none : suffix_len is_blank (byte ∷ text) ≡ 0 =
    ap (suffix_len is_blank) (sym whole)
    ∙ suffix_len-take_no is_blank (byte ∷ text) (length (byte ∷ text)) 0 (omega arith) (omega arith)
    (last-clear (byte ∷ text) (length (byte ∷ text) - 1) 0 (omega arith) is) in
    take_all (length (byte ∷ text) - suffix_len is_blank (byte ∷ text)) (byte ∷ text) (omega (arith, none))
