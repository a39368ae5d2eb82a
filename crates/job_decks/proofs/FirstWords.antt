-- A card begins the section of ENDATA or NAME exactly if that word stands in front of its first blank.
use Rattle.std.proofs.Common.{◌≡◌, ℕ, suc, ◌+◌, Bool, true, false, cond, not, ◌||◌, List, [], ◌∷◌, Some, None, take, codes, eqb, refl, ap, sym, ◌∙◌, subst}
use Rattle.std.proofs.Common.{arith, unwrap_or}
use Rattle.std.specs.Option.{option_map}
use Rattle.std.specs.Str.{bytes_eq}
use Rattle.std.specs.List.{position_or_len}
use Rattle.std.proofs.lemmas.Bool.{eqb-true}
use Rattle.std.proofs.lemmas.Slice.Eq.{bytes_eq-Decides}
use Rattle.card_definitions.specs.Cards.{is_blank}
use Rattle.card_definitions.specs.Words.{named}
use Rattle.deck_definitions.specs.declared.Section.{Section}
use Rattle.deck_definitions.specs.declared.Section.TheVariants.{Header, Rows, Columns, Rhs, Ranges, Bounds, Endata}
use Rattle.deck_definitions.specs.Sections.{begins, is_section, is_section_card, section_word, section_words}

-- whether the first word that is there names this section
abbrev chosen : Section → Bool → Bool → Bool → Bool → Bool → Bool → Bool → Bool
chosen section a b c d e f g = unwrap_or (option_map (is_section section) (option_map (λ (line : List ℕ × Section). line.1)
    (cond a (Some (codes "NAME", Header)) (cond b (Some (codes "ROWS", Rows)) (cond c (Some (codes "COLUMNS", Columns)) (cond d (Some (codes "RHS", Rhs))
    (cond e (Some (codes "RANGES", Ranges)) (cond f (Some (codes "BOUNDS", Bounds)) (cond g (Some (codes "ENDATA", Endata)) None))))))))) false

header_chosen : (a b c d e f g : Bool) → chosen Header a b c d e f g ≡ a
header_chosen true b c d e f g = refl
header_chosen false true c d e f g = refl
header_chosen false false true d e f g = refl
header_chosen false false false true e f g = refl
header_chosen false false false false true f g = refl
header_chosen false false false false false true g = refl
header_chosen false false false false false false true = refl
header_chosen false false false false false false false = refl

none_chosen : (a b c d e f : Bool) → chosen Endata a b c d e f false ≡ false
none_chosen true b c d e f = refl
none_chosen false true c d e f = refl
none_chosen false false true d e f = refl
none_chosen false false false true e f = refl
none_chosen false false false false true f = refl
none_chosen false false false false false true = refl
none_chosen false false false false false false = refl

-- whether a word begins this section
abbrev word_begins : Section → List ℕ → Bool
word_begins section word = unwrap_or (option_map (is_section section) (named section_words word)) false

header_word : (word : List ℕ) → word_begins Header word ≡ bytes_eq (codes "NAME") word
header_word word =
    header_chosen (bytes_eq (codes "NAME") word) (bytes_eq (codes "ROWS") word) (bytes_eq (codes "COLUMNS") word) (bytes_eq (codes "RHS") word)
    (bytes_eq (codes "RANGES") word) (bytes_eq (codes "BOUNDS") word) (bytes_eq (codes "ENDATA") word)

end_word : (word : List ℕ) → word_begins Endata word ≡ bytes_eq (codes "ENDATA") word
end_word word = by (bytes_eq (codes "ENDATA") word) refl
  where
    by : (b : Bool) → bytes_eq (codes "ENDATA") word ≡ b → word_begins Endata word ≡ b
    by true e = subst (λ w. word_begins Endata w ≡ true) ((bytes_eq-Decides (codes "ENDATA") word).0 e) refl
    by false e =
        ap (chosen Endata (bytes_eq (codes "NAME") word) (bytes_eq (codes "ROWS") word) (bytes_eq (codes "COLUMNS") word) (bytes_eq (codes "RHS") word)
        (bytes_eq (codes "RANGES") word) (bytes_eq (codes "BOUNDS") word)) e
        ∙ none_chosen (bytes_eq (codes "NAME") word) (bytes_eq (codes "ROWS") word) (bytes_eq (codes "COLUMNS") word) (bytes_eq (codes "RHS") word)
        (bytes_eq (codes "RANGES") word) (bytes_eq (codes "BOUNDS") word)

-- a card that is no section card has neither word
no_word : (first : ℕ) (rest card : List ℕ) → eqb first 42 ≡ false → is_section_card card ≡ false → bytes_eq (first ∷ rest) (section_word card) ≡ false
no_word first rest [] other e = refl
no_word first rest (byte ∷ bytes) other e = by (is_blank byte) (eqb byte 42) refl e
  where
    by : (b c : Bool) → eqb byte 42 ≡ c → not (b || c) ≡ false →
        bytes_eq (first ∷ rest) (take (cond (not b) (1 + position_or_len is_blank bytes) 0) (byte ∷ bytes)) ≡ false
    by true c is e = refl
    by false true is e =
        let next : 1 + position_or_len is_blank bytes ≡ suc (position_or_len is_blank bytes) = omega arith in
        let same : byte ≡ 42 = eqb-true byte 42 is in
        rw (next, same, other) refl
    by false false is e = absurd (cc e)

-- whether a card begins a section is decided by its word, where no other card has it
by_word : (section : Section) (word : List ℕ) (number : ℕ) (card : List ℕ) → word_begins section (section_word card) ≡ bytes_eq word (section_word card)
    → (is_section_card card ≡ false → bytes_eq word (section_word card) ≡ false)
    → bytes_eq word (section_word card) ≡ begins section (record { number = number; bytes = card })
by_word section word number card same else = by (is_section_card card) refl
  where
    by : (b : Bool) → is_section_card card ≡ b →
        bytes_eq word (section_word card) ≡ unwrap_or (option_map (is_section section) (cond b (named section_words (section_word card)) None)) false
    by true e = sym same
    by false e = else e

pub ends : (number : ℕ) (card : List ℕ) → bytes_eq (codes "ENDATA") (section_word card) ≡ begins Endata (record { number = number; bytes = card })
ends number card = by_word Endata (codes "ENDATA") number card (end_word (section_word card)) (no_word 69 (codes "NDATA") card refl)

pub heads : (number : ℕ) (card : List ℕ) → bytes_eq (codes "NAME") (section_word card) ≡ begins Header (record { number = number; bytes = card })
heads number card = by_word Header (codes "NAME") number card (header_word (section_word card)) (no_word 78 (codes "AME") card refl)
