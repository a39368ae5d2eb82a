-- A written data card has its fields, blanks between them, and is neither a section card nor skipped.
use Rattle.std.proofs.Common.{◌≡◌, ℕ, zero, suc, ◌+◌, ◌-◌, ◌≤◌, Bool, true, false, cond, ◌&&◌, List, [], ◌∷◌, ◌++◌, length, take, drop, refl, ap, sym, ◌∙◌}
use Rattle.std.proofs.Common.{subst, arith, unwrap_or, lit≤}
use Rattle.std.specs.List.{list_all, slice_get}
use Rattle.std.specs.Prelude.{codes}
use Rattle.std.proofs.lemmas.List.{append_assoc}
use Rattle.std.proofs.Math.ListN.{drop_of_length-le}
use Rattle.std.proofs.lemmas.Bool.{and_from}
use Rattle.card_definitions.specs.Words.{without_trailing, without_leading, padded, is_empty}
use Rattle.card_definitions.specs.Cards.{is_blank, is_skipped}
use Rattle.card_definitions.specs.Fields.{Fixed, Reading, reading_of, columns, gaps_are_blank}
use Rattle.card_definitions.proofs.Trailing.{without_trailing-cons, trailing_split}
use Rattle.deck_definitions.specs.Sections.{is_section_card}
use Rattle.deck_definitions.specs.Written.{data_card}
use Rattle.deck_definitions.proofs.WrittenCards.{FitsField, reading_of-data_card, length-padded}

-- ---- blank columns

-- a part of one column that holds nothing but a blank
abbrev IsBlankAt : ℕ → List ℕ → Type 0
IsBlankAt k xs = list_all is_blank (take 1 (drop k xs)) ≡ true

blank_column : (k : ℕ) (xs : List ℕ) → IsBlankAt k xs → is_blank (unwrap_or (slice_get xs k) 32) ≡ true
blank_column zero [] h = refl
blank_column (suc k) [] h = refl
blank_column zero (x ∷ xs) h = by (is_blank x) h
  where
    by : (b : Bool) → (b && true) ≡ true → b ≡ true
    by true h = refl
    by false h = h
blank_column (suc k) (x ∷ xs) h = blank_column k xs h

-- it is blank in a prefix of a list too
blank_front : (k : ℕ) (kept more : List ℕ) → IsBlankAt k (kept ++ more) → IsBlankAt k kept
blank_front zero [] more h = refl
blank_front (suc k) [] more h = refl
blank_front zero (x ∷ kept) more h = h
blank_front (suc k) (x ∷ kept) more h = blank_front k kept more h

blank_trimmed : (k : ℕ) (xs : List ℕ) → IsBlankAt k xs → IsBlankAt k (without_trailing is_blank xs)
blank_trimmed k xs h = blank_front k (without_trailing is_blank xs) (trailing_split is_blank xs).0 (subst (IsBlankAt k) (trailing_split is_blank xs).2 h)

-- a column after a part of so many columns
over : (n k : ℕ) (part rest : List ℕ) → length part ≡ n → IsBlankAt k rest → IsBlankAt (n + k) (part ++ rest)
over n k part rest long h = subst (λ m. IsBlankAt (m + k) (part ++ rest)) long (after part)
  where
    after : (part : List ℕ) → IsBlankAt (length part + k) (part ++ rest)
    after [] = let none : k ≡ 0 + k = omega arith in subst (λ m. IsBlankAt m rest) none h
    after (x ∷ xs) = let more : suc (length xs + k) ≡ length (x ∷ xs) + k = omega arith in subst (λ m. IsBlankAt m ((x ∷ xs) ++ rest)) more (after xs)

past : (k : ℕ) (xs : List ℕ) → length xs ≤ k → IsBlankAt k xs
past k xs short = ap (λ list. list_all is_blank (take 1 list)) (drop_of_length-le xs short)

module _ (K A B v : List ℕ) (lK : length K ≡ 2) (lA : length A ≡ 8) (lB : length B ≡ 8) (lv : length v ≤ 12) where
  abbrev line : List ℕ
  line = 32 ∷ (K ++ 32 ∷ (A ++ 32 ∷ 32 ∷ (B ++ 32 ∷ 32 ∷ v)))

  -- a column after each of the fields
  after_kind : (k : ℕ) → IsBlankAt k (32 ∷ (A ++ 32 ∷ 32 ∷ (B ++ 32 ∷ 32 ∷ v))) → IsBlankAt (suc (2 + k)) line
  after_kind k h = over 2 k K (32 ∷ (A ++ 32 ∷ 32 ∷ (B ++ 32 ∷ 32 ∷ v))) lK h

  after_name1 : (k : ℕ) → IsBlankAt k (32 ∷ 32 ∷ (B ++ 32 ∷ 32 ∷ v)) → IsBlankAt (suc (2 + suc (8 + k))) line
  after_name1 k h = after_kind (suc (8 + k)) (over 8 k A (32 ∷ 32 ∷ (B ++ 32 ∷ 32 ∷ v)) lA h)

  after_name2 : (k : ℕ) → IsBlankAt k (32 ∷ 32 ∷ v) → IsBlankAt (suc (2 + suc (8 + suc (suc (8 + k))))) line
  after_name2 k h = after_name1 (suc (suc (8 + k))) (over 8 k B (32 ∷ 32 ∷ v) lB h)

  after_value : (k : ℕ) → 12 ≤ k → IsBlankAt (suc (2 + suc (8 + suc (suc (8 + suc (suc k)))))) line
  after_value k far = after_name2 (suc (suc k)) (past k v (omega (arith, far, lv)))

  column : (k : ℕ) → IsBlankAt k line → is_blank (unwrap_or (slice_get (without_trailing is_blank line) k) 32) ≡ true
  column k h = blank_column k (without_trailing is_blank line) (blank_trimmed k line h)

  gaps_blank : gaps_are_blank (without_trailing is_blank line) ≡ true
  gaps_blank =
      and_from _ _ (column 0 refl)
      (and_from _ _ (column 3 (after_kind 0 refl))
      (and_from _ _ (column 12 (after_name1 0 refl))
      (and_from _ _ (column 13 (after_name1 1 refl))
      (and_from _ _ (column 22 (after_name2 0 refl))
      (and_from _ _ (column 23 (after_name2 1 refl))
      (and_from _ _ (column 36 (after_value 12 (lit≤ tt)))
      (and_from _ _ (column 37 (after_value 13 (lit≤ tt)))
      (and_from _ _ (column 38 (after_value 14 (lit≤ tt)))
      (and_from _ _ (column 47 (after_value 23 (lit≤ tt)))
      (and_from _ _ (column 48 (after_value 24 (lit≤ tt))) refl))))))))))

pub reassoc : (a K b A c B d v : List ℕ) → a ++ K ++ b ++ A ++ c ++ B ++ d ++ v ≡ a ++ (K ++ (b ++ (A ++ (c ++ (B ++ (d ++ v))))))
reassoc a K b A c B d v = simp append_assoc

-- ---- the card

-- no section card begins with a blank
pub no_section : (xs : List ℕ) → is_section_card (without_trailing is_blank (32 ∷ xs)) ≡ false
no_section xs = ap is_section_card (without_trailing-cons is_blank 32 xs) ∙ by (is_empty (without_trailing is_blank xs))
  where
    by : (b : Bool) → is_section_card (cond (b && true) [] (32 ∷ without_trailing is_blank xs)) ≡ false
    by true = refl
    by false = refl

-- nor is a card skipped that begins with a blank and isn't blank
not_skipped : (xs : List ℕ) → is_empty (without_trailing is_blank (32 ∷ xs)) ≡ false → is_skipped (without_trailing is_blank (32 ∷ xs)) ≡ false
not_skipped xs some =
    ap is_skipped (without_trailing-cons is_blank 32 xs)
    ∙ by (is_empty (without_trailing is_blank xs)) (ap is_empty (sym (without_trailing-cons is_blank 32 xs)) ∙ some)
  where
    by : (b : Bool) → is_empty (cond (b && true) [] (32 ∷ without_trailing is_blank xs)) ≡ false →
        is_skipped (cond (b && true) [] (32 ∷ without_trailing is_blank xs)) ≡ false
    by true h = absurd (cc h)
    by false h = refl

nothing_in : (from count : ℕ) → take {A = ℕ} count (drop from []) ≡ []
nothing_in zero zero = refl
nothing_in zero (suc count) = refl
nothing_in (suc from) zero = refl
nothing_in (suc from) (suc count) = refl

-- a card with something in some columns isn't blank
some_card : (from to : ℕ) (card : List ℕ) → is_empty (columns from to card) ≡ false → is_empty card ≡ false
some_card from to [] h = let none = ap (λ list. is_empty (without_trailing is_blank list)) (nothing_in (from - 1) (to + 1 - from)) in absurd (cc (h, none))
some_card from to (x ∷ xs) h = refl

-- What the tests and the reader see of a written card.
pub record IsWritten (card : List ℕ) (read : Reading) : Type 0 where
  pub reads : reading_of Fixed card ≡ read
  pub spaced : gaps_are_blank card ≡ true
  pub data_card : is_section_card card ≡ false
  pub there : is_skipped card ≡ false

-- the fields of a card without fields 5 and 6
abbrev pub fields : List ℕ → List ℕ → List ℕ → List ℕ → Reading
fields kind name1 name2 value =
    record { kind = kind; name1 = name1; name2 = name2; value1 = value; name3 = []; value2 = []; value1_column = 25; value2_column = 50 }

pub written-card : (kind name1 name2 value : List ℕ) → FitsField 2 kind → without_leading is_blank kind ≡ kind → FitsField 8 name1 → FitsField 8 name2
    → FitsField 12 value
    → (is_empty name1 && is_empty name2) ≡ false → IsWritten (data_card kind name1 name2 value) (fields kind name1 name2 value)
unfolding data_card reading_of
written-card kind name1 name2 value fk lead f1 f2 fv some = record {
  reads = read;
  spaced =
      ap gaps_are_blank card_is
      ∙ gaps_blank (padded 2 kind) (padded 8 name1) (padded 8 name2) value (length-padded 2 kind fk.short) (length-padded 8 name1 f1.short)
      (length-padded 8 name2 f2.short) fv.short;
  data_card = ap is_section_card card_is ∙ no_section after;
  there = ap is_skipped card_is ∙ not_skipped after (ap is_empty (sym card_is) ∙ present (is_empty name1) (is_empty name2) some refl refl);
}
  where
    after : List ℕ
    after = padded 2 kind ++ 32 ∷ (padded 8 name1 ++ 32 ∷ 32 ∷ (padded 8 name2 ++ 32 ∷ 32 ∷ value))

    card : List ℕ
    card = without_trailing is_blank (codes " " ++ padded 2 kind ++ codes " " ++ padded 8 name1 ++ codes "  " ++ padded 8 name2 ++ codes "  " ++ value)

    card_is : card ≡ without_trailing is_blank (32 ∷ after)
    card_is = ap (without_trailing is_blank) (reassoc (codes " ") (padded 2 kind) (codes " ") (padded 8 name1) (codes "  ") (padded 8 name2) (codes "  ") value)

    read : reading_of Fixed card ≡ fields kind name1 name2 value
    read = reading_of-data_card kind name1 name2 value fk lead f1 f2 fv

    present : (a b : Bool) → (a && b) ≡ false → is_empty name1 ≡ a → is_empty name2 ≡ b → is_empty card ≡ false
    present false b h e1 e2 = some_card 5 12 card (ap (λ (r : Reading). is_empty r.name1) read ∙ e1)
    present true false h e1 e2 = some_card 15 22 card (ap (λ (r : Reading). is_empty r.name2) read ∙ e2)
    present true true h e1 e2 = absurd (cc h)
