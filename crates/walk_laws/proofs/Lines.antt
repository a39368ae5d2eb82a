-- Values, lines, tables and rays tell their text, where the word of a number is read as the number whose text it is.
use Rattle.std.proofs.Common.{◌≡◌, ℕ, Bool, true, false, List, [], ◌∷◌, ◌++◌, Option, Some, None, codes, if◌then◌else◌, refl, sym, ap, ◌∙◌, append_assoc}
use Rattle.std.specs.Prelude.{option_map, option_and_then, bytes_eq}
use Rattle.std.specs.List.{flat_map}
use Rattle.std.proofs.lemmas.Slice.Eq.{bytes_eq-Decides}
use Rattle.exact_values.specs.Rational.{ℚ, zero_ℚ}
use Rattle.exact_values.specs.Tests.{eq_ℚ}
use Rattle.listing_definitions.specs.declared.At.TheVariants.{Basic, Outside, Equal, Lower, Upper, Free}
use Rattle.listing_definitions.specs.Report.{Value, Code, Number, Line}
use Rattle.listing_definitions.specs.Numbers.{rational_text}
use Rattle.listing_definitions.specs.Text.{at_text, value_text, number5, name8, values_text, line_text, table_text}
use Rattle.question_definitions.specs.Answers.{Sheet}
use Rattle.answer_definitions.specs.Lines.{name_of}
use Rattle.walk_definitions.specs.Words.{Parsed, left_after, with_text, with_word}
use Rattle.walk_definitions.specs.Tables.{Slot, AnyCode, AnyNumber, Known, all_codes, value_in, slot_in, then_more, values_in, number_at, begins_table_line}
use Rattle.walk_definitions.specs.Tables.{line_head, line_of, line_in, table_in, multiplier_in, ray_in}
use Rattle.card_definitions.specs.Words.{named}
use Rattle.walk_definitions.proofs.Texts.{is_text}
use Rattle.walk_laws.proofs.Pieces.{Tells, Spells, after_text, after_word, done, unless, kept, by_text, behind, named_spells, meaning}

-- ---- values

value_spells : (of : List ℕ → Option ℚ) (spells : Spells of rational_text) (slot : Slot) → Spells (value_in of slot) value_text
value_spells of spells AnyCode =
    meaning (named all_codes) at_text Code value_text (named_spells at_text (Basic ∷ Outside ∷ Equal ∷ Lower ∷ Upper ∷ Free ∷ [])) (λ at. refl)
value_spells of spells AnyNumber = meaning of rational_text Number value_text spells (λ x. refl)
value_spells of spells (Known value) = record { by = λ word x e. by word x (bytes_eq (value_text value) word) refl e }
  where
    by : (word : List ℕ) (x : Value) (b : Bool) → bytes_eq (value_text value) word ≡ b → (if b then Some value else None) ≡ Some x → word ≡ value_text x
    by word x true same e = let is : value ≡ x = cc e in sym ((bytes_eq-Decides (value_text value) word).0 same) ∙ ap value_text is
    by word x false other e = absurd (cc e)

slot_tells : (of : List ℕ → Option ℚ) (spells : Spells of rational_text) (slot : Slot) → Tells [] (slot_in of slot) (λ value. codes " " ++ value_text value)
slot_tells of spells slot =
    after_text [] (codes " ") (with_word (value_in of slot) (λ value left. Some (value, left))) _
    (after_word (codes " ") (value_in of slot) value_text (λ value left. Some (value, left)) _ (value_spells of spells slot)
    (λ value. done (codes " " ++ value_text value) value _ refl))

-- one thing, and more after it
then_tells : {X : Type 0} (one : List ℕ → Parsed X) (more : List ℕ → Parsed (List X)) (text : X → List ℕ) → Tells [] one text → Tells [] more (flat_map text) →
    Tells [] (λ rest. then_more (one rest) more) (flat_map text)
then_tells {X} one more text tells tells' = record { of = λ rest got e. by rest got (one rest) refl e }
  where
    rest_by : (first : X × List ℕ) (got : List X × List ℕ) (o : Parsed (List X)) → more first.1 ≡ o →
        option_map {U = List X × List ℕ} (λ others. (first.0 ∷ others.0, others.1)) o ≡ Some got →
        text first.0 ++ first.1 ≡ flat_map text got.0 ++ got.1
    rest_by first got None read e = absurd (cc e)
    rest_by first got (Some others) read e =
        let same : (first.0 ∷ others.0, others.1) ≡ got = cc e in
        ap (λ r. text first.0 ++ r) (tells'.of first.1 others read) ∙ sym (append_assoc (text first.0) (flat_map text others.0) others.1)
        ∙ ap (λ (g : List X × List ℕ). flat_map text g.0 ++ g.1) same

    by : (rest : List ℕ) (got : List X × List ℕ) (o : Parsed X) → one rest ≡ o → then_more o more ≡ Some got → rest ≡ flat_map text got.0 ++ got.1
    by rest got None read e = absurd (cc e)
    by rest got (Some first) read e = tells.of rest first read ∙ rest_by first got (more first.1) refl e

values_tell : (of : List ℕ → Option ℚ) (spells : Spells of rational_text) (slots : List Slot) → Tells [] (values_in of slots) values_text
values_tell of spells [] = done [] [] values_text refl
values_tell of spells (slot ∷ slots) =
    then_tells (slot_in of slot) (values_in of slots) (λ value. codes " " ++ value_text value) (slot_tells of spells slot) (values_tell of spells slots)

-- ---- lines

as_line : (number name values after : List ℕ) →
    ((number ++ (32 ∷ name)) ++ values) ++ (10 ∷ after) ≡ (number ++ (32 ∷ (name ++ (values ++ (10 ∷ []))))) ++ after
as_line number name values after = simp append_assoc

module _ (of : List ℕ → Option ℚ) (spells : Spells of rational_text) (sheet : Sheet) where
  line_tells : (slots : List Slot) (k : ℕ) → Tells [] (line_in of sheet slots k) line_text
  line_tells slots k = record { of = λ rest got e. by rest got (with_text (line_head sheet k) (values_in of slots) rest) refl e }
    where
      head : Tells [] (with_text (line_head sheet k) (values_in of slots)) (λ values. line_head sheet k ++ values_text values)
      head =
          after_text [] (line_head sheet k) (values_in of slots) _ (behind (line_head sheet k) (values_in of slots) values_text (values_tell of spells slots))

      ended : (values : List Value) (left : List ℕ) (got : Line × List ℕ) (o : Option (List ℕ)) → left_after (codes "\n") left ≡ o →
          option_map {U = Line × List ℕ} (λ left. (line_of sheet k values, left)) o ≡ Some got →
          (line_head sheet k ++ values_text values) ++ left ≡ line_text got.0 ++ got.1
      ended values left got None end e = absurd (cc e)
      ended values left got (Some last) end e =
          let same : (line_of sheet k values, last) ≡ got = cc e in
          ap (λ l. (line_head sheet k ++ values_text values) ++ l) (is_text (codes "\n") left last end)
          ∙ as_line (number5 k) (name8 (name_of sheet k)) (values_text values) last ∙ ap (λ (g : Line × List ℕ). line_text g.0 ++ g.1) same

      by : (rest : List ℕ) (got : Line × List ℕ) (o : Parsed (List Value)) → with_text (line_head sheet k) (values_in of slots) rest ≡ o →
          option_and_then (λ got. option_map {U = Line × List ℕ} (λ left. (line_of sheet k got.0, left)) (left_after (codes "\n") got.1)) o ≡ Some got →
          rest ≡ line_text got.0 ++ got.1
      by rest got None read e = absurd (cc e)
      by rest got (Some values) read e = head.of rest values read ∙ ended values.0 values.1 got (left_after (codes "\n") values.1) refl e

  pub table_tells : (slots : ℕ → List Slot) (ks : List ℕ) → Tells [] (table_in of sheet slots ks) table_text
  table_tells slots [] = done [] [] table_text refl
  table_tells slots (k ∷ ks) = then_tells (line_in of sheet (slots k) k) (table_in of sheet slots ks) line_text (line_tells (slots k) k) (table_tells slots ks)

  multiplier_tells : (k : ℕ) → Tells [] (multiplier_in of sheet k) line_text
  multiplier_tells k = kept (λ line. eq_ℚ (number_at 0 line) zero_ℚ) [] (line_in of sheet (AnyNumber ∷ []) k) line_text (line_tells (AnyNumber ∷ []) k)

  pub ray_tells : (ks : List ℕ) → Tells [] (ray_in of sheet ks) table_text
  ray_tells [] = unless begins_table_line [] (λ rest. Some ([], rest)) table_text (done [] [] table_text refl)
  ray_tells (k ∷ ks) =
      by_text (left_after (line_head sheet k)) [] (ray_in of sheet ks) (λ rest. then_more (multiplier_in of sheet k rest) (ray_in of sheet ks)) table_text
      (ray_tells ks) (then_tells (multiplier_in of sheet k) (ray_in of sheet ks) line_text (multiplier_tells k) (ray_tells ks))
