-- Table lines and tables are read back.
--     AllMatch slots values        each value is one that its slot takes
--     AreMatched slots values ks   so it is in the lines of these variables
use Rattle.std.proofs.Common.{◌≡◌, ℕ, zero, suc, ◌+◌, ◌-◌, ◌<◌, Bool, true, false, not, ◌&&◌, List, [], ◌∷◌, ◌++◌, filter, replicate, length, drop, Option}
use Rattle.std.proofs.Common.{Some, None, codes, cond, if◌then◌else◌, refl, sym, ap, ap₂, ◌∙◌, arith, append_assoc}
use Rattle.std.specs.Prelude.{option_map, option_and_then}
use Rattle.std.specs.List.{list_all, list_any, prefix_len}
use Rattle.std.proofs.lemmas.Slice.Eq.{bytes_eq-Decides}
use Rattle.std.proofs.lemmas.Bool.{and_parts}
use Rattle.std.proofs.lemmas.Bool.Decides.{nat_tests}
use Rattle.exact_values.specs.Rational.{ℚ, zero_ℚ}
use Rattle.exact_values.specs.Tests.{eq_ℚ}
use Rattle.frac128.specs.Operations.{TermsFit}
use Rattle.lp_definitions.specs.LinearProgram.{numbers_from}
use Rattle.card_definitions.specs.Cards.{is_blank}
use Rattle.card_definitions.specs.Numbers.{is_digit}
use Rattle.card_definitions.specs.Words.{named, without_leading}
use Rattle.listing_definitions.specs.declared.At.{At}
use Rattle.listing_definitions.specs.declared.At.TheVariants.{Basic, Outside, Equal, Lower, Upper, Free}
use Rattle.listing_definitions.specs.Numbers.{digits}
use Rattle.listing_definitions.specs.Report.{Value, Code, Number, Absent, Dash, Line}
use Rattle.listing_definitions.specs.Text.{at_text, value_text, number5, name8, values_text, line_text, table_text}
use Rattle.question_definitions.specs.Answers.{Sheet}
use Rattle.answer_definitions.specs.Lines.{name_of, lines_of}
use Rattle.listing_laws.proofs.Cutting.{weaker, heads, cut}
use Rattle.listing_laws.proofs.Digits.{digits_are, digit_there, digits_tell}
use Rattle.walk_definitions.specs.Words.{left_after, ends_word, with_word}
use Rattle.walk_definitions.specs.Tables.{Slot, AnyCode, AnyNumber, Known, all_codes, value_in, slot_in, then_more, values_in, begins, begins_table_line}
use Rattle.walk_definitions.specs.Tables.{line_head, line_of, line_in, table_in, multiplier_in, ray_in}
use Rattle.walk_definitions.proofs.Texts.{stands, is_text}
use Rattle.walk_definitions.proofs.Lines.{whole_line}
use Rattle.fitting_answers.specs.Fitting.{ValuesFit, LinesFit}
use Rattle.own_listing_laws.proofs.Spelled.{IsWord, ReadsFractions, text_first, word_first, done, rational_word}

-- ---- values

abbrev pub Matches : Slot → Value → Type 0
Matches AnyCode (Code at) = Unit {0}
Matches AnyNumber (Number x) = TermsFit x
Matches (Known known) value = known ≡ value
Matches slot value = ⊥

abbrev pub AllMatch : List Slot → List Value → Type 0
AllMatch [] [] = Unit {0}
AllMatch (slot ∷ slots) (value ∷ values) = Matches slot value × AllMatch slots values
AllMatch slots values = ⊥

at_word : (at : At) → IsWord (at_text at)
at_word Basic = refl
at_word Outside = refl
at_word Equal = refl
at_word Lower = refl
at_word Upper = refl
at_word Free = refl

at_named : (at : At) → named all_codes (at_text at) ≡ Some at
at_named Basic = refl
at_named Outside = refl
at_named Equal = refl
at_named Lower = refl
at_named Upper = refl
at_named Free = refl

value_word : (value : Value) → IsWord (value_text value)
value_word (Code at) = at_word at
value_word (Number x) = rational_word x
value_word Absent = refl
value_word Dash = refl

record Next (text : List ℕ) : Type 0 where
  pub byte : ℕ
  pub left : List ℕ
  pub is : text ≡ byte ∷ left
  pub ends : ends_word byte ≡ true

-- a blank or a line feed follows
next_of : (values : List Value) (rest : List ℕ) → Next (values_text values ++ 10 ∷ rest)
next_of [] rest = record { byte = 10; left = rest; is = refl; ends = refl }
next_of (value ∷ values) rest = record { byte = 32; left = (value_text value ++ values_text values) ++ 10 ∷ rest; is = refl; ends = refl }

module _ (of : List ℕ → Option ℚ) (fractions : ReadsFractions of) where
  value_means : (slot : Slot) (value : Value) → Matches slot value → value_in of slot (value_text value) ≡ Some value
  value_means AnyCode (Code at) matches = ap (option_map Code) (at_named at)
  value_means AnyCode (Number x) matches = absurd matches
  value_means AnyCode Absent matches = absurd matches
  value_means AnyCode Dash matches = absurd matches
  value_means AnyNumber (Number x) matches = ap (option_map Number) (fractions.means x matches)
  value_means AnyNumber (Code at) matches = absurd matches
  value_means AnyNumber Absent matches = absurd matches
  value_means AnyNumber Dash matches = absurd matches
  value_means (Known known) value matches =
      ap (λ b. if b then Some known else None) ((bytes_eq-Decides (value_text known) (value_text value)).1 (ap value_text matches))
      ∙ ap (λ (v : Value). Some v) matches

  slot_read : (slot : Slot) (value : Value) (byte : ℕ) (rest : List ℕ) → Matches slot value → ends_word byte ≡ true →
      slot_in of slot (codes " " ++ (value_text value ++ byte ∷ rest)) ≡ Some (value, byte ∷ rest)
  slot_read slot value byte rest matches ends =
      (text_first (codes " ") (with_word (value_in of slot) keep) (value_text value ++ byte ∷ rest) (Some (value, byte ∷ rest))
      (word_first (value_in of slot) (value_text value) value byte rest keep (Some (value, byte ∷ rest)) (value_word value) ends
      (value_means slot value matches) (done (keep value) (byte ∷ rest)))).of
    where
      keep : Value → List ℕ → Option (Value × List ℕ)
      keep value left = Some (value, left)

  values_read : (slots : List Slot) (values : List Value) (rest : List ℕ) → AllMatch slots values →
      values_in of slots (values_text values ++ 10 ∷ rest) ≡ Some (values, 10 ∷ rest)
  values_read [] [] rest match = refl
  values_read [] (value ∷ values) rest match = absurd match
  values_read (slot ∷ slots) [] rest match = absurd match
  values_read (slot ∷ slots) (value ∷ values) rest match =
      let next = next_of values rest in
      let first : slot_in of slot (values_text (value ∷ values) ++ 10 ∷ rest) ≡ Some (value, values_text values ++ 10 ∷ rest) =
      ap (slot_in of slot) (append_assoc (32 ∷ value_text value) (values_text values) (10 ∷ rest))
      ∙ ap (λ r. slot_in of slot (codes " " ++ (value_text value ++ r))) next.is
      ∙ slot_read slot value next.byte next.left match.0 next.ends ∙ ap (λ (r : List ℕ). Some (value, r)) (sym next.is) in
      ap (λ o. then_more o (values_in of slots)) first
      ∙ ap (option_map (λ more. (value ∷ more.0, more.1))) (values_read slots values rest match.1)

-- ---- lines

as_line : (number name values rest : List ℕ) →
    (number ++ ((32 ∷ []) ++ (name ++ (values ++ (10 ∷ []))))) ++ rest ≡ (number ++ (32 ∷ name)) ++ (values ++ 10 ∷ rest)
as_line number name values rest = simp append_assoc

module _ (sheet : Sheet) where
  parted : (k : ℕ) (values : List Value) (rest : List ℕ) → line_text (line_of sheet k values) ++ rest ≡ line_head sheet k ++ (values_text values ++ 10 ∷ rest)
  parted k values rest = as_line (number5 k) (name8 (name_of sheet k)) (values_text values) rest

  line_stands : (k : ℕ) (values : List Value) (rest : List ℕ) →
      left_after (line_head sheet k) (line_text (line_of sheet k values) ++ rest) ≡ Some (values_text values ++ 10 ∷ rest)
  line_stands k values rest = ap (left_after (line_head sheet k)) (parted k values rest) ∙ stands (line_head sheet k) (values_text values ++ 10 ∷ rest)

  module _ (of : List ℕ → Option ℚ) (fractions : ReadsFractions of) where
    line_read : (slots : List Slot) (k : ℕ) (values : List Value) (rest : List ℕ) → AllMatch slots values →
        line_in of sheet slots k (line_text (line_of sheet k values) ++ rest) ≡ Some (line_of sheet k values, rest)
    line_read slots k values rest match =
        whole_line of sheet slots k (line_text (line_of sheet k values) ++ rest) (values_text values ++ 10 ∷ rest) values
        (10 ∷ rest) rest
        (line_stands k values rest) (values_read of fractions slots values rest match) (stands (codes "\n") rest)

  -- ---- tables

  abbrev pub AreMatched : (ℕ → List Slot) → (ℕ → List Value) → List ℕ → Type 0
  AreMatched slots values [] = Unit {0}
  AreMatched slots values (k ∷ ks) = AllMatch (slots k) (values k) × AreMatched slots values ks

  pub matched_of : (slots : ℕ → List Slot) (values : ℕ → List Value) → ((k : ℕ) → ValuesFit (values k) → AllMatch (slots k) (values k)) → (ks : List ℕ) →
      LinesFit (lines_of sheet values ks) →
      AreMatched slots values ks
  matched_of slots values each [] fit = tt
  matched_of slots values each (k ∷ ks) fit = (each k fit.0, matched_of slots values each ks fit.1)

  module _ (of : List ℕ → Option ℚ) (fractions : ReadsFractions of) where
    pub table_read : (slots : ℕ → List Slot) (values : ℕ → List Value) (ks : List ℕ) (rest : List ℕ) → AreMatched slots values ks →
        table_in of sheet slots ks (table_text (lines_of sheet values ks) ++ rest) ≡ Some (lines_of sheet values ks, rest)
    table_read slots values [] rest match = refl
    table_read slots values (k ∷ ks) rest match =
        let line = line_of sheet k (values k) in
        let more = table_text (lines_of sheet values ks) in
        ap (λ r. then_more (line_in of sheet (slots k) k r) (table_in of sheet slots ks))
        (append_assoc (line_text line) more rest)
        ∙ ap (λ o. then_more o (table_in of sheet slots ks)) (line_read of fractions (slots k) k (values k) (more ++ rest) match.0)
        ∙ ap (option_map (λ got. (line ∷ got.0, got.1))) (table_read slots values ks rest match.1)

-- ---- heads of lines

digit_is_no_blank : (x : ℕ) → is_digit x ≡ true → not (is_blank x) ≡ true
digit_is_no_blank x e = grind (arith, nat_tests, e)

-- digits, of which there are some, don't begin with a blank
no_blank_first : (a r s : List ℕ) → list_all is_digit a ≡ true → list_any is_digit a ≡ true → a ++ r ≡ 32 ∷ s → ⊥
no_blank_first [] r s all some e = cc some
no_blank_first (x ∷ a) r s all some e =
    let digit : is_digit 32 ≡ true = ap is_digit (sym (heads x 32 (a ++ r) s e).0) ∙ (and_parts (is_digit x) (list_all is_digit a) all).0 in
    cc digit

-- digits at the right of some places, with a blank after them
right_tells : (j k : ℕ) (a b r s : List ℕ) → list_all is_digit a ≡ true → list_any is_digit a ≡ true → list_all is_digit b ≡ true → list_any is_digit b ≡ true →
    replicate j 32 ++ (a ++ 32 ∷ r) ≡ replicate k 32 ++ (b ++ 32 ∷ s) → a ≡ b
right_tells zero zero a b r s a_all a_some b_all b_some e =
    (cut is_blank a b 32 32 r s (weaker is_digit (λ x. not (is_blank x)) a digit_is_no_blank a_all)
    (weaker is_digit (λ x. not (is_blank x)) b digit_is_no_blank b_all) refl refl e).0
right_tells zero (suc k) a b r s a_all a_some b_all b_some e = absurd (no_blank_first a (32 ∷ r) (replicate k 32 ++ (b ++ 32 ∷ s)) a_all a_some e)
right_tells (suc j) zero a b r s a_all a_some b_all b_some e = absurd (no_blank_first b (32 ∷ s) (replicate j 32 ++ (a ++ 32 ∷ r)) b_all b_some (sym e))
right_tells (suc j) (suc k) a b r s a_all a_some b_all b_some e =
    right_tells j k a b r s a_all a_some b_all b_some (heads 32 32 (replicate j 32 ++ (a ++ 32 ∷ r)) (replicate k 32 ++ (b ++ 32 ∷ s)) e).1

as_head : (blanks number name rest : List ℕ) → ((blanks ++ number) ++ (32 ∷ name)) ++ rest ≡ blanks ++ (number ++ 32 ∷ (name ++ rest))
as_head blanks number name rest = simp append_assoc

blanks_of : ℕ → List ℕ
blanks_of k = replicate (5 - length (digits k)) 32

-- bytes of a kind, and then one that isn't of it
pub past_kind : (p : ℕ → Bool) (a : List ℕ) (c : ℕ) (r : List ℕ) → list_all p a ≡ true → p c ≡ false → without_leading p (a ++ c ∷ r) ≡ c ∷ r
past_kind p [] c r all other = ap (λ b. drop (cond b (1 + prefix_len p r) 0) (c ∷ r)) other
past_kind p (x ∷ a) c r all other =
    let parts = and_parts (p x) (list_all p a) all in
    let next : 1 + prefix_len p (a ++ c ∷ r) ≡ suc (prefix_len p (a ++ c ∷ r)) = omega arith in
    ap (λ b. drop (cond b (1 + prefix_len p (a ++ c ∷ r)) 0) (x ∷ (a ++ c ∷ r))) parts.0 ∙ ap (λ n. drop n (x ∷ (a ++ c ∷ r))) next
    ∙ past_kind p a c r parts.1 other

all_blank : (n : ℕ) → list_all is_blank (replicate n 32) ≡ true
all_blank zero = refl
all_blank (suc n) = all_blank n

digit_alone : (x : ℕ) → is_digit x ≡ true → is_blank x ≡ false
digit_alone x e = grind (arith, nat_tests, e)

digits_begin : (n : ℕ) (ds r : List ℕ) → list_all is_digit ds ≡ true → list_any is_digit ds ≡ true → begins_table_line (replicate n 32 ++ (ds ++ 32 ∷ r)) ≡ true
digits_begin n [] r all some = cc some
digits_begin n (d ∷ ds) r all some =
    let parts = and_parts (is_digit d) (list_all is_digit ds) all in
    ap (λ text. begins is_digit text && begins is_blank (without_leading is_digit text))
    (past_kind is_blank (replicate n 32) d (ds ++ 32 ∷ r) (all_blank n) (digit_alone d parts.0))
    ∙ ap₂ (λ a text. a && begins is_blank text) parts.0 (past_kind is_digit (d ∷ ds) 32 r all refl)

module _ (sheet : Sheet) where
  head_parted : (k : ℕ) (rest : List ℕ) →
      line_head sheet k ++ rest ≡ replicate (5 - length (digits k)) 32 ++ (digits k ++ 32 ∷ (name8 (name_of sheet k) ++ rest))
  head_parted k rest = as_head (replicate (5 - length (digits k)) 32) (digits k) (name8 (name_of sheet k)) rest

  -- two heads at one place are of one variable
  heads_tell : (j k : ℕ) (r s : List ℕ) → line_head sheet j ++ r ≡ line_head sheet k ++ s → j ≡ k
  heads_tell j k r s e =
      digits_tell j k
      (right_tells (5 - length (digits j)) (5 - length (digits k)) (digits j) (digits k) (name8 (name_of sheet j) ++ r) (name8 (name_of sheet k) ++ s)
      (digits_are j) (digit_there j) (digits_are k) (digit_there k) (sym (head_parted j r) ∙ e ∙ head_parted k s))

  no_head_before : (j k : ℕ) (values : List Value) (rest : List ℕ) → j < k → left_after (line_head sheet j) (line_text (line_of sheet k values) ++ rest) ≡ None
  no_head_before j k values rest below = by (left_after (line_head sheet j) (line_text (line_of sheet k values) ++ rest)) refl
    where
      by : (o : Option (List ℕ)) → left_after (line_head sheet j) (line_text (line_of sheet k values) ++ rest) ≡ o → o ≡ None
      by None e = refl
      by (Some left) e =
          let same : j ≡ k =
          heads_tell j k left (values_text values ++ 10 ∷ rest)
          (sym (is_text (line_head sheet j) (line_text (line_of sheet k values) ++ rest) left e) ∙ parted sheet k values rest) in
          absurd (omega (arith, same, below))

  no_head_at_end : (j : ℕ) (after : List ℕ) → begins_table_line after ≡ false → left_after (line_head sheet j) after ≡ None
  no_head_at_end j after other = by (left_after (line_head sheet j) after) refl
    where
      by : (o : Option (List ℕ)) → left_after (line_head sheet j) after ≡ o → o ≡ None
      by None e = refl
      by (Some left) e =
          let begun : begins_table_line after ≡ true =
          ap begins_table_line (is_text (line_head sheet j) after left e ∙ head_parted j left)
          ∙ digits_begin (5 - length (digits j)) (digits j) (name8 (name_of sheet j) ++ left) (digits_are j) (digit_there j) in
          cc (begun, other)

  -- ---- rays

  -- the variables whose number isn't 0
  abbrev pub among : (ℕ → ℚ) → List ℕ → List ℕ
  among w ks = filter (λ k. not (eq_ℚ (w k) zero_ℚ)) ks

  abbrev pub one_value : (ℕ → ℚ) → ℕ → List Value
  one_value w k = Number (w k) ∷ []

  module _ (w : ℕ → ℚ) (after : List ℕ) (other : begins_table_line after ≡ false) where
    abbrev rest_of : List ℕ → List ℕ
    rest_of ks = table_text (lines_of sheet (one_value w) ks) ++ after

    no_head : (j first n : ℕ) → j < first → left_after (line_head sheet j) (rest_of (among w (numbers_from first n))) ≡ None
    no_head j first zero below = no_head_at_end j after other
    no_head j first (suc n) below = by (not (eq_ℚ (w first) zero_ℚ)) (no_head j (suc first) n (omega (arith, below)))
      where
        more : List ℕ
        more = among w (numbers_from (suc first) n)

        by : (b : Bool) → left_after (line_head sheet j) (rest_of more) ≡ None → left_after (line_head sheet j) (rest_of (cond b (first ∷ more) more)) ≡ None
        by true later =
            ap (left_after (line_head sheet j))
            (append_assoc (line_text (line_of sheet first (one_value w first))) (table_text (lines_of sheet (one_value w) more)) after)
            ∙ no_head_before j first (one_value w first) (rest_of more) below
        by false later = later

    module _ (of : List ℕ → Option ℚ) (fractions : ReadsFractions of) where
      multiplier_read : (k : ℕ) (rest : List ℕ) → TermsFit (w k) → eq_ℚ (w k) zero_ℚ ≡ false →
          multiplier_in of sheet k (line_text (line_of sheet k (one_value w k)) ++ rest) ≡ Some
          (line_of sheet k (one_value w k), rest)
      multiplier_read k rest fit apart =
          ap (option_and_then _) (line_read sheet of fractions (AnyNumber ∷ []) k (one_value w k) rest (fit, tt))
          ∙ ap (λ b. if b then None else Some (line_of sheet k (one_value w k), rest)) apart

      pub ray_read : (first n : ℕ) → LinesFit (lines_of sheet (one_value w) (among w (numbers_from first n))) →
          ray_in of sheet (numbers_from first n) (rest_of (among w (numbers_from first n))) ≡ Some
          (lines_of sheet (one_value w) (among w (numbers_from first n)), after)
      ray_read first zero fit = ap (λ b. if b then None else Some ([], after)) other
      ray_read first (suc n) fit = by (eq_ℚ (w first) zero_ℚ) refl fit (ray_read (suc first) n) (no_head first (suc first) n (omega arith))
        where
          more : List ℕ
          more = among w (numbers_from (suc first) n)

          line : Line
          line = line_of sheet first (one_value w first)

          by : (b : Bool) → eq_ℚ (w first) zero_ℚ ≡ b → LinesFit (lines_of sheet (one_value w) (cond (not b) (first ∷ more) more)) →
              (LinesFit (lines_of sheet (one_value w) more) →
              ray_in of sheet (numbers_from (suc first) n) (rest_of more) ≡ Some (lines_of sheet (one_value w) more, after)) →
              left_after (line_head sheet first) (rest_of more) ≡ None →
              ray_in of sheet (numbers_from first (suc n)) (rest_of (cond (not b) (first ∷ more) more)) ≡ Some
              (lines_of sheet (one_value w) (cond (not b) (first ∷ more) more), after)
          by true is fit later none =
              ap (λ (o : Option (List ℕ)). elim o [
                | None ↦ ray_in of sheet (numbers_from (suc first) n) (rest_of more)
                | Some values ↦ then_more (multiplier_in of sheet first (rest_of more))
                    (ray_in of sheet (numbers_from (suc first) n))
              ]) none ∙ later fit
          by false is fit later none =
              let whole : rest_of (first ∷ more) ≡ line_text line ++ rest_of more =
              append_assoc (line_text line) (table_text (lines_of sheet (one_value w) more)) after in
              ap (ray_in of sheet (numbers_from first (suc n))) whole
              ∙ ap (λ (o : Option (List ℕ)). elim o [
                | None ↦ ray_in of sheet (numbers_from (suc first) n) (line_text line ++ rest_of more)
                | Some values ↦ then_more (multiplier_in of sheet first (line_text line ++ rest_of more))
                    (ray_in of sheet (numbers_from (suc first) n))
              ]) (line_stands sheet first (one_value w first) (rest_of more))
              ∙ ap (λ o. then_more o (ray_in of sheet (numbers_from (suc first) n)))
              (multiplier_read first (rest_of more) fit.0.0 is)
              ∙ ap (option_map (λ got. (line ∷ got.0, got.1))) (later fit.1)
