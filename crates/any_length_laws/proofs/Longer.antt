-- Where a reader that lets long numbers stand reads something, a reader of their values reads it too, or a long number stands there.
--     IsSuffix rest left           so much is left of it
--     HasLong C rest               a word in it is a number that is too long for the checker
--     Reads forms values           what the first reads, the second reads, or a long number stands there; and what is left is left of the text
use Rattle.std.proofs.Common.{◌≡◌, ◌⊎◌, inl, inr, ℕ, pos, subst, Bool, true, false, List, [], ◌∷◌, ◌++◌, Option, Some, None, take, drop, length, if◌then◌else◌}
use Rattle.std.proofs.Common.{refl, sym, ap, ◌∙◌, append_assoc, take-append-drop}
use Rattle.std.specs.Prelude.{option_map, option_and_then}
use Rattle.std.specs.Option.{option_or}
use Rattle.exact_values.specs.Rational.{ℚ, whole}
use Rattle.walk_definitions.specs.Checkers.{Checker}
use Rattle.walk_definitions.specs.Words.{Parsed, left_after, with_text, word_in, with_word, is_long, fraction_in, form_in}
use Rattle.walk_definitions.specs.Tables.{then_more}
use Rattle.walk_definitions.proofs.Texts.{is_text}
use Rattle.any_length_laws.specs.Laws.{HasLong}
use Rattle.any_length_laws.proofs.Readers as readers

abbrev pub IsSuffix : List ℕ → List ℕ → Type 0
IsSuffix rest left = (front : List ℕ) × (rest ≡ front ++ left)

pub whole_suffix : (rest : List ℕ) → IsSuffix rest rest
whole_suffix rest = ([], refl)

pub suffix_of : (rest left last : List ℕ) → IsSuffix rest left → IsSuffix left last → IsSuffix rest last
suffix_of rest left last one two = (one.0 ++ two.0, one.1 ∙ ap (λ l. one.0 ++ l) two.1 ∙ sym (append_assoc one.0 two.0 last))

pub text_suffix : (text rest left : List ℕ) → left_after text rest ≡ Some left → IsSuffix rest left
text_suffix text rest left e = (text, is_text text rest left e)

pub word_suffix : (n : ℕ) (rest : List ℕ) → IsSuffix rest (drop n rest)
word_suffix n rest = (take n rest, sym (take-append-drop n rest))

module _ (C : Checker) where
  pub long_before : (rest left : List ℕ) → IsSuffix rest left → HasLong C left → HasLong C rest
  long_before rest left suffix long = let whole = suffix_of rest left long.1 suffix (long.0, long.2) in (whole.0, long.1, whole.1, long.3)

  pub record Reads {X : Type 0} (forms values : List ℕ → Parsed X) : Type 0 where
    pub agree : (rest : List ℕ) (got : X × List ℕ) → forms rest ≡ Some got → (values rest ≡ Some got) ⊎ HasLong C rest
    pub leaves : (rest : List ℕ) (got : X × List ℕ) → forms rest ≡ Some got → IsSuffix rest got.1

  -- ---- without numbers

  pub done : {X : Type 0} (x : X) → Reads (λ rest. Some (x, rest)) (λ rest. Some (x, rest))
  done {X} x = record { agree = λ rest got e. inl e; leaves = λ rest got e. let left : rest ≡ got.1 = cc e in ([], left) }

  pub nothing : {X : Type 0} → Reads {X = X} (λ rest. None) (λ rest. None)
  nothing {X} = record { agree = λ rest got e. absurd (cc e); leaves = λ rest got e. absurd (cc e) }

  pub unless : {X : Type 0} (refuses : List ℕ → Bool) (x : X) →
      Reads (λ rest. if refuses rest then None else Some (x, rest)) (λ rest. if refuses rest then None else Some (x, rest))
  unless {X} refuses x = record { agree = λ rest got e. inl e; leaves = λ rest got e. by rest got (refuses rest) e }
    where
      by : (rest : List ℕ) (got : X × List ℕ) (b : Bool) → ◌≡◌ {A = Parsed X} (if b then None else Some (x, rest)) (Some got) → IsSuffix rest got.1
      by rest got true e = absurd (cc e)
      by rest got false e = let left : rest ≡ got.1 = cc e in ([], left)

  -- ---- a text, a word, a number

  pub after_text : {X : Type 0} (text : List ℕ) (forms values : List ℕ → Parsed X) → Reads forms values → Reads (with_text text forms) (with_text text values)
  after_text {X} text forms values reads =
      record { agree = λ rest got e. agrees rest got (left_after text rest) refl e; leaves = λ rest got e. left rest got (left_after text rest) refl e }
    where
      agrees : (rest : List ℕ) (got : X × List ℕ) (o : Option (List ℕ)) → left_after text rest ≡ o → option_and_then forms o ≡ Some got →
          (option_and_then values o ≡ Some got) ⊎ HasLong C rest
      agrees rest got None stands e = absurd (cc e)
      agrees rest got (Some after) stands e = lifted (reads.agree after got e)
        where
          lifted : (values after ≡ Some got) ⊎ HasLong C after → (values after ≡ Some got) ⊎ HasLong C rest
          lifted (inl same) = inl same
          lifted (inr long) = inr (long_before rest after (text_suffix text rest after stands) long)

      left : (rest : List ℕ) (got : X × List ℕ) (o : Option (List ℕ)) → left_after text rest ≡ o → option_and_then forms o ≡ Some got → IsSuffix rest got.1
      left rest got None stands e = absurd (cc e)
      left rest got (Some after) stands e = suffix_of rest after got.1 (text_suffix text rest after stands) (reads.leaves after got e)

  module _ {X Y : Type 0} (of other : List ℕ → Option X) (known : (word : List ℕ) → (of word ≡ other word) ⊎ (is_long C word ≡ true))
      (forms values : X → List ℕ → Parsed Y) (reads : (x : X) → Reads (forms x) (values x)) where
    abbrev behind : List ℕ → List ℕ
    behind rest = drop (length (word_in rest)) rest

    abbrev on : (X → List ℕ → Parsed Y) → List ℕ → Option X → Parsed Y
    on next rest o = option_and_then (λ x. next x (behind rest)) o

    word_agrees : (rest : List ℕ) (got : Y × List ℕ) (o : Option X) → on forms rest o ≡ Some got → (on values rest o ≡ Some got) ⊎ HasLong C rest
    word_agrees rest got None e = absurd (cc e)
    word_agrees rest got (Some x) e = lifted ((reads x).agree (behind rest) got e)
      where
        lifted : (values x (behind rest) ≡ Some got) ⊎ HasLong C (behind rest) → (values x (behind rest) ≡ Some got) ⊎ HasLong C rest
        lifted (inl same) = inl same
        lifted (inr long) = inr (long_before rest (behind rest) (word_suffix (length (word_in rest)) rest) long)

    word_leaves : (rest : List ℕ) (got : Y × List ℕ) (o : Option X) → on forms rest o ≡ Some got → IsSuffix rest got.1
    word_leaves rest got None e = absurd (cc e)
    word_leaves rest got (Some x) e = suffix_of rest (behind rest) got.1 (word_suffix (length (word_in rest)) rest) ((reads x).leaves (behind rest) got e)

    pub after_word : Reads (with_word of forms) (with_word other values)
    after_word = record { agree = λ rest got e. by rest got (known (word_in rest)) e; leaves = λ rest got e. word_leaves rest got (of (word_in rest)) e }
      where
        by : (rest : List ℕ) (got : Y × List ℕ) → (of (word_in rest) ≡ other (word_in rest)) ⊎ (is_long C (word_in rest) ≡ true) →
            on forms rest (of (word_in rest)) ≡ Some got →
            (on values rest (other (word_in rest)) ≡ Some got) ⊎ HasLong C rest
        by rest got (inl same) e = word_agrees rest got (other (word_in rest)) (ap (on forms rest) (sym same) ∙ e)
        by rest got (inr long) e = inr ([], rest, refl, long)

  -- the number of a word is that of its form, or it is too long
  pub number_known : (word : List ℕ) → (form_in C word ≡ fraction_in C word) ⊎ (is_long C word ≡ true)
  number_known word = by (is_long C word)
    where
      by : (b : Bool) → ((if b then Some (whole (pos 1)) else fraction_in C word) ≡ fraction_in C word) ⊎ (b ≡ true)
      by true = inr refl
      by false = inl refl

  pub alike : {X : Type 0} (of : List ℕ → Option X) (word : List ℕ) → (of word ≡ of word) ⊎ (is_long C word ≡ true)
  alike of word = inl refl

  -- ---- what is made of what was read

  pub mapped : {X Y : Type 0} (f : X → Y) (forms values : List ℕ → Parsed X) → Reads forms values →
      Reads (λ rest. option_map {U = Y × List ℕ} (λ got. (f got.0, got.1)) (forms rest))
      (λ rest. option_map {U = Y × List ℕ} (λ got. (f got.0, got.1)) (values rest))
  mapped {X} {Y} f forms values reads =
      record { agree = λ rest got e. agrees rest got (forms rest) refl e; leaves = λ rest got e. left rest got (forms rest) refl e }
    where
      agrees : (rest : List ℕ) (got : Y × List ℕ) (o : Parsed X) → forms rest ≡ o → option_map {U = Y × List ℕ} (λ got. (f got.0, got.1)) o ≡ Some got →
          (option_map {U = Y × List ℕ} (λ got. (f got.0, got.1)) (values rest) ≡ Some got) ⊎ HasLong C rest
      agrees rest got None is e = absurd (cc e)
      agrees rest got (Some first) is e = lifted (reads.agree rest first is)
        where
          lifted : (values rest ≡ Some first) ⊎ HasLong C rest →
              (option_map {U = Y × List ℕ} (λ got. (f got.0, got.1)) (values rest) ≡ Some got) ⊎ HasLong C rest
          lifted (inl same) = inl (ap (option_map {U = Y × List ℕ} (λ got. (f got.0, got.1))) same ∙ e)
          lifted (inr long) = inr long

      left : (rest : List ℕ) (got : Y × List ℕ) (o : Parsed X) → forms rest ≡ o → option_map {U = Y × List ℕ} (λ got. (f got.0, got.1)) o ≡ Some got →
          IsSuffix rest got.1
      left rest got None is e = absurd (cc e)
      left rest got (Some first) is e = let last : first.1 ≡ got.1 = cc e in subst (IsSuffix rest) last (reads.leaves rest first is)

  -- what goes on from what was read reads a part of what is left
  pub gone_on : {X Y : Type 0} (f g : X × List ℕ → Parsed Y) (forms values : List ℕ → Parsed X) → Reads forms values →
      ((first : X × List ℕ) (got : Y × List ℕ) → f first ≡ Some got → ((g first ≡ Some got) ⊎ HasLong C first.1) × IsSuffix first.1 got.1) →
      Reads (λ rest. option_and_then f (forms rest)) (λ rest. option_and_then g (values rest))
  gone_on {X} {Y} f g forms values reads later =
      record { agree = λ rest got e. agrees rest got (forms rest) refl e; leaves = λ rest got e. left rest got (forms rest) refl e }
    where
      agrees : (rest : List ℕ) (got : Y × List ℕ) (o : Parsed X) → forms rest ≡ o → option_and_then f o ≡ Some got →
          (option_and_then g (values rest) ≡ Some got) ⊎ HasLong C rest
      agrees rest got None is e = absurd (cc e)
      agrees rest got (Some first) is e = lifted (reads.agree rest first is) (later first got e).0
        where
          lifted : (values rest ≡ Some first) ⊎ HasLong C rest → (g first ≡ Some got) ⊎ HasLong C first.1 →
              (option_and_then g (values rest) ≡ Some got) ⊎ HasLong C rest
          lifted (inr long) on = inr long
          lifted (inl same) (inr long) = inr (long_before rest first.1 (reads.leaves rest first is) long)
          lifted (inl same) (inl on) = inl (ap (option_and_then g) same ∙ on)

      left : (rest : List ℕ) (got : Y × List ℕ) (o : Parsed X) → forms rest ≡ o → option_and_then f o ≡ Some got → IsSuffix rest got.1
      left rest got None is e = absurd (cc e)
      left rest got (Some first) is e = suffix_of rest first.1 got.1 (reads.leaves rest first is) (later first got e).1

  -- one thing, and more after it
  pub more : {X : Type 0} (form value : List ℕ → Parsed X) (forms values : List ℕ → Parsed (List X)) → Reads form value → Reads forms values →
      Reads (λ rest. then_more (form rest) forms) (λ rest. then_more (value rest) values)
  more {X} form value forms values first later =
      record { agree = λ rest got e. agrees rest got (form rest) refl e; leaves = λ rest got e. left rest got (form rest) refl e }
    where
      joined : X → (List ℕ → Parsed (List X)) → List ℕ → Parsed (List X)
      joined x reads rest = option_map {U = List X × List ℕ} (λ more. (x ∷ more.0, more.1)) (reads rest)

      agrees : (rest : List ℕ) (got : List X × List ℕ) (o : Parsed X) → form rest ≡ o → then_more o forms ≡ Some got →
          (then_more (value rest) values ≡ Some got) ⊎ HasLong C rest
      agrees rest got None is e = absurd (cc e)
      agrees rest got (Some one) is e = lifted (first.agree rest one is) ((mapped (λ xs. one.0 ∷ xs) forms values later).agree one.1 got e)
        where
          lifted : (value rest ≡ Some one) ⊎ HasLong C rest →
              (option_map {U = List X × List ℕ} (λ more. (one.0 ∷ more.0, more.1)) (values one.1) ≡ Some got) ⊎ HasLong C one.1 →
              (then_more (value rest) values ≡ Some got) ⊎ HasLong C rest
          lifted (inr long) on = inr long
          lifted (inl same) (inr long) = inr (long_before rest one.1 (first.leaves rest one is) long)
          lifted (inl same) (inl on) = inl (ap (λ o. then_more o values) same ∙ on)

      left : (rest : List ℕ) (got : List X × List ℕ) (o : Parsed X) → form rest ≡ o → then_more o forms ≡ Some got → IsSuffix rest got.1
      left rest got None is e = absurd (cc e)
      left rest got (Some one) is e = suffix_of rest one.1 got.1 (first.leaves rest one is) ((mapped (λ xs. one.0 ∷ xs) forms values later).leaves one.1 got e)

  -- one of two, by what stands there
  pub by_text : {X : Type 0} (test : List ℕ → Option (List ℕ)) (form forms value values : List ℕ → Parsed X) → Reads form value → Reads forms values →
      Reads (λ rest. elim (test rest) [ None ↦ form rest | Some left ↦ forms rest ]) (λ rest. elim (test rest) [ None ↦ value rest | Some left ↦ values rest ])
  by_text {X} test form forms value values one two =
      record { agree = λ rest got e. agrees rest got (test rest) e; leaves = λ rest got e. left rest got (test rest) e }
    where
      agrees : (rest : List ℕ) (got : X × List ℕ) (o : Option (List ℕ)) → ◌≡◌ {A = Parsed X} (elim o [ None ↦ form rest | Some left ↦ forms rest ]) (Some got) →
          (◌≡◌ {A = Parsed X} (elim o [ None ↦ value rest | Some left ↦ values rest ]) (Some got)) ⊎ HasLong C rest
      agrees rest got None e = one.agree rest got e
      agrees rest got (Some at) e = two.agree rest got e

      left : (rest : List ℕ) (got : X × List ℕ) (o : Option (List ℕ)) → ◌≡◌ {A = Parsed X} (elim o [ None ↦ form rest | Some left ↦ forms rest ]) (Some got) →
          IsSuffix rest got.1
      left rest got None e = one.leaves rest got e
      left rest got (Some at) e = two.leaves rest got e

  -- one of two, where the first form reads all that its values are read of
  pub either : {X : Type 0} (form forms value values : List ℕ → Parsed X) → readers.Widens value form → Reads form value → Reads forms values →
      Reads (λ rest. option_or (form rest) (forms rest)) (λ rest. option_or (value rest) (values rest))
  either {X} form forms value values widens one two =
      record { agree = λ rest got e. agrees rest got (form rest) refl e; leaves = λ rest got e. left rest got (form rest) refl e }
    where
      agrees : (rest : List ℕ) (got : X × List ℕ) (o : Parsed X) → form rest ≡ o → option_or o (forms rest) ≡ Some got →
          (option_or (value rest) (values rest) ≡ Some got) ⊎ HasLong C rest
      agrees rest got (Some first) is e = lifted (one.agree rest first is)
        where
          lifted : (value rest ≡ Some first) ⊎ HasLong C rest → (option_or (value rest) (values rest) ≡ Some got) ⊎ HasLong C rest
          lifted (inl same) = inl (ap (λ o. option_or o (values rest)) same ∙ e)
          lifted (inr long) = inr long
      agrees rest got None is e = lifted (two.agree rest got e)
        where
          no_value : (o : Parsed X) → value rest ≡ o → o ≡ None
          no_value None valued = refl
          no_value (Some first) valued = let formed : None ≡ Some first = sym is ∙ widens.by rest first valued in absurd (cc formed)

          lifted : (values rest ≡ Some got) ⊎ HasLong C rest → (option_or (value rest) (values rest) ≡ Some got) ⊎ HasLong C rest
          lifted (inl same) = inl (ap (λ o. option_or o (values rest)) (no_value (value rest) refl) ∙ same)
          lifted (inr long) = inr long

      left : (rest : List ℕ) (got : X × List ℕ) (o : Parsed X) → form rest ≡ o → option_or o (forms rest) ≡ Some got → IsSuffix rest got.1
      left rest got None is e = two.leaves rest got e
      left rest got (Some first) is e = let same : first ≡ got = cc e in one.leaves rest got (is ∙ ap Some same)
