-- What is read tells the text that it was read of, piece by piece.
--     Tells before reads text      what stood before, and what is read, are this text of what was read
--     Spells of text               a word that means something is the text of it
use Rattle.std.proofs.Common.{◌≡◌, ℕ, zero, suc, Bool, true, false, List, [], ◌∷◌, ◌++◌, Option, Some, None, map, take, drop, length, cond, if◌then◌else◌, refl}
use Rattle.std.proofs.Common.{sym, ap, ◌∙◌, append_assoc}
use Rattle.std.specs.Prelude.{option_map, option_and_then, bytes_eq, nat_le, ◌&&◌}
use Rattle.std.specs.List.{find}
use Rattle.std.specs.Option.{option_or}
use Rattle.std.proofs.lemmas.Slice.Eq.{bytes_eq-Decides}
use Rattle.card_definitions.specs.Words.{named}
use Rattle.card_definitions.specs.Numbers.{digits_value}
use Rattle.listing_definitions.specs.Numbers.{digits, rational_text}
use Rattle.walk_definitions.specs.Checkers.{Checker}
use Rattle.walk_definitions.specs.Words.{Parsed, left_after, with_text, word_in, with_word, fraction_in, count_in}
use Rattle.walk_definitions.proofs.Texts.{is_text}
use Rattle.walk_definitions.proofs.Numbers.{text_of_read}

pub record Tells {X : Type 0} (before : List ℕ) (reads : List ℕ → Parsed X) (text : X → List ℕ) : Type 0 where
  pub of : (rest : List ℕ) (got : X × List ℕ) → reads rest ≡ Some got → before ++ rest ≡ text got.0 ++ got.1

pub record Spells {X : Type 0} (of : List ℕ → Option X) (text : X → List ℕ) : Type 0 where
  pub by : (word : List ℕ) (x : X) → of word ≡ Some x → word ≡ text x

-- ---- a text, a word, one of two

pub after_text : {X : Type 0} (before text : List ℕ) (reads : List ℕ → Parsed X) (whole : X → List ℕ) → Tells (before ++ text) reads whole →
    Tells before (with_text text reads) whole
after_text {X} before text reads whole tells = record { of = λ rest got e. by rest got (left_after text rest) refl e }
  where
    by : (rest : List ℕ) (got : X × List ℕ) (o : Option (List ℕ)) → left_after text rest ≡ o → option_and_then reads o ≡ Some got →
        before ++ rest ≡ whole got.0 ++ got.1
    by rest got None first e = absurd (cc e)
    by rest got (Some left) first e = ap (λ r. before ++ r) (is_text text rest left first) ∙ sym (append_assoc before text left) ∙ tells.of left got e

take_drop : (n : ℕ) (xs : List ℕ) → take n xs ++ drop (length (take n xs)) xs ≡ xs
take_drop zero xs = refl
take_drop (suc n) [] = refl
take_drop (suc n) (x ∷ xs) = ap (λ ys. x ∷ ys) (take_drop n xs)

pub after_word : {X Y : Type 0} (before : List ℕ) (of : List ℕ → Option X) (text : X → List ℕ) (reads : X → List ℕ → Parsed Y) (whole : Y → List ℕ) →
    Spells of text →
    ((x : X) → Tells (before ++ text x) (reads x) whole) → Tells before (with_word of reads) whole
after_word {X} {Y} before of text reads whole spells tells = record { of = λ rest got e. by rest got (of (word_in rest)) refl e }
  where
    by : (rest : List ℕ) (got : Y × List ℕ) (o : Option X) → of (word_in rest) ≡ o →
        option_and_then (λ x. reads x (drop (length (word_in rest)) rest)) o ≡ Some got → before ++ rest ≡ whole got.0 ++ got.1
    by rest got None means e = absurd (cc e)
    by rest got (Some x) means e =
        let left = drop (length (word_in rest)) rest in
        let is : rest ≡ text x ++ left = sym (take_drop _ rest) ∙ ap (λ w. w ++ left) (spells.by (word_in rest) x means) in
        ap (λ r. before ++ r) is ∙ sym (append_assoc before (text x) left) ∙ (tells x).of left got e

pub either : {X : Type 0} (before : List ℕ) (one other : List ℕ → Parsed X) (whole : X → List ℕ) → Tells before one whole → Tells before other whole →
    Tells before (λ rest. option_or (one rest) (other rest)) whole
either {X} before one other whole tells tells' = record { of = λ rest got e. by rest got (one rest) refl e }
  where
    by : (rest : List ℕ) (got : X × List ℕ) (o : Parsed X) → one rest ≡ o → option_or o (other rest) ≡ Some got → before ++ rest ≡ whole got.0 ++ got.1
    by rest got None is e = tells'.of rest got e
    by rest got (Some first) is e = tells.of rest got (is ∙ e)

pub never : {X : Type 0} (before : List ℕ) (whole : X → List ℕ) → Tells before (λ rest. None) whole
never {X} before whole = record { of = λ rest got e. absurd (cc e) }

-- ---- the end, and what stands before

pub done : {X : Type 0} (before : List ℕ) (x : X) (whole : X → List ℕ) → before ≡ whole x → Tells before (λ rest. Some (x, rest)) whole
done {X} before x whole is =
    record { of = λ rest got e. let same : (x, rest) ≡ got = cc e in ap (λ b. b ++ rest) is ∙ ap (λ (g : X × List ℕ). whole g.0 ++ g.1) same }

pub unless : {X : Type 0} (refuses : List ℕ → Bool) (before : List ℕ) (reads : List ℕ → Parsed X) (whole : X → List ℕ) → Tells before reads whole →
    Tells before (λ rest. if refuses rest then None else reads rest) whole
unless {X} refuses before reads whole tells = record { of = λ rest got e. by rest got (refuses rest) e }
  where
    by : (rest : List ℕ) (got : X × List ℕ) (b : Bool) → (if b then None else reads rest) ≡ Some got → before ++ rest ≡ whole got.0 ++ got.1
    by rest got true e = absurd (cc e)
    by rest got false e = tells.of rest got e

-- what was read passes a test
pub kept : {X : Type 0} (refuses : X → Bool) (before : List ℕ) (reads : List ℕ → Parsed X) (whole : X → List ℕ) → Tells before reads whole →
    Tells before (λ rest. option_and_then (λ got. if refuses got.0 then None else Some got) (reads rest)) whole
kept {X} refuses before reads whole tells = record { of = λ rest got e. by rest got (reads rest) refl e }
  where
    passed : (got : X × List ℕ) (b : Bool) (y : X × List ℕ) → (if b then None else Some got) ≡ Some y → got ≡ y
    passed got true y e = absurd (cc e)
    passed got false y e = cc e

    by : (rest : List ℕ) (got : X × List ℕ) (o : Parsed X) → reads rest ≡ o → option_and_then (λ got. if refuses got.0 then None else Some got) o ≡ Some got →
        before ++ rest ≡ whole got.0 ++ got.1
    by rest got None read e = absurd (cc e)
    by rest got (Some first) read e = tells.of rest got (read ∙ ap Some (passed first (refuses first.0) got e))

-- one of two, by what stands there
pub by_text : {X : Type 0} (test : List ℕ → Option (List ℕ)) (before : List ℕ) (one other : List ℕ → Parsed X) (whole : X → List ℕ) → Tells before one whole →
    Tells before other whole →
    Tells before (λ rest. elim (test rest) [ None ↦ one rest | Some values ↦ other rest ]) whole
by_text {X} test before one other whole tells tells' = record { of = λ rest got e. by rest got (test rest) e }
  where
    by : (rest : List ℕ) (got : X × List ℕ) (o : Option (List ℕ)) → ◌≡◌ {A = Parsed X} (elim o [ None ↦ one rest | Some values ↦ other rest ]) (Some got) →
        before ++ rest ≡ whole got.0 ++ got.1
    by rest got None e = tells.of rest got e
    by rest got (Some values) e = tells'.of rest got e

pub behind : {X : Type 0} (before : List ℕ) (reads : List ℕ → Parsed X) (text : X → List ℕ) → Tells [] reads text → Tells before reads (λ x. before ++ text x)
behind before reads text tells = record { of = λ rest got e. ap (λ r. before ++ r) (tells.of rest got e) ∙ sym (append_assoc before (text got.0) got.1) }

pub same_before : {X : Type 0} (before front : List ℕ) (reads : List ℕ → Parsed X) (whole : X → List ℕ) → before ≡ front → Tells before reads whole →
    Tells front reads whole
same_before before front reads whole is tells = record { of = λ rest got e. ap (λ b. b ++ rest) (sym is) ∙ tells.of rest got e }

pub same_text : {X : Type 0} (before : List ℕ) (reads : List ℕ → Parsed X) (text whole : X → List ℕ) → Tells before reads text → ((x : X) → text x ≡ whole x) →
    Tells before reads whole
same_text before reads text whole tells is = record { of = λ rest got e. tells.of rest got e ∙ ap (λ b. b ++ got.1) (is got.0) }

-- what is made of what was read
pub made : {X Y : Type 0} (before : List ℕ) (reads : List ℕ → Parsed X) (text : X → List ℕ) (f : X → Y) (whole : Y → List ℕ) → Tells [] reads text →
    ((x : X) → before ++ text x ≡ whole (f x)) →
    Tells before (λ rest. option_map {U = Y × List ℕ} (λ got. (f got.0, got.1)) (reads rest)) whole
made {X} {Y} before reads text f whole tells is = record { of = λ rest got e. by rest got (reads rest) refl e }
  where
    by : (rest : List ℕ) (got : Y × List ℕ) (o : Parsed X) → reads rest ≡ o → option_map {U = Y × List ℕ} (λ got. (f got.0, got.1)) o ≡ Some got →
        before ++ rest ≡ whole got.0 ++ got.1
    by rest got None read e = absurd (cc e)
    by rest got (Some first) read e =
        let same : (f first.0, first.1) ≡ got = cc e in
        ap (λ r. before ++ r) (tells.of rest first read) ∙ sym (append_assoc before (text first.0) first.1) ∙ ap (λ b. b ++ first.1) (is first.0)
        ∙ ap (λ (g : Y × List ℕ). whole g.0 ++ g.1) same

-- ---- words

-- a word of a table whose lines are texts and what they mean
pub named_spells : {X : Type 0} (text : X → List ℕ) (xs : List X) → Spells (named (map (λ x. (text x, x)) xs)) text
named_spells {X} text [] = record { by = λ word x e. absurd (cc e) }
named_spells {X} text (y ∷ xs) = record { by = λ word x e. by word x (bytes_eq (text y) word) (named_spells text xs) refl e }
  where
    by : (word : List ℕ) (x : X) (b : Bool) → Spells (named (map (λ x. (text x, x)) xs)) text → bytes_eq (text y) word ≡ b →
        option_map {T = List ℕ × X} (λ line. line.1) (cond b (Some (text y, y)) (find (λ line. bytes_eq line.0 word) (map (λ x. (text x, x)) xs))) ≡ Some x →
        word ≡ text x
    by word x true later same e = let is : y ≡ x = cc e in sym ((bytes_eq-Decides (text y) word).0 same) ∙ ap text is
    by word x false later other e = later.by word x e

pub meaning : {X Y : Type 0} (of : List ℕ → Option X) (text : X → List ℕ) (f : X → Y) (whole : Y → List ℕ) → Spells of text → ((x : X) → text x ≡ whole (f x)) →
    Spells (λ word. option_map f (of word)) whole
meaning {X} {Y} of text f whole spells is = record { by = λ word y e. by word y (of word) refl e }
  where
    by : (word : List ℕ) (y : Y) (o : Option X) → of word ≡ o → option_map f o ≡ Some y → word ≡ whole y
    by word y None means e = absurd (cc e)
    by word y (Some x) means e = let y_is : f x ≡ y = cc e in spells.by word x means ∙ is x ∙ ap whole y_is

pub fraction_spells : (C : Checker) → Spells (fraction_in C) rational_text
fraction_spells C = record { by = λ word x e. (text_of_read C word x e).0 }

pub count_spells : (most : ℕ) → Spells (count_in most) digits
unfolding count_in
count_spells most = record { by = λ word x e. by word x (nat_le (digits_value word) most) (bytes_eq (digits (digits_value word)) word) refl e }
  where
    by : (word : List ℕ) (x : ℕ) (a b : Bool) → bytes_eq (digits (digits_value word)) word ≡ b → (if a && b then Some (digits_value word) else None) ≡ Some x →
        word ≡ digits x
    by word x true true same e = let is : digits_value word ≡ x = cc e in sym ((bytes_eq-Decides (digits (digits_value word)) word).0 same) ∙ ap digits is
    by word x true false other e = absurd (cc e)
    by word x false b other e = absurd (cc e)
