-- Readers of which the one reads all that the other reads, and reads it alike.
--     Widens reads others          what the first reads, the second does
use Rattle.std.proofs.Common.{◌≡◌, ℕ, List, ◌∷◌, Option, Some, None, drop, length, refl, ap, ◌∙◌}
use Rattle.std.specs.Prelude.{option_map, option_and_then}
use Rattle.std.specs.Option.{option_or}
use Rattle.walk_definitions.specs.Words.{Parsed, left_after, with_text, word_in, with_word}
use Rattle.walk_definitions.specs.Tables.{then_more}

pub record Widens {X : Type 0} (reads others : List ℕ → Option X) : Type 0 where
  pub by : (rest : List ℕ) (x : X) → reads rest ≡ Some x → others rest ≡ Some x

pub same : {X : Type 0} (reads : List ℕ → Option X) → Widens reads reads
same reads = record { by = λ rest x e. e }

pub after_text : {X : Type 0} (text : List ℕ) (reads others : List ℕ → Option X) → Widens reads others → Widens (with_text text reads) (with_text text others)
after_text {X} text reads others widens = record { by = λ rest x e. at (left_after text rest) x e }
  where
    at : (o : Option (List ℕ)) (x : X) → option_and_then reads o ≡ Some x → option_and_then others o ≡ Some x
    at None x e = absurd (cc e)
    at (Some left) x e = widens.by left x e

pub after_word : {X Y : Type 0} (of other : List ℕ → Option X) (reads others : X → List ℕ → Option Y) →
    ((word : List ℕ) (x : X) → of word ≡ Some x → other word ≡ Some x) → ((x : X) → Widens (reads x) (others x)) →
    Widens (with_word of reads) (with_word other others)
after_word {X} {Y} of other reads others means widens = record { by = λ rest y e. at rest y (of (word_in rest)) refl e }
  where
    at : (rest : List ℕ) (y : Y) (o : Option X) → of (word_in rest) ≡ o → option_and_then (λ x. reads x (drop (length (word_in rest)) rest)) o ≡ Some y →
        option_and_then (λ x. others x (drop (length (word_in rest)) rest)) (other (word_in rest)) ≡ Some y
    at rest y None is e = absurd (cc e)
    at rest y (Some x) is e =
        ap (option_and_then (λ x. others x (drop (length (word_in rest)) rest))) (means (word_in rest) x is)
        ∙ (widens x).by (drop (length (word_in rest)) rest) y e

pub mapped : {X Y : Type 0} (f : X → Y) (reads others : List ℕ → Option X) → Widens reads others →
    Widens (λ rest. option_map f (reads rest)) (λ rest. option_map f (others rest))
mapped {X} {Y} f reads others widens = record { by = λ rest y e. at rest y (reads rest) refl e }
  where
    at : (rest : List ℕ) (y : Y) (o : Option X) → reads rest ≡ o → option_map f o ≡ Some y → option_map f (others rest) ≡ Some y
    at rest y None is e = absurd (cc e)
    at rest y (Some x) is e = ap (option_map f) (widens.by rest x is) ∙ e

-- what is made of what was read, which may read on
pub gone_on : {X Y : Type 0} (f g : X → Option Y) (reads others : List ℕ → Option X) → Widens reads others → ((x : X) (y : Y) → f x ≡ Some y → g x ≡ Some y) →
    Widens (λ rest. option_and_then f (reads rest)) (λ rest. option_and_then g (others rest))
gone_on {X} {Y} f g reads others widens on = record { by = λ rest y e. at rest y (reads rest) refl e }
  where
    at : (rest : List ℕ) (y : Y) (o : Option X) → reads rest ≡ o → option_and_then f o ≡ Some y → option_and_then g (others rest) ≡ Some y
    at rest y None is e = absurd (cc e)
    at rest y (Some x) is e = ap (option_and_then g) (widens.by rest x is) ∙ on x y e

-- one thing, and more after it
pub more : {X : Type 0} (one other : List ℕ → Parsed X) (reads others : List ℕ → Parsed (List X)) → Widens one other → Widens reads others →
    Widens (λ rest. then_more (one rest) reads) (λ rest. then_more (other rest) others)
more {X} one other reads others first later = record { by = λ rest got e. at rest got (one rest) refl e }
  where
    joined : (x : X) (left : List ℕ) (got : List X × List ℕ) (o : Parsed (List X)) → reads left ≡ o →
        option_map {U = List X × List ℕ} (λ more. (x ∷ more.0, more.1)) o ≡ Some got →
        option_map {U = List X × List ℕ} (λ more. (x ∷ more.0, more.1)) (others left) ≡ Some got
    joined x left got None is e = absurd (cc e)
    joined x left got (Some rest) is e = ap (option_map {U = List X × List ℕ} (λ more. (x ∷ more.0, more.1))) (later.by left rest is) ∙ e

    at : (rest : List ℕ) (got : List X × List ℕ) (o : Parsed X) → one rest ≡ o → then_more o reads ≡ Some got → then_more (other rest) others ≡ Some got
    at rest got None is e = absurd (cc e)
    at rest got (Some x) is e = ap (λ o. then_more o others) (first.by rest x is) ∙ joined x.0 x.1 got (reads x.1) refl e

-- one of two, by what stands there
pub by_text : {X : Type 0} (test : List ℕ → Option (List ℕ)) (one two other another : List ℕ → Option X) → Widens one other → Widens two another →
    Widens (λ rest. elim (test rest) [ None ↦ one rest | Some values ↦ two rest ]) (λ rest. elim (test rest) [ None ↦ other rest | Some values ↦ another rest ])
by_text {X} test one two other another widens widens' = record { by = λ rest x e. at rest x (test rest) e }
  where
    at : (rest : List ℕ) (x : X) (o : Option (List ℕ)) → ◌≡◌ {A = Option X} (elim o [ None ↦ one rest | Some values ↦ two rest ]) (Some x) →
        ◌≡◌ {A = Option X} (elim o [ None ↦ other rest | Some values ↦ another rest ]) (Some x)
    at rest x None e = widens.by rest x e
    at rest x (Some values) e = widens'.by rest x e

-- one of two, where the first still reads nothing that the second reads
pub either : {X : Type 0} (one two other another : List ℕ → Option X) → Widens one other → Widens two another →
    ((rest : List ℕ) (x : X) → one rest ≡ None → two rest ≡ Some x → other rest ≡ None) →
    Widens (λ rest. option_or (one rest) (two rest)) (λ rest. option_or (other rest) (another rest))
either {X} one two other another widens widens' apart = record { by = λ rest x e. at rest x (one rest) refl e }
  where
    at : (rest : List ℕ) (x : X) (o : Option X) → one rest ≡ o → option_or o (two rest) ≡ Some x → option_or (other rest) (another rest) ≡ Some x
    at rest x None is e = ap (λ o. option_or o (another rest)) (apart rest x is e) ∙ widens'.by rest x e
    at rest x (Some y) is e = ap (λ o. option_or o (another rest)) (widens.by rest y is) ∙ e

-- where a text stands at the beginning
pub text_stands : {X : Type 0} (text : List ℕ) (reads : List ℕ → Option X) (rest : List ℕ) (x : X) → with_text text reads rest ≡ Some x →
    (left : List ℕ) × (left_after text rest ≡ Some left)
text_stands {X} text reads rest x e = at (left_after text rest) refl e
  where
    at : (o : Option (List ℕ)) → left_after text rest ≡ o → option_and_then reads o ≡ Some x → (left : List ℕ) × (left_after text rest ≡ Some left)
    at None is e = absurd (cc e)
    at (Some left) is e = (left, is)
