-- Values, lines and tables, read one after another.
use Rattle.std.proofs.Common.{◌≡◌, ℕ, ◌+◌, ◌-◌, ◌<◌, zero, suc, List, [], ◌∷◌, ◌++◌, Option, Some, None, refl, sym, ap, ap₂, ◌∙◌, append_assoc, append-nil}
use Rattle.std.proofs.Common.{arith}
use Rattle.std.specs.Prelude.{option_map, option_and_then, codes}
use Rattle.exact_values.specs.Rational.{ℚ}
use Rattle.lp_definitions.specs.LinearProgram.{numbers_from}
use Rattle.listing_definitions.specs.Report.{Value, Line}
use Rattle.question_definitions.specs.Answers.{Sheet}
use Rattle.walk_definitions.specs.Words.{Parsed, left_after}
use Rattle.walk_definitions.specs.Tables.{Slot, slot_in, then_more, values_in, line_head, line_of, line_in, table_in}

-- these stand before what else is read
abbrev pub prefixed : {X : Type 0} → List X → Parsed (List X) → Parsed (List X)
prefixed xs o = option_map (λ more. (xs ++ more.0, more.1)) o

pub prefixed_none : {X : Type 0} (o : Parsed (List X)) → prefixed [] o ≡ o
prefixed_none None = refl
prefixed_none (Some got) = refl

pub prefixed_twice : {X : Type 0} (xs ys : List X) (o : Parsed (List X)) → prefixed xs (prefixed ys o) ≡ prefixed (xs ++ ys) o
prefixed_twice xs ys None = refl
prefixed_twice xs ys (Some got) = ap (λ zs. Some (zs, got.1)) (sym (append_assoc xs ys got.0))

-- ---- values

-- some values, and more after them
abbrev pub then_all : {X : Type 0} → Parsed (List X) → (List ℕ → Parsed (List X)) → Parsed (List X)
then_all None reads = None
then_all (Some got) reads = prefixed got.0 (reads got.1)

pub values_both : (of : List ℕ → Option ℚ) (ss ts : List Slot) (rest : List ℕ) →
    values_in of (ss ++ ts) rest ≡ then_all (values_in of ss rest) (values_in of ts)
values_both of [] ts rest = sym (prefixed_none (values_in of ts rest))
values_both of (s ∷ ss) ts rest = by (slot_in of s rest) (λ left. values_both of ss ts left)
  where
    joined : (v : Value) (o : Parsed (List Value)) →
        option_map (λ more. (v ∷ more.0, more.1)) (then_all o (values_in of ts)) ≡ then_all (option_map (λ more. (v ∷ more.0, more.1)) o) (values_in of ts)
    joined v None = refl
    joined v (Some got) = prefixed_twice (v ∷ []) got.0 (values_in of ts got.1)

    by : (o : Parsed Value) → ((left : List ℕ) → values_in of (ss ++ ts) left ≡ then_all (values_in of ss left) (values_in of ts)) →
        then_more o (values_in of (ss ++ ts)) ≡ then_all (then_more o (values_in of ss)) (values_in of ts)
    by None later = refl
    by (Some got) later = ap (option_map (λ more. (got.0 ∷ more.0, more.1))) (later got.1) ∙ joined got.0 (values_in of ss got.1)

pub one_value : (of : List ℕ → Option ℚ) (s : Slot) (rest : List ℕ) → values_in of (s ∷ []) rest ≡ option_map (λ got. (got.0 ∷ [], got.1)) (slot_in of s rest)
one_value of s rest = by (slot_in of s rest)
  where
    by : (o : Parsed Value) → then_more o (values_in of []) ≡ option_map (λ got. (got.0 ∷ [], got.1)) o
    by None = refl
    by (Some got) = refl

-- ---- lines and tables

module _ (of : List ℕ → Option ℚ) (sheet : Sheet) where
  abbrev ended_line : ℕ → List Value × List ℕ → Parsed Line
  ended_line k got = option_map (λ left. (line_of sheet k got.0, left)) (left_after (codes "\n") got.1)

  -- its head, its values, and its end
  pub whole_line : (slots : List Slot) (k : ℕ) (rest left : List ℕ) (values : List Value) (last after : List ℕ) →
      left_after (line_head sheet k) rest ≡ Some left → values_in of slots left ≡ Some (values, last) →
      left_after (codes "\n") last ≡ Some after → line_in of sheet slots k rest ≡ Some (line_of sheet k values, after)
  whole_line slots k rest left values last after head is end =
      ap (option_and_then (ended_line k)) (ap (option_and_then (values_in of slots)) head ∙ is) ∙ ap (option_map (λ left. (line_of sheet k values, left))) end

  pub no_head : (slots : List Slot) (k : ℕ) (rest : List ℕ) → left_after (line_head sheet k) rest ≡ None → line_in of sheet slots k rest ≡ None
  no_head slots k rest head = ap (λ o. option_and_then (ended_line k) (option_and_then (values_in of slots) o)) head

  pub no_values : (slots : List Slot) (k : ℕ) (rest left : List ℕ) → left_after (line_head sheet k) rest ≡ Some left → values_in of slots left ≡ None →
      line_in of sheet slots k rest ≡ None
  no_values slots k rest left head none = ap (option_and_then (ended_line k)) (ap (option_and_then (values_in of slots)) head ∙ none)

  pub no_end : (slots : List Slot) (k : ℕ) (rest left : List ℕ) (values : List Value) (last : List ℕ) → left_after (line_head sheet k) rest ≡ Some left →
      values_in of slots left ≡ Some (values, last) →
      left_after (codes "\n") last ≡ None → line_in of sheet slots k rest ≡ None
  no_end slots k rest left values last head is none =
      ap (option_and_then (ended_line k)) (ap (option_and_then (values_in of slots)) head ∙ is) ∙ ap (option_map (λ left. (line_of sheet k values, left))) none

  -- a table of which some lines were read
  module _ (slots : ℕ → List Slot) where
    pub one_more : (lines : List Line) (k : ℕ) (ks : List ℕ) (rest : List ℕ) (line : Line) (after : List ℕ) (whole : Parsed (List Line)) →
        whole ≡ prefixed lines (table_in of sheet slots (k ∷ ks) rest) →
        line_in of sheet (slots k) k rest ≡ Some (line, after) → whole ≡ prefixed (lines ++ line ∷ []) (table_in of sheet slots ks after)
    one_more lines k ks rest line after whole so_far is =
        so_far ∙ ap (λ o. prefixed lines (then_more o (table_in of sheet slots ks))) is ∙ prefixed_twice lines (line ∷ []) (table_in of sheet slots ks after)

    pub no_more : (lines : List Line) (k : ℕ) (ks : List ℕ) (rest : List ℕ) (whole : Parsed (List Line)) →
        whole ≡ prefixed lines (table_in of sheet slots (k ∷ ks) rest) →
        line_in of sheet (slots k) k rest ≡ None → whole ≡ None
    no_more lines k ks rest whole so_far none = so_far ∙ ap (λ o. prefixed lines (then_more o (table_in of sheet slots ks))) none

    pub all_read : (lines : List Line) (rest : List ℕ) (whole : Parsed (List Line)) → whole ≡ prefixed lines (table_in of sheet slots [] rest) →
        whole ≡ Some (lines, rest)
    all_read lines rest whole so_far = so_far ∙ ap (λ ls. Some (ls, rest)) (append-nil lines)

-- the next number of some that are left
pub next_number : (k left : ℕ) → 0 < left → numbers_from k left ≡ k ∷ numbers_from (k + 1) (left - 1)
next_number k (suc left) some =
    let next : suc k ≡ k + 1 = omega arith in let rest : left ≡ suc left - 1 = omega arith in ap₂ (λ n m. k ∷ numbers_from n m) next rest
next_number k zero some = absurd (omega arith)
