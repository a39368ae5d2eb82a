-- Lines of zeros into which the columns are written, one after the other.
use Rattle.std.specs.Prelude.{eqb}
use Rattle.std.proofs.Common.{◌≡◌, ◌≢◌, ℕ, suc, ◌+◌, ◌-◌, ◌<◌, ◌⊎◌, inl, inr, List, ◌∷◌, length, get_or, set, drop, sym, ◌∙◌, ap, true, false, cond, leb, subst}
use Rattle.std.proofs.Common.{arith}
use Rattle.std.proofs.lemmas.Bool.{eq-eqb}
use Rattle.std.proofs.lemmas.Bool.Decides.{eqb_tells}
use Rattle.std.proofs.lemmas.List.{get_or-set_same, get_or-set_other, get_or_default, length-set}
use Rattle.std.proofs.Math.Seq.{drop-cons}
use Rattle.exact_values.specs.Rational.{ℚ, zero_ℚ}
use Rattle.lp_definitions.specs.LinearProgram.{Matrix, size, on_row, column, entry, IsVariable, value_at}
use Rattle.lp_definitions.specs.declared.Entry.{Entry}
use Rattle.rates_dense.specs.declared.line.Line.{Line}
use Rattle.rates_dense.specs.Lines.{HasPlaces, IsNumberOf, IsWritten}
use Rattle.rates_dense.specs.Opening.{opening_entry, AreWritten}

-- ---- one column

-- the last write counts
written_then : (j : ℕ) (u v : ℚ) (old before after : Line) → IsWritten j u old before → IsWritten j v before after → IsWritten j v old after
written_then j u v old before after first then = record {
  same_basic = then.same_basic ∙ first.same_basic;
  same_places = then.same_places ∙ first.same_places;
  same_room = then.same_room ∙ first.same_room;
  there = then.there;
  others = λ k low other. then.others k low other ∙ first.others k low other;
}

-- the number before those that are written
pub written_more : (j : ℕ) (c : List Entry) (old now : List Line) (n later : ℕ) (e : Entry) (f after : Line) → n < length c → later ≡ n + 1 → e ≡ get_or c n e
    → IsNumberOf (length old) e.row
    → IsWritten j e.value (get_or now (e.row - 1) f) after → AreWritten j (drop later c) old now → AreWritten j (drop n c) old (set now (e.row - 1) after)
written_more j c old now n later e f after within is_later is_e number change so_far = record {
  counted = length-set now place after ∙ so_far.counted;
  each = λ slot d below. at slot d below (eqb_tells slot place);
}
  where
    place : ℕ
    place = e.row - 1

    next : suc n ≡ later
    next = omega (arith, is_later)

    is_list : drop n c ≡ e ∷ drop later c
    is_list = drop-cons c n e within ∙ ap (λ (x : Entry). x ∷ drop (suc n) c) (sym is_e) ∙ ap (λ m. e ∷ drop m c) next

    in_now : place < length now
    in_now = omega (arith, so_far.counted, number.0, number.1)

    at : (slot : ℕ) (d : Line) → slot < length old → ((eqb slot place ≡ true) × (slot ≡ place)) ⊎ ((eqb slot place ≡ false) × (slot ≢ place)) →
        IsWritten j (on_row (drop n c) (slot + 1)) (get_or old slot d) (get_or (set now place after) slot d)
    at slot d below (inl same) =
        let is_row : e.row ≡ slot + 1 = omega (arith, same.1, number.0) in
        let number_there : e.value ≡ on_row (drop n c) (slot + 1) =
        sym (ap (λ (es : List Entry). on_row es (slot + 1)) is_list
        ∙ ap (λ m. cond m e.value (on_row (drop later c) (slot + 1))) (eq-eqb e.row (slot + 1) is_row)) in
        let was : get_or now slot d ≡ get_or now place f = ap (λ m. get_or now m d) same.1 ∙ get_or_default now place d f in_now in
        let is : after ≡ get_or (set now place after) slot d =
        sym (ap (λ m. get_or (set now place after) m d) same.1 ∙ get_or-set_same now place after d in_now) in
        subst (λ (v : ℚ). IsWritten j v (get_or old slot d) (get_or (set now place after) slot d)) number_there
        (subst (λ (line : Line). IsWritten j e.value (get_or old slot d) line) is
        (written_then j (on_row (drop later c) (slot + 1)) e.value (get_or old slot d) (get_or now place f) after
        (subst (λ (line : Line). IsWritten j (on_row (drop later c) (slot + 1)) (get_or old slot d) line) was (so_far.each slot d below)) change))
    at slot d below (inr other) =
        let apart : eqb e.row (slot + 1) ≡ false =
        elim (eqb_tells e.row (slot + 1)) [ inl same ↦ absurd (other.1 (omega (arith, same.1))) | inr differs ↦ differs.0 ] in
        let number_there : on_row (drop later c) (slot + 1) ≡ on_row (drop n c) (slot + 1) =
        sym (ap (λ (es : List Entry). on_row es (slot + 1)) is_list ∙ ap (λ m. cond m e.value (on_row (drop later c) (slot + 1))) apart) in
        let is : get_or now slot d ≡ get_or (set now place after) slot d = sym (get_or-set_other now place slot after d other.1) in
        subst (λ (v : ℚ). IsWritten j v (get_or old slot d) (get_or (set now place after) slot d)) number_there
        (subst (λ (line : Line). IsWritten j (on_row (drop later c) (slot + 1)) (get_or old slot d) line) is (so_far.each slot d below))

-- ---- one column after the other

-- the line of row i has its entries at the first n variables, and zeros at the others
pub record IsLineTo (a : Matrix) (i n : ℕ) (line : Line) : Type 0 where
  pub own : line.basic ≡ i
  pub places : HasPlaces (size a) line
  pub entries : (k : ℕ) → IsVariable a k → value_at line.rates.items k ≡ cond (leb k n) (opening_entry a i k) zero_ℚ

pub record AreLinesTo (a : Matrix) (n : ℕ) (lines : List Line) : Type 0 where
  pub counted : length lines ≡ a.rows
  pub each : (slot : ℕ) (d : Line) → slot < a.rows → IsLineTo a (slot + 1) n (get_or lines slot d)

module _ (a : Matrix) where
  module _ (m : ℕ) where
    abbrev j : ℕ
    j = a.rows + m + 1

    pub lines_more : (old new : List Line) → AreLinesTo a (a.rows + m) old → AreWritten j (column a (m + 1)) old new → AreLinesTo a (a.rows + (m + 1)) new
    lines_more old new are written = record {
      counted = written.counted ∙ are.counted;
      each = λ slot d below.
          let was = are.each slot d below in
          let w = written.each slot d (omega (arith, are.counted, below)) in
          record {
            own = w.same_basic ∙ was.own;
            places = record { places = w.same_places ∙ was.places.places; room = w.same_room ∙ was.places.room };
            entries = λ k var. at slot d below k var (eqb_tells k j);
          };
    }
      where
        at : (slot : ℕ) (d : Line) → slot < a.rows → (k : ℕ) → IsVariable a k → ((eqb k j ≡ true) × (k ≡ j)) ⊎ ((eqb k j ≡ false) × (k ≢ j)) →
            value_at (get_or new slot d).rates.items k ≡ cond (leb k (a.rows + (m + 1))) (opening_entry a (slot + 1) k) zero_ℚ
        at slot d below k var (inl same) =
            let number : j - a.rows ≡ m + 1 = omega arith in
            let low : leb j (a.rows + (m + 1)) ≡ true = grind arith in
            let high : leb j a.rows ≡ false = grind arith in
            let is : opening_entry a (slot + 1) j ≡ on_row (column a (m + 1)) (slot + 1) =
            ap (λ b. cond b zero_ℚ (entry a (slot + 1) (j - a.rows))) high ∙ ap (λ n. entry a (slot + 1) n) number in
            subst (λ n. value_at (get_or new slot d).rates.items n ≡ cond (leb n (a.rows + (m + 1))) (opening_entry a (slot + 1) n) zero_ℚ) (sym same.1)
            ((written.each slot d (omega (arith, are.counted, below))).there ∙ sym is ∙ sym (ap (λ b. cond b (opening_entry a (slot + 1) j) zero_ℚ) low))
        at slot d below k var (inr other) =
            let same_side : leb k (a.rows + m) ≡ leb k (a.rows + (m + 1)) = grind (arith, other.1) in
            (written.each slot d (omega (arith, are.counted, below))).others k var.0 other.1
            ∙ (are.each slot d below).entries k var ∙ ap (λ b. cond b (opening_entry a (slot + 1) k) zero_ℚ) same_side
