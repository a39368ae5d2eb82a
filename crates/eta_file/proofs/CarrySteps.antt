-- What one entry more makes of a list that is filled along an eta or a column.
use Rattle.std.proofs.Common.{◌≡◌, ◌≢◌, ℕ, suc, ◌+◌, ◌-◌, ◌<◌, ◌≤◌, ◌⊎◌, inl, inr, List, length, take, get_or, set, map, refl, sym, ◌∙◌, ap, true, false, cond}
use Rattle.std.proofs.Common.{arith, add-one}
use Rattle.std.specs.Prelude.{nat_eq, eqb}
use Rattle.std.specs.List.{IsDistinct}
use Rattle.std.proofs.lemmas.Bool.Decides.{eqb_tells}
use Rattle.std.proofs.lemmas.List.{get_or-set_same, get_or-set_other, get_or_default}
use Rattle.exact_values.specs.Rational.{ℚ, zero_ℚ, ◌+ℚ◌, ◌-ℚ◌, ◌*ℚ◌}
use Rattle.exact_values.proofs.Ring.{by_ring4, ◌⊕◌, ◌⊖◌, ◌⊗◌, ◌≐◌}
use Rattle.exact_values.proofs.RingLaws.{add-zero, zero-add, mul-zero}
use Rattle.lp_laws.proofs.Values.{sub-zero}
use Rattle.lp_laws.proofs.Places.{value_at_place}
use Rattle.lp_definitions.specs.LinearProgram.{on_row, value_at}
use Rattle.lp_definitions.specs.declared.Entry.{Entry}
use Rattle.eta_file.specs.declared.eta.EtaEntry.{EtaEntry}
use Rattle.eta_file.specs.Entries.{sum_rate, rate_where, others, IsEntryWithin, AreApart}
use Rattle.eta_file.proofs.EntryLaws.{sum_rate-take, others-take, others-take_le, on_row-take_same, on_row-take_other}

module _ (es : List EtaEntry) (n : ℕ) (e : EtaEntry) (below : n < length es) (is : e ≡ get_or es n e) where
  next : take (n + 1) es ≡ take (suc n) es
  next = ap (λ k. take k es) (add-one n)

  pub sum_next_same : (k : ℕ) → e.i ≡ k → sum_rate (take (n + 1) es) k ≡ sum_rate (take n es) k +ℚ e.rate
  sum_next_same k same =
      let here : nat_eq e.i k ≡ true = grind (arith, same) in
      ap (λ xs. sum_rate xs k) next ∙ sum_rate-take es n e k below ∙ ap (λ (x : EtaEntry). sum_rate (take n es) k +ℚ rate_where x k) (sym is)
      ∙ ap (λ t. sum_rate (take n es) k +ℚ cond t e.rate zero_ℚ) here

  pub sum_next_other : (k : ℕ) → e.i ≢ k → sum_rate (take (n + 1) es) k ≡ sum_rate (take n es) k
  sum_next_other k other =
      let away : nat_eq e.i k ≡ false = grind (arith, other) in
      ap (λ xs. sum_rate xs k) next ∙ sum_rate-take es n e k below ∙ ap (λ (x : EtaEntry). sum_rate (take n es) k +ℚ rate_where x k) (sym is)
      ∙ ap (λ t. sum_rate (take n es) k +ℚ cond t e.rate zero_ℚ) away ∙ add-zero (sum_rate (take n es) k)

  others_next : (p : ℕ) → others p (take (n + 1) es) ≡ others p (take n es) + cond (nat_eq e.i p) 0 1
  others_next p = ap (λ xs. others p xs) next ∙ others-take p es n e below ∙ ap (λ (x : EtaEntry). others p (take n es) + cond (nat_eq x.i p) 0 1) (sym is)

  pub others_next_same : (p : ℕ) → e.i ≡ p → others p (take (n + 1) es) ≡ others p (take n es)
  others_next_same p same =
      let here : nat_eq e.i p ≡ true = grind (arith, same) in
      others_next p ∙ ap (λ t. others p (take n es) + cond t 0 1) here ∙ omega arith

  pub others_next_other : (p : ℕ) → e.i ≢ p → others p (take (n + 1) es) ≡ others p (take n es) + 1
  others_next_other p other =
      let away : nat_eq e.i p ≡ false = grind (arith, other) in
      others_next p ∙ ap (λ t. others p (take n es) + cond t 0 1) away

  -- so there is one more among all
  pub others_room : (p : ℕ) → e.i ≢ p → others p (take n es) + 1 ≤ others p es
  others_room p other = let more = others-take_le p es (n + 1) in let is_more = others_next_other p other in omega (arith, more, is_more)

  -- the element at any default
  pub entry_at : (d : EtaEntry) → get_or es n d ≡ e
  entry_at d = get_or_default es n d e below ∙ sym is

-- ---- the value at k, after the entry's place is written

pub written_same : (xs : List ℚ) (j k : ℕ) (v : ℚ) → 1 ≤ j → j ≤ length xs → j ≡ k → value_at (set xs (j - 1) v) k ≡ v
written_same xs j k v low high same =
    let within : j - 1 < length xs = omega arith in
    ap (λ i. value_at (set xs (j - 1) v) i) (sym same) ∙ get_or-set_same xs (j - 1) v zero_ℚ within

pub written_other : (xs : List ℚ) (j k : ℕ) (v : ℚ) → 1 ≤ j → 1 ≤ k → j ≢ k → value_at (set xs (j - 1) v) k ≡ value_at xs k
written_other xs j k v low some other =
    let apart : k - 1 ≢ j - 1 = λ e. other (omega (arith, e, low, some)) in get_or-set_other xs (j - 1) (k - 1) v zero_ℚ apart

module _ (es : List EtaEntry) (n : ℕ) (e : EtaEntry) (below : n < length es) (is : e ≡ get_or es n e) (out : List ℚ)
    (within : IsEntryWithin (length out) e) where
  pub subtracted_more : (old : List ℚ) (u x v : ℚ) (k : ℕ) → 1 ≤ k → x ≡ get_or out (e.i - 1) x → v ≡ x -ℚ u *ℚ e.rate
      → value_at out k ≡ value_at old k -ℚ u *ℚ sum_rate (take n es) k → value_at (set out (e.i - 1) v) k ≡ value_at old k -ℚ u *ℚ sum_rate (take (n + 1) es) k
  subtracted_more old u x v k low at_x is_v so_far = at (eqb_tells e.i k)
    where
      at : (((eqb e.i k ≡ true) × (e.i ≡ k)) ⊎ ((eqb e.i k ≡ false) × (e.i ≢ k))) →
          value_at (set out (e.i - 1) v) k ≡ value_at old k -ℚ u *ℚ sum_rate (take (n + 1) es) k
      at (inl same) =
          written_same out e.i k v within.0 within.1 same.1 ∙ is_v
          ∙ ap (λ y. y -ℚ u *ℚ e.rate) (value_at_place out e.i x within.0 within.1 at_x ∙ ap (value_at out) same.1 ∙ so_far)
          ∙ by_ring4 (value_at old k) u (sum_rate (take n es) k) e.rate (λ o u s r. (o ⊖ u ⊗ s) ⊖ u ⊗ r ≐ o ⊖ u ⊗ (s ⊕ r)) refl
          ∙ ap (λ s. value_at old k -ℚ u *ℚ s) (sym (sum_next_same es n e below is k same.1))
      at (inr other) =
          written_other out e.i k v within.0 low other.1 ∙ so_far ∙ ap (λ s. value_at old k -ℚ u *ℚ s) (sym (sum_next_other es n e below is k other.1))

  pub scaled_more : (u v : ℚ) (k : ℕ) → 1 ≤ k → v ≡ u *ℚ e.rate → AreApart es
      → value_at out k ≡ u *ℚ sum_rate (take n es) k → value_at (set out (e.i - 1) v) k ≡ u *ℚ sum_rate (take (n + 1) es) k
  scaled_more u v k low is_v apart so_far = at (eqb_tells e.i k)
    where
      none_yet : sum_rate (take n es) e.i ≡ zero_ℚ
      none_yet = ap (λ (x : EtaEntry). sum_rate (take n es) x.i) is ∙ apart n e below

      at : (((eqb e.i k ≡ true) × (e.i ≡ k)) ⊎ ((eqb e.i k ≡ false) × (e.i ≢ k))) → value_at (set out (e.i - 1) v) k ≡ u *ℚ sum_rate (take (n + 1) es) k
      at (inl same) =
          written_same out e.i k v within.0 within.1 same.1 ∙ is_v
          ∙ ap (λ s. u *ℚ s)
          (sym (zero-add e.rate) ∙ ap (λ s. s +ℚ e.rate) (sym none_yet ∙ ap (sum_rate (take n es)) same.1) ∙ sym (sum_next_same es n e below is k same.1))
      at (inr other) =
          written_other out e.i k v within.0 low other.1 ∙ so_far ∙ ap (λ s. u *ℚ s) (sym (sum_next_other es n e below is k other.1))

module _ (c : List Entry) (n : ℕ) (e : Entry) (below : n < length c) (is : e ≡ get_or c n e) (distinct : IsDistinct nat_eq (map (λ (x : Entry). x.row) c)) where
  next_column : take (n + 1) c ≡ take (suc n) c
  next_column = ap (λ i. take i c) (add-one n)

  pub on_row_next_same : (k : ℕ) → e.row ≡ k → e.value ≡ on_row (take (n + 1) c) k
  on_row_next_same k same =
      ap (λ (x : Entry). x.value) is ∙ sym (on_row-take_same c n e distinct below) ∙ ap (λ (x : Entry). on_row (take (suc n) c) x.row) (sym is)
      ∙ ap (on_row (take (suc n) c)) same ∙ ap (λ xs. on_row xs k) (sym next_column)

  pub on_row_next_other : (k : ℕ) → e.row ≢ k → on_row (take (n + 1) c) k ≡ on_row (take n c) k
  on_row_next_other k other = ap (λ xs. on_row xs k) next_column ∙ on_row-take_other c n e k below (λ h. other (ap (λ (x : Entry). x.row) is ∙ h))

  module _ (out : List ℚ) (low : 1 ≤ e.row) (high : e.row ≤ length out) where
    pub filled_row : (k : ℕ) → 1 ≤ k → value_at out k ≡ on_row (take n c) k → value_at (set out (e.row - 1) e.value) k ≡ on_row (take (n + 1) c) k
    filled_row k some so_far = at (eqb_tells e.row k)
      where
        at : (((eqb e.row k ≡ true) × (e.row ≡ k)) ⊎ ((eqb e.row k ≡ false) × (e.row ≢ k))) →
            value_at (set out (e.row - 1) e.value) k ≡ on_row (take (n + 1) c) k
        at (inl same) = written_same out e.row k e.value low high same.1 ∙ on_row_next_same k same.1
        at (inr other) = written_other out e.row k e.value low some other.1 ∙ so_far ∙ sym (on_row_next_other k other.1)

    -- and times a number
    pub filled_scaled : (s v : ℚ) (k : ℕ) → 1 ≤ k → v ≡ e.value *ℚ s → value_at out k ≡ on_row (take n c) k *ℚ s
        → value_at (set out (e.row - 1) v) k ≡ on_row (take (n + 1) c) k *ℚ s
    filled_scaled s v k some is_v so_far = at (eqb_tells e.row k)
      where
        at : (((eqb e.row k ≡ true) × (e.row ≡ k)) ⊎ ((eqb e.row k ≡ false) × (e.row ≢ k))) →
            value_at (set out (e.row - 1) v) k ≡ on_row (take (n + 1) c) k *ℚ s
        at (inl same) = written_same out e.row k v low high same.1 ∙ is_v ∙ ap (λ x. x *ℚ s) (on_row_next_same k same.1)
        at (inr other) = written_other out e.row k v low some other.1 ∙ so_far ∙ ap (λ x. x *ℚ s) (sym (on_row_next_other k other.1))

pub minus_nothing : (x u : ℚ) → x -ℚ u *ℚ zero_ℚ ≡ x
minus_nothing x u = ap (λ s. x -ℚ s) (mul-zero u) ∙ sub-zero x
