-- Columns in numbers over one denominator: what an eta makes of them.
use Rattle.std.proofs.Common.{pos, negsuc, ◌≡◌, ◌≢◌, ℕ, ◌+◌, ◌-◌, ◌<◌, ◌≤◌, List, [], ◌∷◌, length, map, take, get_or, set, Bool, true, false, cond, refl, sym}
use Rattle.std.proofs.Common.{◌∙◌, ap, ap₂, subst, arith, All}
use Rattle.std.specs.Prelude.{nat_eq}
use Rattle.std.proofs.lemmas.List.{get_or-map, get_or_default, length-map, length-set, take-map}
use Rattle.exact_values.specs.Rational.{ℚ, whole, zero_ℚ, one_ℚ, neg_ℚ, ◌+ℚ◌, ◌-ℚ◌, ◌*ℚ◌, ◌/ℚ◌, inverse_ℚ}
use Rattle.exact_values.proofs.Ring.{number, by_ring1, by_ring2, by_ring3, by_ring4, ◌⊕◌, ◌⊖◌, ◌⊗◌, ◌≐◌, opposite}
use Rattle.exact_values.proofs.RingLaws.{zero-mul, one-mul, mul-one, add-mul}
use Rattle.exact_values.proofs.Inverse.{one_apart, div_is, div-mul_cancel, apart-mul, mul-inverse}
use Rattle.lp_definitions.specs.LinearProgram.{value_at, on_row}
use Rattle.lp_definitions.specs.declared.Entry.{Entry}
use Rattle.whole_vectors.specs.Quotients.{quotients, AreProducts, IsSameOver, Represent}
use Rattle.whole_vectors.proofs.Over.{value_at-quotients, length-quotients, same_factor}
use Rattle.eta_file.specs.declared.eta.EtaEntry.{EtaEntry}
use Rattle.eta_file.specs.declared.eta.StoredEta.{StoredEta}
use Rattle.eta_file.specs.declared.eta.WholeEta.{WholeEta}
use Rattle.eta_file.specs.Entries.{sum_rate, rate_where, IsEntryWithin, AreApart, scaled, IsWholeOf}
use Rattle.eta_file.specs.Transformations.{IsTransformed, untouched, changed, IsSubtracted, IsExchanged, IsScaled, IsLeaving, IsColumnFilled}
use Rattle.eta_file.proofs.CarrySteps.{subtracted_more, written_same, written_other}

-- ---- entries times a number

sum_rate-scaled : (s : ℚ) (es : List EtaEntry) (k : ℕ) → sum_rate (map (scaled s) es) k ≡ sum_rate es k *ℚ s
sum_rate-scaled s [] k = sym (zero-mul s)
sum_rate-scaled s (e ∷ es) k = ap₂ ◌+ℚ◌ (at (nat_eq e.i k)) (sum_rate-scaled s es k) ∙ sym (add-mul (rate_where e k) (sum_rate es k) s)
  where
    at : (b : Bool) → cond b (e.rate *ℚ s) zero_ℚ ≡ cond b e.rate zero_ℚ *ℚ s
    at true = refl
    at false = sym (zero-mul s)

module _ (pivot : ℚ) (es : List EtaEntry) (w : WholeEta) (h : IsWholeOf pivot es w) where
  pub whole_sum : (k : ℕ) → sum_rate w.entries.items k ≡ sum_rate es k *ℚ w.scale
  whole_sum k = ap (λ xs. sum_rate xs k) h.are_entries ∙ sum_rate-scaled w.scale es k

  pub whole_within : (n : ℕ) → All (IsEntryWithin n) es → All (IsEntryWithin n) w.entries.items
  whole_within n within = subst (λ xs. All (IsEntryWithin n) xs) (sym h.are_entries) (λ i d below.
      let inside : i < length es = subst (λ m. i < m) (length-map es (scaled w.scale)) below in
      subst (λ (x : EtaEntry). IsEntryWithin n x) (sym (get_or-map (scaled w.scale) es i d d inside)) (within i d inside))

  pub whole_apart : AreApart es → AreApart w.entries.items
  whole_apart apart = subst (λ xs. AreApart xs) (sym h.are_entries) (λ n d below.
      let inside : n < length es = subst (λ m. n < m) (length-map es (scaled w.scale)) below in
      ap (λ xs. sum_rate xs (get_or (map (scaled w.scale) es) n d).i) (take-map (scaled w.scale) n es)
      ∙ ap (λ (x : EtaEntry). sum_rate (map (scaled w.scale) (take n es)) x.i) (get_or-map (scaled w.scale) es n d d inside)
      ∙ sum_rate-scaled w.scale (take n es) (get_or es n d).i ∙ ap (λ x. x *ℚ w.scale) (apart n d inside) ∙ zero-mul w.scale)

  pub whole_pivot_apart : pivot ≢ zero_ℚ → w.pivot ≢ zero_ℚ
  whole_pivot_apart some none = apart-mul some h.apart (sym h.is_pivot ∙ none)

-- ---- a direction over an eta

-- where a number of the leaver goes through the pivot
quotient_scaled : (m pivot s : ℚ) → pivot ≢ zero_ℚ → s ≢ zero_ℚ → m /ℚ (pivot *ℚ s) *ℚ s ≡ m /ℚ pivot
quotient_scaled m pivot s some apart =
    by_ring3 m (inverse_ℚ (pivot *ℚ s)) s (λ m i s. (m ⊗ i) ⊗ s ≐ (m ⊗ s) ⊗ i) refl ∙ same_factor m pivot s some apart

module _ (eta : StoredEta) (w : WholeEta) (h : IsWholeOf eta.pivot eta.entries.items w) (some : eta.pivot ≢ zero_ℚ)
    (d e by ratio multiple : ℚ) (old mid low new : List ℚ)
    (same : IsSameOver d old e mid) (is_ratio : ratio ≡ value_at mid eta.p /ℚ w.pivot) (is_multiple : multiple ≡ ratio *ℚ by) (by_apart : by ≢ zero_ℚ)
    (products : AreProducts by mid low) (counted : length low ≡ length old) (exchanged : IsExchanged eta.p eta.q multiple w low new) where
  abbrev last : ℚ
  last = e *ℚ by

  last_apart : last ≢ zero_ℚ
  last_apart = apart-mul same.apart by_apart

  abbrev quotient : ℚ
  quotient = value_at (quotients d old) eta.p /ℚ eta.pivot

  old_is : (k : ℕ) → value_at (quotients d old) k ≡ value_at mid k /ℚ e
  old_is k = value_at-quotients d old k ∙ sym (same.each k)

  -- the multiple of the eta, in the numbers of the last denominator
  multiple_is : multiple *ℚ w.scale ≡ quotient *ℚ last
  multiple_is =
      ap (λ x. x *ℚ w.scale) (is_multiple ∙ ap (λ x. x *ℚ by) (is_ratio ∙ ap (λ x. value_at mid eta.p /ℚ x) h.is_pivot))
      ∙ by_ring3 (value_at mid eta.p /ℚ (eta.pivot *ℚ w.scale)) by w.scale (λ r b s. (r ⊗ b) ⊗ s ≐ (r ⊗ s) ⊗ b) refl
      ∙ ap (λ x. x *ℚ by)
      (quotient_scaled (value_at mid eta.p) eta.pivot w.scale some h.apart ∙ sym (div-mul_cancel (value_at mid eta.p /ℚ eta.pivot) e same.apart))
      ∙ by_ring3 (value_at mid eta.p /ℚ eta.pivot /ℚ e) e by (λ x e b. x ⊗ e ⊗ b ≐ x ⊗ (e ⊗ b)) refl
      ∙ ap (λ x. x *ℚ last) (by_ring3 (value_at mid eta.p) (inverse_ℚ eta.pivot) (inverse_ℚ e) (λ m i j. (m ⊗ i) ⊗ j ≐ (m ⊗ j) ⊗ i) refl)
      ∙ ap (λ x. x /ℚ eta.pivot *ℚ last) (sym (old_is eta.p))

  opposite_over : neg_ℚ (multiple *ℚ w.scale) /ℚ last ≡ neg_ℚ quotient
  opposite_over =
      div_is (neg_ℚ (multiple *ℚ w.scale)) last (neg_ℚ quotient) last_apart
      (ap neg_ℚ multiple_is ∙ by_ring2 quotient last (λ u l. opposite (u ⊗ l) ≐ opposite u ⊗ l) refl)

  at_leaver : (b : Bool) → cond b (neg_ℚ (multiple *ℚ w.scale)) zero_ℚ /ℚ last ≡ cond b (neg_ℚ quotient) zero_ℚ
  at_leaver true = opposite_over
  at_leaver false = zero-mul (inverse_ℚ last)

  at_other : (k : ℕ) → value_at new k ≡ value_at low k -ℚ multiple *ℚ sum_rate w.entries.items k
      → value_at (quotients last new) k ≡ value_at (quotients d old) k -ℚ quotient *ℚ sum_rate eta.entries.items k
  at_other k is =
      value_at-quotients last new k
      ∙ div_is (value_at new k) last (value_at (quotients d old) k -ℚ quotient *ℚ sum_rate eta.entries.items k) last_apart
      (is ∙ ap₂ (λ x y. x -ℚ multiple *ℚ y) (products.each k) (whole_sum eta.pivot eta.entries.items w h k)
      ∙ by_ring4 (value_at mid k *ℚ by) multiple (sum_rate eta.entries.items k) w.scale (λ x c r s. x ⊖ c ⊗ (r ⊗ s) ≐ x ⊖ (c ⊗ s) ⊗ r) refl
      ∙ ap₂ (λ x y. x *ℚ by -ℚ y *ℚ sum_rate eta.entries.items k) (sym (div-mul_cancel (value_at mid k) e same.apart)) multiple_is
      ∙ ap (λ x. x *ℚ e *ℚ by -ℚ quotient *ℚ last *ℚ sum_rate eta.entries.items k) (sym (old_is k))
      ∙ gathered (value_at (quotients d old) k) quotient (sum_rate eta.entries.items k))
    where
      gathered : (x u r : ℚ) → x *ℚ e *ℚ by -ℚ u *ℚ last *ℚ r ≡ (x -ℚ u *ℚ r) *ℚ last
      gathered x u r =
          ap (λ y. y -ℚ u *ℚ last *ℚ r) (by_ring3 x e by (λ x e b. x ⊗ e ⊗ b ≐ x ⊗ (e ⊗ b)) refl)
          ∙ by_ring4 x u last r (λ x u l r. x ⊗ l ⊖ u ⊗ l ⊗ r ≐ (x ⊖ u ⊗ r) ⊗ l) refl

  pub transformed_whole : (final : ℚ) → final ≡ e *ℚ by → Represent (IsTransformed eta (quotients d old)) final new
  transformed_whole final is_final = subst (λ x. Represent (IsTransformed eta (quotients d old)) x new) (sym is_final) (record {
    apart = last_apart;
    holds = changed
        (value_at-quotients last new eta.p ∙ ap (λ x. x /ℚ last) exchanged.at_p ∙ at_leaver (nat_eq eta.p eta.q))
        (value_at-quotients last new eta.q ∙ ap (λ x. x /ℚ last) exchanged.at_q ∙ opposite_over)
        (λ k low_k high other also. at_other k
        (exchanged.each k low_k (let same_length = length-quotients d old in omega (arith, high, same_length, counted)) other also));
  })

-- ---- where it begins

pub begun : (c : List Entry) (j : ℕ) (d v : ℚ) (low new : List ℚ) → d ≢ zero_ℚ → 1 ≤ j → j ≤ length low → v ≡ d
    → ((k : ℕ) → 1 ≤ k → value_at low k ≡ on_row c k *ℚ d)
    → new ≡ set low (j - 1) v → Represent (IsColumnFilled c j) d new
begun c j d v low new apart some within is_v rows is_new = record {
  apart = apart;
  holds = record {
    own =
        value_at-quotients d new j ∙ ap (λ x. x /ℚ d) (ap (λ xs. value_at xs j) is_new ∙ written_same low j j v some within refl ∙ is_v) ∙ mul-inverse d apart;
    rows = λ k low_k other.
        value_at-quotients d new k
        ∙ div_is (value_at new k) d (on_row c k) apart
        (ap (λ xs. value_at xs k) is_new ∙ written_other low j k v some low_k (λ e. other (sym e)) ∙ rows k low_k);
  };
}

module _ (eta : StoredEta) (w : WholeEta) (h : IsWholeOf eta.pivot eta.entries.items w) (some_pivot : eta.pivot ≢ zero_ℚ) where
  pivot_apart : w.pivot ≢ zero_ℚ
  pivot_apart = whole_pivot_apart eta.pivot eta.entries.items w h some_pivot

  over_pivot : (x : ℚ) → (x *ℚ w.scale) /ℚ w.pivot ≡ (one_ℚ /ℚ eta.pivot) *ℚ x
  over_pivot x =
      ap (λ y. (x *ℚ w.scale) /ℚ y) h.is_pivot ∙ same_factor x eta.pivot w.scale some_pivot h.apart
      ∙ by_ring2 x (inverse_ℚ eta.pivot) (λ x i. x ⊗ i ≐ i ⊗ x) refl ∙ ap (λ i. i *ℚ x) (sym (one-mul (inverse_ℚ eta.pivot)))

  pub left_whole : (placed : List ℚ) → 1 ≤ eta.p → eta.p ≤ length placed → 1 ≤ eta.q → eta.q ≤ length placed → (low : List ℚ)
      → low ≡ set placed (eta.p - 1) w.pivot
      → (new : List ℚ) → new ≡ set low (eta.q - 1) w.scale → length low ≡ length placed → length new ≡ length placed
      → IsScaled eta.p one_ℚ w.entries.items placed → Represent (IsLeaving eta) w.pivot new
  left_whole placed p_low p_high q_low q_high low is_low new is_new low_counted counted scaled_by = record {
    apart = pivot_apart;
    holds = record {
      leaver = λ differ.
          value_at-quotients w.pivot new eta.p
          ∙ ap (λ x. x /ℚ w.pivot)
          (ap (λ xs. value_at xs eta.p) is_new ∙ written_other low eta.q eta.p w.scale q_low p_low (λ e. differ (sym e))
          ∙ ap (λ xs. value_at xs eta.p) is_low ∙ written_same placed eta.p eta.p w.pivot p_low p_high refl)
          ∙ mul-inverse w.pivot pivot_apart;
      entering_variable =
          value_at-quotients w.pivot new eta.q
          ∙ ap (λ x. x /ℚ w.pivot)
          (ap (λ xs. value_at xs eta.q) is_new ∙ written_same low eta.q eta.q w.scale q_low (omega (arith, q_high, low_counted)) refl
          ∙ sym (one-mul w.scale))
          ∙ over_pivot one_ℚ ∙ mul-one (one_ℚ /ℚ eta.pivot);
      each = λ k low_k high other also.
          let same_length = length-quotients w.pivot new in
          value_at-quotients w.pivot new k
          ∙ ap (λ x. x /ℚ w.pivot)
          (ap (λ xs. value_at xs k) is_new ∙ written_other low eta.q k w.scale q_low low_k (λ e. also (sym e))
          ∙ ap (λ xs. value_at xs k) is_low ∙ written_other placed eta.p k w.pivot p_low low_k (λ e. other (sym e))
          ∙ scaled_by.each k low_k (omega (arith, high, same_length, counted)) other ∙ one-mul (sum_rate w.entries.items k)
          ∙ whole_sum eta.pivot eta.entries.items w h k)
          ∙ over_pivot (sum_rate eta.entries.items k);
    };
  }

-- ---- the numbers of an exchange

pub subtracted_whole : (es : List EtaEntry) (n : ℕ) (e : EtaEntry) → n < length es → e ≡ get_or es n e → (out : List ℚ) → IsEntryWithin (length out) e
    → (old : List ℚ) (u x m v : ℚ) (k : ℕ) → 1 ≤ k → x ≡ value_at out e.i → m ≡ neg_ℚ u → v ≡ x +ℚ m *ℚ e.rate
    → value_at out k ≡ value_at old k -ℚ u *ℚ sum_rate (take n es) k → value_at (set out (e.i - 1) v) k ≡ value_at old k -ℚ u *ℚ sum_rate (take (n + 1) es) k
subtracted_whole es n e below is out within old u x m v k low is_x is_m is_v so_far =
    let inside : e.i - 1 < length out = omega (arith, within.0, within.1) in
    subtracted_more es n e below is out within old u (value_at out e.i) v k low (get_or_default out (e.i - 1) zero_ℚ (value_at out e.i) inside)
    (is_v ∙ ap₂ (λ x m. x +ℚ m *ℚ e.rate) is_x is_m ∙ by_ring3 (value_at out e.i) u e.rate (λ x u r. x ⊕ opposite u ⊗ r ≐ x ⊖ u ⊗ r) refl) so_far

pub exchanged_by : (p q : ℕ) (c : ℚ) (w : WholeEta) (old mid : List ℚ) (u v : ℚ) → 1 ≤ p → p ≤ length old → 1 ≤ q → q ≤ length old → length mid ≡ length old
    → IsSubtracted p c w.entries.items old mid → u ≡ zero_ℚ → v ≡ neg_ℚ (c *ℚ w.scale) → IsExchanged p q c w old (set (set mid (p - 1) u) (q - 1) v)
exchanged_by p q c w old mid u v p_low p_high q_low q_high counted h is_u is_v = record {
  at_p = at (nat_eq p q) refl;
  at_q = written_same low q q v q_low q_within refl ∙ is_v;
  each = λ k low_k high other also.
      written_other low q k v q_low low_k (λ e. also (sym e)) ∙ written_other mid p k u p_low low_k (λ e. other (sym e)) ∙ h.each k low_k high other;
}
  where
    low : List ℚ
    low = set mid (p - 1) u

    q_within : q ≤ length low
    q_within = let same = length-set mid (p - 1) u in omega (arith, q_high, same, counted)

    at : (b : Bool) → nat_eq p q ≡ b → value_at (set low (q - 1) v) p ≡ cond b (neg_ℚ (c *ℚ w.scale)) zero_ℚ
    at true e = let same : q ≡ p = grind (arith, e) in written_same low q p v q_low q_within same ∙ is_v
    at false e =
        let differ : q ≢ p = grind (arith, e) in
        written_other low q p v q_low p_low differ ∙ written_same mid p p u p_low (omega (arith, p_high, counted)) refl ∙ is_u

-- nothing is taken where the leaver's number is 0
pub untouched_whole : (eta : StoredEta) (d : ℚ) (xs : List ℚ) → d ≢ zero_ℚ → value_at xs eta.p ≡ zero_ℚ → Represent (IsTransformed eta (quotients d xs)) d xs
untouched_whole eta d xs apart none =
    record { apart = apart; holds = untouched (value_at-quotients d xs eta.p ∙ ap (λ x. x /ℚ d) none ∙ zero-mul (inverse_ℚ d)) refl }

pub minus_one_apart : whole (negsuc 0) ≢ zero_ℚ
minus_one_apart e =
    one_apart (by_ring1 zero_ℚ (λ x. number (pos 1) ≐ number (negsuc 0) ⊗ number (negsuc 0)) refl ∙ ap (λ u. u *ℚ whole (negsuc 0)) e
    ∙ zero-mul (whole (negsuc 0)))
