-- A row that is carried back in numbers over one denominator.
use Rattle.std.proofs.Common.{◌≡◌, ◌≢◌, ℕ, ◌+◌, ◌-◌, ◌<◌, ◌≤◌, List, [], ◌∷◌, length, map, get_or, set, Bool, true, false, cond, Option, None, Some, IfSome}
use Rattle.std.proofs.Common.{refl, sym, ◌∙◌, ap, ap₂, subst, arith, All}
use Rattle.std.specs.Prelude.{nat_eq}
use Rattle.std.specs.Option.{is_some}
use Rattle.lp_laws.proofs.Values.{clash}
use Rattle.std.proofs.lemmas.List.{get_or-map, length-map, get_or-set_same, get_or-set_other, get_or_default}
use Rattle.exact_values.specs.Rational.{ℚ, zero_ℚ, one_ℚ, neg_ℚ, ◌+ℚ◌, ◌*ℚ◌, ◌/ℚ◌, inverse_ℚ}
use Rattle.exact_values.proofs.Ring.{by_ring2, by_ring3, by_ring4, ◌⊗◌, ◌≐◌, opposite}
use Rattle.exact_values.proofs.RingLaws.{zero-mul, add-mul}
use Rattle.exact_values.proofs.Inverse.{div_is, div-mul_cancel, apart-mul, one_apart}
use Rattle.lp_definitions.specs.LinearProgram.{size, column, value_at, IsMatrix}
use Rattle.lp_definitions.specs.Basis.{is_in, IsBasic, IsNonsingular, row_basics}
use Rattle.lp_definitions.specs.RatesEvidence.{sum_from}
use Rattle.lp_definitions.specs.declared.Entry.{Entry}
use Rattle.lp_laws.proofs.Idle.{over_once}
use Rattle.lp_model.specs.RatesCalls.{IsRowOf}
use Rattle.whole_vectors.specs.Quotients.{quotients, AreProducts, IsSameOver, Represent}
use Rattle.whole_vectors.proofs.Over.{value_at-quotients, length-quotients, same_factor}
use Rattle.eta_file.specs.declared.eta.EtaEntry.{EtaEntry}
use Rattle.eta_file.specs.declared.eta.StoredEta.{StoredEta}
use Rattle.eta_file.specs.Entries.{scaled, IsEntryWithin}
use Rattle.eta_file.specs.Prefixes.{IsLent, IsLentScaled, IsEta, Passed, after}
use Rattle.eta_file.specs.Inverse.{Inverse}
use Rattle.price_row.specs.Sums.{weighted, products}
use Rattle.price_row.specs.Known.{set_of, IsKnown, IsUnit, IsRateOf, IsMultiplierAt, HasMultipliers, IsFilledTo}
use Rattle.price_row.proofs.CarriedBack.{is, p_is, entries_within, known_more, multiplier_is, an_eta}
use Rattle.price_row.proofs.RowSteps.{known_at_end, rows_known, row_is, rate_of_row, rate_of_column}

-- ---- sums of numbers over one denominator

sum_from-times : (c a : ℚ) (ts : List ℚ) → sum_from (a *ℚ c) (map (λ t. t *ℚ c) ts) ≡ sum_from a ts *ℚ c
sum_from-times c a [] = refl
sum_from-times c a (t ∷ ts) = ap (λ s. sum_from s (map (λ t. t *ℚ c) ts)) (sym (add-mul a t c)) ∙ sum_from-times c (a +ℚ t) ts

number_is : (d : ℚ) (xs : List ℚ) (k : ℕ) → d ≢ zero_ℚ → value_at xs k ≡ value_at (quotients d xs) k *ℚ d
number_is d xs k apart = sym (ap (λ x. x *ℚ d) (value_at-quotients d xs k) ∙ div-mul_cancel (value_at xs k) d apart)

weighted_times : (p : ℕ) (d s : ℚ) (xs : List ℚ) (es : List EtaEntry) → d ≢ zero_ℚ →
    weighted p xs (map (scaled s) es) ≡ map (λ t. t *ℚ (d *ℚ s)) (weighted p (quotients d xs) es)
weighted_times p d s xs [] apart = refl
weighted_times p d s xs (e ∷ es) apart = at (nat_eq e.i p) (weighted_times p d s xs es apart)
  where
    own : value_at xs e.i *ℚ (e.rate *ℚ s) ≡ (value_at (quotients d xs) e.i *ℚ e.rate) *ℚ (d *ℚ s)
    own =
        ap (λ x. x *ℚ (e.rate *ℚ s)) (number_is d xs e.i apart)
        ∙ by_ring4 (value_at (quotients d xs) e.i) d e.rate s (λ x d r s. (x ⊗ d) ⊗ (r ⊗ s) ≐ (x ⊗ r) ⊗ (d ⊗ s)) refl

    at : (b : Bool) → weighted p xs (map (scaled s) es) ≡ map (λ t. t *ℚ (d *ℚ s)) (weighted p (quotients d xs) es)
        → cond b (weighted p xs (map (scaled s) es)) ((value_at xs e.i *ℚ (e.rate *ℚ s)) ∷ weighted p xs (map (scaled s) es))
        ≡ map (λ t. t *ℚ (d *ℚ s)) (cond b (weighted p (quotients d xs) es) ((value_at (quotients d xs) e.i *ℚ e.rate) ∷ weighted p (quotients d xs) es))
    at true rest = rest
    at false rest = ap₂ (λ t ts. t ∷ ts) own rest

products_times : (d : ℚ) (xs : List ℚ) (c : List Entry) → d ≢ zero_ℚ → products xs c ≡ map (λ t. t *ℚ d) (products (quotients d xs) c)
products_times d xs [] apart = refl
products_times d xs (e ∷ es) apart =
    ap₂ (λ t ts. t ∷ ts)
    (ap (λ x. x *ℚ e.value) (number_is d xs e.row apart) ∙ by_ring3 (value_at (quotients d xs) e.row) d e.value (λ x d v. (x ⊗ d) ⊗ v ≐ (x ⊗ v) ⊗ d) refl)
    (products_times d xs es apart)

-- ---- one eta

module _ (f : Inverse) (passed : Passed f.matrix (row_basics f.matrix) f.etas) (k : ℕ) (below : k < length f.etas) (p q : ℕ) (entries : List EtaEntry)
    (lent : IsLent f.etas (k + 1 - 1) p q entries)
    (s pivot : ℚ) (es : List EtaEntry) (whole : IsLentScaled f.etas (k + 1 - 1) s pivot es) where
  abbrev d0 : StoredEta
  d0 = an_eta f.etas k below

  abbrev eta : StoredEta
  eta = get_or f.etas k d0

  same_place : k + 1 - 1 ≡ k
  same_place = omega arith

  entries_are : es ≡ map (scaled s) entries
  entries_are = whole.are_entries d0 ∙ ap (map (scaled s)) (lent.are_entries d0)

  pivot_scaled : pivot ≡ eta.pivot *ℚ s
  pivot_scaled = whole.is_pivot d0 ∙ ap (λ n. (get_or f.etas n d0).pivot *ℚ s) same_place

  its : IsEta f.matrix (set_of f k) eta
  its = is f passed k below d0 p q entries lent

  eta_apart : eta.pivot ≢ zero_ℚ
  eta_apart none = its.apart (sym its.is_pivot ∙ none)

  pub whole_pivot_apart : pivot ≢ zero_ℚ
  whole_pivot_apart none = apart-mul eta_apart whole.apart (sym pivot_scaled ∙ none)

  pub whole_within : (n : ℕ) → n ≡ size f.matrix → All (IsEntryWithin n) es
  whole_within n same = subst (λ xs. All (IsEntryWithin n) xs) (sym entries_are) (λ i d inside.
      let within : i < length entries = subst (λ m. i < m) (length-map entries (scaled s)) inside in
      subst (λ (x : EtaEntry). IsEntryWithin n x) (sym (get_or-map (scaled s) entries i d d within))
      (entries_within f passed k below d0 p q entries lent n same i d within))

  module _ (r : ℕ) (basic : IsBasic f.matrix f.basics r) (one : IsNonsingular f.matrix f.basics) (d : ℚ) (old : List ℚ) (counted : length old ≡ size f.matrix)
      (known : Represent (IsKnown f (k + 1) r) d old)
      (first sum ratio : ℚ) (is_first : first ≡ value_at old q *ℚ s) (is_sum : sum ≡ sum_from first (weighted p old es)) (is_ratio : ratio ≡ sum /ℚ pivot) where
    abbrev total : ℚ
    total = sum_from (value_at (quotients d old) q) (weighted p (quotients d old) entries)

    sum_is : sum ≡ total *ℚ (d *ℚ s)
    sum_is =
        is_sum
        ∙ ap₂ sum_from
        (is_first ∙ ap (λ x. x *ℚ s) (number_is d old q known.apart)
        ∙ by_ring3 (value_at (quotients d old) q) d s (λ x d s. (x ⊗ d) ⊗ s ≐ x ⊗ (d ⊗ s)) refl)
        (ap (weighted p old) entries_are ∙ weighted_times p d s old entries known.apart)
        ∙ sum_from-times (d *ℚ s) (value_at (quotients d old) q) (weighted p (quotients d old) entries)

    ratio_is : ratio ≡ (total /ℚ eta.pivot) *ℚ d
    ratio_is =
        is_ratio ∙ ap₂ (λ x y. x /ℚ y) (sum_is ∙ by_ring3 total d s (λ t d s. t ⊗ (d ⊗ s) ≐ (t ⊗ d) ⊗ s) refl) pivot_scaled
        ∙ same_factor (total *ℚ d) eta.pivot s eta_apart whole.apart
        ∙ by_ring3 total d (inverse_ℚ eta.pivot) (λ t d i. (t ⊗ d) ⊗ i ≐ (t ⊗ i) ⊗ d) refl

    abbrev value : ℚ
    value = neg_ℚ (total /ℚ eta.pivot)

    value_is : IsMultiplierAt f k r value
    value_is = record {
      is_multiplier = λ x rate are.
          multiplier_is f passed k below x p q entries lent r basic one (quotients d old) known.holds rate are (value_at (quotients d old) q) total
          (get_or f.etas k x).pivot (total /ℚ eta.pivot)
          refl refl (is f passed k below x p q entries lent).is_pivot
          (ap (λ (e : StoredEta). total /ℚ e.pivot) (sym (one_eta x)));
    }
      where
        one_eta : (x : StoredEta) → get_or f.etas k x ≡ eta
        one_eta x = get_or_default f.etas k x d0 below

    before : IsKnown f k r (set (quotients d old) (p - 1) value)
    before = known_more f passed k below d0 p q entries lent r (quotients d old) value (length-quotients d old ∙ counted) known.holds value_is

    module _ (by number e : ℚ) (low new : List ℚ) (by_apart : by ≢ zero_ℚ) (is_number : number ≡ ratio *ℚ by) (is_e : e ≡ d *ℚ by)
        (products_are : AreProducts by old low) (low_counted : length low ≡ length old)
        (is_new : new ≡ set low (p - 1) (neg_ℚ number)) where
      e_apart : e ≢ zero_ℚ
      e_apart none = apart-mul known.apart by_apart (sym is_e ∙ none)

      low_over : (i : ℕ) → value_at low i /ℚ e ≡ value_at (quotients d old) i
      low_over i = ap₂ (λ x y. x /ℚ y) (products_are.each i) is_e ∙ same_factor (value_at old i) d by known.apart by_apart ∙ sym (value_at-quotients d old i)

      own_over : neg_ℚ number /ℚ e ≡ value
      own_over =
          ap₂ (λ x y. neg_ℚ x /ℚ y) (is_number ∙ ap (λ x. x *ℚ by) ratio_is) is_e
          ∙ div_is (neg_ℚ ((total /ℚ eta.pivot) *ℚ d *ℚ by)) (d *ℚ by) value (apart-mul known.apart by_apart)
          (by_ring3 (total /ℚ eta.pivot) d by (λ t d b. opposite (t ⊗ d ⊗ b) ≐ opposite t ⊗ (d ⊗ b)) refl)

      p_low : 1 ≤ p
      p_low = subst (λ n. 1 ≤ n) (p_is f passed k below d0 p q entries lent) its.leaves.0.0

      p_high : p ≤ length old
      p_high = let high = subst (λ n. n ≤ size f.matrix) (p_is f passed k below d0 p q entries lent) its.leaves.0.1 in omega (arith, high, counted)

      new_is : (i : ℕ) → 1 ≤ i → value_at (quotients e new) i ≡ value_at (set (quotients d old) (p - 1) value) i
      new_is i some = value_at-quotients e new i ∙ ap (λ xs. value_at xs i /ℚ e) is_new ∙ at (nat_eq i p) refl
        where
          at : (b : Bool) → nat_eq i p ≡ b → value_at (set low (p - 1) (neg_ℚ number)) i /ℚ e ≡ value_at (set (quotients d old) (p - 1) value) i
          at true same =
              let here : i ≡ p = grind (arith, same) in
              ap (λ n. get_or (set low (p - 1) (neg_ℚ number)) (n - 1) zero_ℚ /ℚ e) here
              ∙ ap (λ x. x /ℚ e) (get_or-set_same low (p - 1) (neg_ℚ number) zero_ℚ (omega (arith, p_low, p_high, low_counted)))
              ∙ own_over
              ∙ sym (ap (λ n. get_or (set (quotients d old) (p - 1) value) (n - 1) zero_ℚ) here
              ∙ get_or-set_same (quotients d old) (p - 1) value zero_ℚ (let same_length = length-quotients d old in omega (arith, p_low, p_high, same_length)))
          at false differ =
              let other : i - 1 ≢ p - 1 = (let apart : i ≢ p = grind (arith, differ) in λ e. apart (omega (arith, e, some, p_low))) in
              ap (λ x. x /ℚ e) (get_or-set_other low (p - 1) (i - 1) (neg_ℚ number) zero_ℚ other)
              ∙ low_over i ∙ sym (get_or-set_other (quotients d old) (p - 1) (i - 1) value zero_ℚ other)

      pub known_whole : Represent (IsKnown f k r) e new
      known_whole = record {
        apart = e_apart;
        holds = record { each = λ rate are i var inside. new_is i var.0 ∙ before.each rate are i var inside };
      }

-- what is left after a reduction
pub known_reduced : (f : Inverse) (k r : ℕ) (d e : ℚ) (old new : List ℚ) → IsSameOver d old e new → Represent (IsKnown f k r) d old →
    Represent (IsKnown f k r) e new
known_reduced f k r d e old new same h = record {
  apart = same.apart;
  holds = record {
    each = λ rate are i var inside. value_at-quotients e new i ∙ same.each i ∙ sym (value_at-quotients d old i) ∙ h.holds.each rate are i var inside;
  };
}

-- ---- where it begins and ends

pub begun_whole : (f : Inverse) (n r : ℕ) (d : ℚ) (xs : List ℚ) → f.basics ≡ after (row_basics f.matrix) f.etas → n ≡ length f.etas → d ≡ one_ℚ → IsUnit r xs →
    Represent (IsKnown f n r) d xs
begun_whole f n r d xs are is_n once h = record {
  apart = λ none. one_apart (sym once ∙ none);
  holds = known_at_end f n r (quotients d xs) are is_n (record {
    own = same r ∙ h.own;
    others = λ k low other. same k ∙ h.others k low other;
  });
}
  where
    same : (k : ℕ) → value_at (quotients d xs) k ≡ value_at xs k
    same k = value_at-quotients d xs k ∙ sym (over_once (value_at xs k) d once)

pub ended_whole : (f : Inverse) (n r : ℕ) (d : ℚ) (xs : List ℚ) → n ≡ 0 → Represent (IsKnown f n r) d xs → Represent (HasMultipliers f (size f.matrix) r) d xs
ended_whole f n r d xs none h =
    record { apart = h.apart; holds = (rows_known f r (quotients d xs) (subst (λ m. IsKnown f m r (quotients d xs)) none h.holds)).known }

-- ---- a rate

module _ (f : Inverse) (r place : ℕ) (d : ℚ) (xs : List ℚ) (within : place < size f.matrix) (known : Represent (HasMultipliers f (size f.matrix) r) d xs) where
  up_to : HasMultipliers f (place + 1) r (quotients d xs)
  up_to = λ rate are k less in_rows. known.holds rate are k (omega (arith, less, within)) in_rows

  pub whole_rate_of_row : (x v : ℚ) → is_in f.basics (place + 1) ≡ false → place < f.matrix.rows → x ≡ get_or xs place zero_ℚ → v ≡ neg_ℚ x /ℚ d →
      IsRateOf f r (place + 1) v
  whole_rate_of_row x v out low is_x is_v =
      rate_of_row f r place (quotients d xs) v out low up_to
      (is_v ∙ by_ring2 x (inverse_ℚ d) (λ x i. opposite x ⊗ i ≐ opposite (x ⊗ i)) refl ∙ ap (λ y. neg_ℚ (y /ℚ d)) is_x ∙ ap neg_ℚ (sym here))
    where
      next : place + 1 - 1 ≡ place
      next = omega arith

      here : get_or (quotients d xs) place zero_ℚ ≡ get_or xs place zero_ℚ /ℚ d
      here =
          ap (λ n. get_or (quotients d xs) n zero_ℚ) (sym next) ∙ value_at-quotients d xs (place + 1) ∙ ap (λ n. get_or xs n zero_ℚ /ℚ d) next

  pub whole_rate_of_column : (sum v : ℚ) → IsMatrix f.matrix → IsNonsingular f.matrix f.basics → IsBasic f.matrix f.basics r
      → is_in f.basics (place + 1) ≡ false → f.matrix.rows ≤ place
      → sum ≡ sum_from zero_ℚ (products xs (column f.matrix (place + 1 - f.matrix.rows))) → v ≡ sum /ℚ d → IsRateOf f r (place + 1) v
  whole_rate_of_column sum v lawful one basic out high is_sum is_v =
      rate_of_column f r place (quotients d xs) v lawful one basic out high within up_to
      (is_v ∙ div_is sum d (sum_from zero_ℚ (products (quotients d xs) c)) known.apart
      (is_sum ∙ ap₂ sum_from (sym (zero-mul d)) (products_times d xs c known.apart) ∙ sum_from-times d zero_ℚ (products (quotients d xs) c)))
    where
      c : List Entry
      c = column f.matrix (place + 1 - f.matrix.rows)

-- the rates at all variables are the row
pub filled_row : (f : Inverse) (n r : ℕ) (xs : List ℚ) → f.basics ≡ after (row_basics f.matrix) f.etas → Passed f.matrix (row_basics f.matrix) f.etas →
    size f.matrix ≤ n → IsFilledTo f n r xs → IsRowOf f.matrix f.basics r (value_at xs)
filled_row f n r xs are passed all h = row_is f r xs are passed (record {
  known = λ rate is k less in_rows. absurd (omega (arith, less));
  filled = λ k from within. h k (omega (arith, within, all));
})

pub where_some : (o : Option (Unit {0})) (P : Type 0) → is_some o ≡ true → IfSome o (λ _. P) → P
where_some None P some h = absurd (clash (sym some))
where_some (Some u) P some h = h
