-- The multiplier of a leaver, from those of the set after its exchange.
use Rattle.std.proofs.Common.{◌≡◌, ◌≢◌, ℕ, zero, suc, ◌+◌, ◌-◌, ◌<◌, ◌≤◌, List, [], ◌∷◌, length, take, get_or, set, Bool, refl, sym, ◌∙◌, ap, ap₂, true, false}
use Rattle.std.proofs.Common.{subst, arith, add-one, All}
use Rattle.std.specs.Prelude.{nat_eq, pos}
use Rattle.std.proofs.lemmas.List.{get_or-set_same, get_or-set_other}
use Rattle.exact_values.specs.Rational.{ℚ, zero_ℚ, neg_ℚ, ◌*ℚ◌, ◌/ℚ◌}
use Rattle.exact_values.proofs.Ring.{by_ring1, by_ring2, ◌⊗◌, ◌≐◌, opposite, number}
use Rattle.exact_values.proofs.Inverse.{div_is}
use Rattle.lp_definitions.specs.LinearProgram.{Vector, size, IsVariable, KeepsEquations, value_at}
use Rattle.lp_definitions.specs.Basis.{Basics, is_in, IsBasic, IsNonsingular, AreRates, exchanged, row_basics}
use Rattle.lp_definitions.specs.RatesEvidence.{multiplier, sum_from}
use Rattle.lp_laws.specs.Vectors.{functional}
use Rattle.lp_laws.proofs.Values.{clash}
use Rattle.lp_laws.proofs.Exchange.{entering_in, leaver_out, others_stay}
use Rattle.lp_laws.proofs.Combination.{multiplier_vanishes}
use Rattle.lp_laws.proofs.Opening.{IsNonsingular-row_basics}
use Rattle.lp_laws.proofs.Ordered.{carried_back}
use Rattle.lp_laws.proofs.Idle.{zero_over}
use Rattle.eta_file.specs.declared.eta.EtaEntry.{EtaEntry}
use Rattle.eta_file.specs.declared.eta.StoredEta.{StoredEta}
use Rattle.eta_file.specs.Entries.{IsEntryWithin}
use Rattle.eta_file.specs.Prefixes.{IsEta, IsLent, Passed, rate_entries}
use Rattle.eta_file.specs.Inverse.{Inverse}
use Rattle.eta_file.proofs.RateEntries.{rate_entry}
use Rattle.eta_file.proofs.PrefixLaws.{eta_at, Passed-take, nonsingular_after, after-take_next}
use Rattle.price_row.specs.Sums.{weighted}
use Rattle.price_row.specs.Known.{set_of, IsKnown, IsMultiplierAt}
use Rattle.price_row.proofs.OtherBasics.{sums_agree}

module _ (f : Inverse) (passed : Passed f.matrix (row_basics f.matrix) f.etas) (k : ℕ) (below : k < length f.etas) (d : StoredEta) (p q : ℕ)
    (entries : List EtaEntry) (lent : IsLent f.etas (k + 1 - 1) p q entries) where
  abbrev eta : StoredEta
  eta = get_or f.etas k d

  abbrev w : Basics
  w = set_of f k

  same_place : k + 1 - 1 ≡ k
  same_place = omega arith

  pub is : IsEta f.matrix w eta
  is = eta_at f.matrix (row_basics f.matrix) f.etas k d passed below

  pub p_is : eta.p ≡ p
  p_is = ap (λ n. (get_or f.etas n d).p) (sym same_place) ∙ lent.is_p d

  pub q_is : eta.q ≡ q
  q_is = ap (λ n. (get_or f.etas n d).q) (sym same_place) ∙ lent.is_q d

  pub q_in : IsVariable f.matrix q
  q_in = subst (λ n. IsVariable f.matrix n) q_is is.enters.0

  pub entries_are : entries ≡ rate_entries f.matrix w (λ i. is.rate i eta.q)
  entries_are = sym (ap (λ n. (get_or f.etas n d).entries.items) (sym same_place) ∙ lent.are_entries d) ∙ is.are_entries

  pub entries_within : (n : ℕ) → n ≡ size f.matrix → All (IsEntryWithin n) entries
  entries_within n same i x inside =
      let one = rate_entry f.matrix w (λ v. is.rate v eta.q) i x (subst (λ es. i < length es) entries_are inside) in
      subst (λ es. IsEntryWithin n (get_or es i x)) (sym entries_are) (one.low, omega (arith, one.high, same))

  pub pivot_is : (v : ℚ) → ((x : StoredEta) → (get_or f.etas (k + 1 - 1) x).pivot ≡ v) → v ≡ is.rate eta.p eta.q
  pivot_is v each = sym (ap (λ n. (get_or f.etas n d).pivot) (sym same_place) ∙ each d) ∙ is.is_pivot

  w_counted : length w ≡ size f.matrix
  w_counted =
      (nonsingular_after f.matrix (row_basics f.matrix) (take k f.etas) (IsNonsingular-row_basics f.matrix)
      (Passed-take f.matrix (row_basics f.matrix) f.etas k passed)).counted

  next : set_of f (k + 1) ≡ exchanged w eta.p eta.q
  next = ap (set_of f) (add-one k) ∙ after-take_next (row_basics f.matrix) f.etas k d below

  -- one multiplier more
  pub known_more : (r : ℕ) (xs : List ℚ) (v : ℚ) → length xs ≡ size f.matrix → IsKnown f (k + 1) r xs → IsMultiplierAt f k r v →
      IsKnown f k r (set xs (p - 1) v)
  known_more r xs v counted known h = record { each = λ rate are i var inside. at rate are i var inside (nat_eq i eta.p) refl }
    where
      at : (rate : ℕ → ℕ → ℚ) → AreRates f.matrix f.basics rate → (i : ℕ) → IsVariable f.matrix i → is_in w i ≡ true → (b : Bool) → nat_eq i eta.p ≡ b →
          value_at (set xs (p - 1) v) i ≡ multiplier f.basics rate r i
      at rate are i var inside true e =
          let same : i ≡ eta.p = grind (arith, e) in
          ap (λ n. get_or (set xs (p - 1) v) (n - 1) zero_ℚ) (same ∙ p_is)
          ∙ get_or-set_same xs (p - 1) v zero_ℚ (omega (arith, is.leaves.0.0, is.leaves.0.1, p_is, counted))
          ∙ h.is_multiplier d rate are ∙ ap (multiplier f.basics rate r) (sym same)
      at rate are i var inside false e =
          let other : i ≢ eta.p = grind (arith, e) in
          let not_q : i ≢ eta.q = λ same. clash (sym inside ∙ ap (is_in w) same ∙ is.enters.1) in
          get_or-set_other xs (p - 1) (i - 1) v zero_ℚ (λ same. other (omega (arith, same, var.0, is.leaves.0.0, p_is)))
          ∙ known.each rate are i var (ap (λ b. is_in b i) next ∙ others_stay f.matrix w w_counted eta.p eta.q is.leaves is.enters i var other not_q ∙ inside)

  pub p_within : IsVariable f.matrix p
  p_within = subst (λ n. IsVariable f.matrix n) p_is is.leaves.0

  -- what stands at the leaver is of no account
  pub known_cleared : (r : ℕ) (xs : List ℚ) (v : ℚ) → IsKnown f (k + 1) r xs → IsKnown f (k + 1) r (set xs (p - 1) v)
  known_cleared r xs v known = record {
    each = λ rate are i var inside.
        let other : i ≢ eta.p =
        λ same. clash
        (sym inside ∙ ap (λ b. is_in b i) next ∙ ap (is_in (exchanged w eta.p eta.q)) same
        ∙ leaver_out f.matrix w w_counted eta.p eta.q is.leaves is.enters) in
        get_or-set_other xs (p - 1) (i - 1) v zero_ℚ (λ same. other (omega (arith, same, var.0, is.leaves.0.0, p_is))) ∙ known.each rate are i var inside;
  }

  module _ (r : ℕ) (basic : IsBasic f.matrix f.basics r) (one : IsNonsingular f.matrix f.basics) (xs : List ℚ) (known : IsKnown f (k + 1) r xs)
      (rate : ℕ → ℕ → ℚ) (are : AreRates f.matrix f.basics rate) where
    abbrev y : Vector
    y = multiplier f.basics rate r

    in_range : (i : ℕ) → 1 ≤ i → is_in w i ≡ true → IsVariable f.matrix i
    in_range i low inside = (low, (let h = marked_below w (i - 1) inside in omega (arith, h, w_counted, low)))
      where
        marked_below : (ms : Basics) (n : ℕ) → get_or ms n false ≡ true → n < length ms
        marked_below [] n h = absurd (clash (sym h))
        marked_below (m ∷ ms) zero h = omega arith
        marked_below (m ∷ ms) (suc n) h = let rest = marked_below ms n h in omega (arith, rest)

    agrees : (i : ℕ) → 1 ≤ i → is_in w i ≡ true → i ≢ eta.p → value_at xs i ≡ y i
    agrees i low inside other =
        let var : IsVariable f.matrix i = in_range i low inside in
        let not_q : i ≢ eta.q = λ e. clash (sym inside ∙ ap (is_in w) e ∙ is.enters.1) in
        known.each rate are i var (ap (λ b. is_in b i) next ∙ others_stay f.matrix w w_counted eta.p eta.q is.leaves is.enters i var other not_q ∙ inside)

    at_q : value_at xs eta.q ≡ y eta.q
    at_q = known.each rate are eta.q is.enters.0 (ap (λ b. is_in b eta.q) next ∙ entering_in f.matrix w w_counted eta.p eta.q is.leaves is.enters)

    vanishes : (x : Vector) → KeepsEquations f.matrix x → functional f.matrix y x ≡ zero_ℚ
    vanishes = multiplier_vanishes f.matrix f.basics rate are one r basic

    -- the sum is the opposite of what the leaver has
    total : (first sum : ℚ) → first ≡ value_at xs q → sum ≡ sum_from first (weighted p xs entries) → sum ≡ neg_ℚ (y eta.p *ℚ is.rate eta.p eta.q)
    total first sum is_first is_sum =
        is_sum
        ∙ ap₂ (λ s es. sum_from s (weighted p xs es)) (is_first ∙ ap (value_at xs) (sym q_is) ∙ at_q) entries_are
        ∙ ap (λ i. sum_from (y eta.q) (weighted i xs (rate_entries f.matrix w (λ v. is.rate v eta.q)))) (sym p_is)
        ∙ sums_agree w (λ i. is.rate i eta.q) eta.p xs y agrees 1 (size f.matrix) (y eta.q) (omega arith)
        ∙ carried_back f.matrix w is.rate eta.p eta.q y is.are_rates is.leaves is.enters vanishes

    pub multiplier_is : (first sum pivot ratio : ℚ) → first ≡ value_at xs q → sum ≡ sum_from first (weighted p xs entries) → pivot ≡ is.rate eta.p eta.q →
        ratio ≡ sum /ℚ pivot → neg_ℚ ratio ≡ y eta.p
    multiplier_is first sum pivot ratio is_first is_sum is_pivot is_ratio =
        let divided : sum /ℚ pivot ≡ neg_ℚ (y eta.p) =
        div_is sum pivot (neg_ℚ (y eta.p)) (λ none. is.apart (sym is_pivot ∙ none))
        (total first sum is_first is_sum ∙ by_ring2 (y eta.p) (is.rate eta.p eta.q) (λ y v. opposite (y ⊗ v) ≐ opposite y ⊗ v) refl
        ∙ ap (λ v. neg_ℚ (y eta.p) *ℚ v) (sym is_pivot)) in
        ap neg_ℚ (is_ratio ∙ divided) ∙ by_ring1 (y eta.p) (λ y. opposite (opposite y) ≐ y) refl

-- a sum of 0 needs no quotient
pub idle_quotient : (sum pivot : ℚ) → sum ≡ zero_ℚ → sum ≡ neg_ℚ (sum /ℚ pivot)
idle_quotient sum pivot none = none ∙ sym (ap neg_ℚ (zero_over sum pivot none) ∙ by_ring1 zero_ℚ (λ z. opposite (number (pos 0)) ≐ number (pos 0)) refl)

-- an eta of a list that has one
pub an_eta : (etas : List StoredEta) (k : ℕ) → k < length etas → StoredEta
an_eta [] k below = absurd (omega arith)
an_eta (e ∷ es) k below = e
