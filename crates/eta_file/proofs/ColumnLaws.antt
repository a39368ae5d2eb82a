-- What the rates by columns show.
use Rattle.std.proofs.Common.{◌≡◌, ℕ, ◌+◌, ◌-◌, ◌<◌, List, [], ◌∷◌, ◌++◌, inl, inr, length, get_or, set, refl, sym, ◌∙◌, ap, true, false, cond, Bool, subst}
use Rattle.std.proofs.Common.{arith, All, below_more, Ok, Err, Result, OnOk, OnErr}
use Rattle.std.proofs.lemmas.List.Elements.{Contains-get_or, All-append}
use Rattle.std.proofs.lemmas.List.{get_or-set_same, get_or-set_other}
use Rattle.exact_values.specs.Rational.{ℚ, zero_ℚ}
use Rattle.lp_definitions.specs.LinearProgram.{Matrix, size, IsVariable, value_at}
use Rattle.lp_definitions.specs.Basis.{is_in, IsNonsingular, IsDirectionOf, AreRates, exchanged, row_basics}
use Rattle.lp_definitions.specs.RatesEvidence.{RowRefused}
use Rattle.lp_model.specs.declared.Stop.{Stop}
use Rattle.lp_model.specs.declared.Stop.TheVariants.{Overflow, NoMemory}
use Rattle.lp_laws.proofs.Uniqueness.{one_direction}
use Rattle.lp_laws.proofs.Values.{clash}
use Rattle.lp_definitions.specs.Waypoints.{KeepsWaypoints, IsKept}
use Rattle.lp_model.specs.RatesCalls.{IsRowOf, IfOverflow}
use Rattle.lp_model.specs.RatesState.{KeepsBasics}
use Rattle.lp_laws.proofs.Opening.{length-row_basics, AreRates-opening}
use Rattle.lp_laws.proofs.WaypointLaws.{within_itself, keeps_same}
use Rattle.lp_laws.specs.Rates.{opening_rate}
use Rattle.lp_laws.proofs.Places.{value_at_place}
use Rattle.eta_file.specs.Prefixes.{Passed, after, prefixes}
use Rattle.eta_file.specs.Inverse.{Inverse, ways_of, file_state, IsAppended, IsRateAt, IsColumnStop}
use Rattle.eta_file.proofs.PrefixLaws.{prefixes-append, rates_after}

-- and so does one with one eta more
pub keeps_appended : (f : Inverse) (p q : ℕ) (g : Inverse) → f.basics ≡ after (row_basics f.matrix) f.etas → IsAppended f p q g →
    KeepsWaypoints f.matrix f.basics (ways_of f) g.basics (ways_of g)
keeps_appended f p q g are h = record {
  each = subst (λ ws. All (IsKept f.matrix f.basics (ways_of f) g.basics) ws) (sym more)
      (All-append (IsKept f.matrix f.basics (ways_of f) g.basics) (ways_of f) (g.basics ∷ [])
      (λ k d below. inl (Contains-get_or (ways_of f) k d below)) last);
}
  where
    more : ways_of g ≡ ways_of f ++ (g.basics ∷ [])
    more =
        ap (λ (a : Matrix). prefixes (row_basics a) g.etas) h.same_matrix ∙ ap (prefixes (row_basics f.matrix)) h.one_more
        ∙ prefixes-append (row_basics f.matrix) f.etas h.eta
        ∙ ap (λ w. ways_of f ++ (w ∷ []))
        (ap (λ w. exchanged w h.eta.p h.eta.q) (sym are) ∙ ap (λ i. exchanged f.basics i h.eta.q) h.is_p ∙ ap (λ i. exchanged f.basics p i) h.is_q
        ∙ sym h.is_exchanged)

    last : All (IsKept f.matrix f.basics (ways_of f) g.basics) (g.basics ∷ [])
    last k d below =
        let first : 0 ≡ k = omega arith in
        subst (λ n. IsKept f.matrix f.basics (ways_of f) g.basics (get_or (g.basics ∷ []) n d)) first (inr (inr (within_itself f.matrix g.basics)))

-- the values at all variables are a row
pub row_of_rates : (f : Inverse) (i : ℕ) (xs : List ℚ) → f.basics ≡ after (row_basics f.matrix) f.etas → Passed f.matrix (row_basics f.matrix) f.etas
    → IsVariable f.matrix i
    → ((k : ℕ) → k < size f.matrix → IsRateAt f i (k + 1) (get_or xs k zero_ℚ)) → IsRowOf f.matrix f.basics i (value_at xs)
row_of_rates f i xs are passed var each = record {
  rate = rates.0;
  are_rates = rates.1;
  entries = λ k is.
      let number : k - 1 + 1 ≡ k = omega (arith, is.0) in
      at k is (is_in f.basics k) refl (subst (λ n. IsRateAt f i n (get_or xs (k - 1) zero_ℚ)) number (each (k - 1) (omega (arith, is.0, is.1))));
}
  where
    rates : (rate : ℕ → ℕ → ℚ) × AreRates f.matrix f.basics rate
    rates =
        subst (λ b. (rate : ℕ → ℕ → ℚ) × AreRates f.matrix b rate) (sym are)
        (rates_after f.matrix (row_basics f.matrix) f.etas (opening_rate f.matrix) (length-row_basics f.matrix) (AreRates-opening f.matrix) passed)

    at : (k : ℕ) → IsVariable f.matrix k → (mark : Bool) → is_in f.basics k ≡ mark → IsRateAt f i k (value_at xs k) →
        value_at xs k ≡ cond mark zero_ℚ (rates.0 i k)
    at k is true basic h = h.at_basic basic
    at k is false out h = h.at_nonbasic out (λ n. rates.0 n k) (rates.1 k (is, out))

-- one value more
pub each_more : (P : ℕ → ℚ → Type 0) (n : ℕ) (xs : List ℚ) (v : ℚ) → n < length xs → P n v → ((k : ℕ) → k < n → P k (get_or xs k zero_ℚ))
    → (k : ℕ) → k < n + 1 → P k (get_or (set xs n v) k zero_ℚ)
each_more P n xs v within next so_far =
    below_more (λ k. P k (get_or (set xs n v) k zero_ℚ)) n
    (λ k below. let other : k ≡ n → ⊥ = omega arith in subst (P k) (sym (get_or-set_other xs n k v zero_ℚ other)) (so_far k below))
    (subst (P n) (sym (get_or-set_same xs n v zero_ℚ within)) next)

-- a rate is read in the direction
pub rate_read : (f : Inverse) (i k : ℕ) (v : ℚ) (xs : List ℚ) → IsNonsingular f.matrix f.basics → IsVariable f.matrix i → IsVariable f.matrix k → (basic : Bool)
    → basic ≡ is_in f.basics k → basic ≡ false
    → length xs ≡ size f.matrix → IsDirectionOf f.matrix f.basics k (value_at xs) → v ≡ get_or xs (i - 1) v → IsRateAt f i k v
rate_read f i k v xs one is_i is_k basic is_mark out counted direction read = record {
  at_basic = λ inside. absurd (clash (sym inside ∙ sym is_mark ∙ out));
  at_nonbasic = λ outside d its.
      value_at_place xs i v is_i.0 (omega (arith, is_i.1, counted)) read ∙ one_direction f.matrix f.basics k (value_at xs) d one direction its i is_i;
}

-- the column of a nonbasic that is refused refuses a row
pub row_stop : (f : Inverse) (stop : Stop) → IsColumnStop f stop → IfOverflow stop (RowRefused f.matrix (f.basics ∷ ways_of f) f.basics (ways_of f))
row_stop f (Overflow e) h = inl h
row_stop f NoMemory h = h

-- a call that leaves the file
pub keeps_itself : (f : Inverse) → KeepsBasics (file_state f) (file_state f)
keeps_itself f = record { same_matrix = refl; same_basics = refl; waypoints = keeps_same f.matrix f.basics (ways_of f) }

pub keeps_exchange : (r : Result (Unit {0}) Stop) (f : Inverse) (p q : ℕ) (g : Inverse) → f.basics ≡ after (row_basics f.matrix) f.etas
    → OnOk r (IsAppended f p q g) → OnErr r (g ≡ f)
    → KeepsWaypoints f.matrix f.basics (ways_of f) g.basics (ways_of g)
keeps_exchange (Ok x) f p q g are appended same = keeps_appended f p q g are appended
keeps_exchange (Err e) f p q g are appended same =
    subst (λ (h : Inverse). KeepsWaypoints f.matrix f.basics (ways_of f) h.basics (ways_of h)) (sym same) (keeps_same f.matrix f.basics (ways_of f))
