-- The best candidate, with one variable more.
use Rattle.std.proofs.Common.{◌≡◌, ◌≢◌, ℕ, suc, ◌-◌, ◌<◌, ◌≤◌, List, Bool, true, false, cond, refl, sym, ap, ap₂, subst, subst₂, ◌∙◌, arith}
use Rattle.std.specs.Prelude.{Option, Some, None, option_map, not, ◌&&◌, ◌||◌}
use Rattle.std.specs.List.{list_all}
use Rattle.exact_values.specs.Rational.{ℚ, zero_ℚ, ◌/ℚ◌}
use Rattle.exact_values.specs.Tests.{le_ℚ, lt_ℚ, magnitude}
use Rattle.exact_values.proofs.Order.{le_refl}
use Rattle.exact_values.proofs.TestsLaws.{lt_fails_from_le}
use Rattle.frac128.specs.declared.Op.TheVariants.{Div}
use Rattle.lp_definitions.specs.LinearProgram.{LinearProgram, Vector, size, variables, IsVariable}
use Rattle.lp_definitions.specs.declared.Evidence.{Evidence}
use Rattle.lp_definitions.specs.declared.Status.{Status}
use Rattle.lp_laws.proofs.Values.{clash}
use Rattle.simplex_definitions.specs.Moves.{is_no_later, signed, may_rise, may_fall}
use Rattle.simplex_laws.proofs.Numbered.{find_first, list_all_from, list_all_true}
use Rattle.simplex_laws.proofs.Searches.{least_none}
use Rattle.basis_values.specs.Formulas.{IsRefusal}
use Rattle.basis_values.specs.Reach.{IsNearest, sooner}
use Rattle.basis_values.proofs.Nearest.{next_nearest}
use Rattle.simplex_laws.proofs.Steps.{signed_zero}
use Rattle.dual_step.specs.Cheapest.{brings, ratio_of, cheapest_by, ratio_if, ratio_at, reach_by, IsCandidate, IsBest, ratio_formula, KeptRefused, of_best}
use Rattle.dual_step.specs.Cheapest.{of_other, SomeRatioRefused}
use Rattle.dual_step.specs.declared.ratios.Candidate.{Candidate}

neither : (up down : Bool) → ((lt_ℚ zero_ℚ zero_ℚ && up) || (lt_ℚ zero_ℚ zero_ℚ && down)) ≡ true → ⊥
neither up down e = clash (sym e ∙ ap (λ b. (b && up) || (b && down)) (lt_fails_from_le zero_ℚ zero_ℚ (le_refl zero_ℚ)))

module _ (p : LinearProgram) (s : List Status) (prices row : Vector) (below : Bool) where
  -- what brings it back has a rate other than 0
  pub brings_apart : (q : ℕ) → brings p s row below q ≡ true → row q ≢ zero_ℚ
  brings_apart q is zero =
      neither (may_rise p s q) (may_fall p s q)
      (subst (λ (x : ℚ). ((lt_ℚ x zero_ℚ && may_rise p s q) || (lt_ℚ zero_ℚ x && may_fall p s q)) ≡ true)
      (ap (signed (not below)) zero ∙ signed_zero (not below)) is)

  -- ---- the search

  pub begins : IsBest p s prices row below 0 None
  begins = record { candidate = tt; nearest = λ k low high. absurd (omega (arith, low, high)) }

  module _ (n : ℕ) where
    without : (best : Option Candidate) → brings p s row below (suc n) ≡ false → IsBest p s prices row below n best → IsBest p s prices row below (suc n) best
    without best none h = record { candidate = h.candidate; nearest = at best h.nearest }
      where
        gone : ratio_if p s prices row below (suc n) ≡ None
        gone = ap (λ b. cond b (Some (ratio_of prices row (suc n))) None) none

        at : (o : Option Candidate) → IsNearest (ratio_if p s prices row below) n (option_map reach_by o) →
            IsNearest (ratio_if p s prices row below) (suc n) (option_map reach_by o)
        at None h =
            subst (λ (o : Option ℚ). IsNearest (ratio_if p s prices row below) (suc n) (sooner None o (suc n))) gone
            (next_nearest (ratio_if p s prices row below) n None h)
        at (Some c) h =
            subst (λ (o : Option ℚ). IsNearest (ratio_if p s prices row below) (suc n) (sooner (Some (reach_by c)) o (suc n))) gone
            (next_nearest (ratio_if p s prices row below) n (Some (reach_by c)) h)

    module _ (price rate : ℚ) (price_is : price ≡ prices (suc n)) (rate_is : rate ≡ row (suc n)) (is : IsVariable p.matrix (suc n))
        (may : brings p s row below (suc n) ≡ true) where
      abbrev other : Candidate
      other = record { q = suc n; price = price; rate = rate }

      there : ratio_if p s prices row below (suc n) ≡ Some (ratio_at other)
      there = ap (λ b. cond b (Some (ratio_of prices row (suc n))) None) may ∙ ap₂ (λ a b. Some (magnitude (a /ℚ b))) (sym price_is) (sym rate_is)

      own : IsCandidate p s prices row below other
      own = record { is_variable = is; is_price = price_is; is_rate = rate_is; restores_feasibility = may }

      first : IsBest p s prices row below n None → IsBest p s prices row below (suc n) (Some other)
      first h = record {
        candidate = own;
        nearest =
            subst (λ (o : Option ℚ). IsNearest (ratio_if p s prices row below) (suc n) (sooner None o (suc n))) there
            (next_nearest (ratio_if p s prices row below) n None h.nearest);
      }

      kept : (present now : Candidate) → now ≡ cond (le_ℚ (ratio_at present) (ratio_at other)) present other → IsBest p s prices row below n (Some present) →
          IsBest p s prices row below (suc n) (Some now)
      kept present now found h =
          subst (λ (c : Candidate). IsBest p s prices row below (suc n) (Some c)) (sym found) (at (le_ℚ (ratio_at present) (ratio_at other)) step)
        where
          step : IsNearest (ratio_if p s prices row below) (suc n)
              (cond (le_ℚ (ratio_at present) (ratio_at other)) (Some (reach_by present)) (Some (reach_by other)))
          step =
              subst (λ (o : Option ℚ). IsNearest (ratio_if p s prices row below) (suc n) (sooner (Some (reach_by present)) o (suc n))) there
              (next_nearest (ratio_if p s prices row below) n (Some (reach_by present)) h.nearest)

          at : (b : Bool) → IsNearest (ratio_if p s prices row below) (suc n) (cond b (Some (reach_by present)) (Some (reach_by other))) →
              IsBest p s prices row below (suc n) (Some (cond b present other))
          at true near = record { candidate = h.candidate; nearest = near }
          at false near = record { candidate = own; nearest = near }

  -- ---- the same at k

  module _ (k : ℕ) (is : IsVariable p.matrix k) where
    next : suc (k - 1) ≡ k
    next = omega (arith, is.0)

    pub best_without : (best : Option Candidate) → brings p s row below k ≡ false → IsBest p s prices row below (k - 1) best →
        IsBest p s prices row below k best
    best_without best none h = subst (λ (m : ℕ). IsBest p s prices row below m best) next (without (k - 1) best (ap (brings p s row below) next ∙ none) h)

    module _ (price rate : ℚ) (price_is : price ≡ prices k) (rate_is : rate ≡ row k) (may : brings p s row below k ≡ true) where
      pub best_first : IsBest p s prices row below (k - 1) None → IsBest p s prices row below k (Some (record { q = k; price = price; rate = rate }))
      best_first h =
          subst (λ (m : ℕ). IsBest p s prices row below m (Some (record { q = m; price = price; rate = rate }))) next
          (first (k - 1) price rate (price_is ∙ ap prices (sym next)) (rate_is ∙ ap row (sym next)) (subst (λ (m : ℕ). IsVariable p.matrix m) (sym next) is)
          (ap (brings p s row below) next ∙ may) h)

      pub best_kept : (present now : Candidate) →
          now ≡ cond (le_ℚ (ratio_at present) (ratio_at (record { q = k; price = price; rate = rate }))) present
          (record { q = k; price = price; rate = rate }) →
          IsBest p s prices row below (k - 1) (Some present) → IsBest p s prices row below k (Some now)
      best_kept present now found h =
          subst (λ (m : ℕ). IsBest p s prices row below m (Some now)) next
          (kept (k - 1) price rate (price_is ∙ ap prices (sym next)) (rate_is ∙ ap row (sym next)) (subst (λ (m : ℕ). IsVariable p.matrix m) (sym next) is)
          (ap (brings p s row below) next ∙ may) present now
          (found ∙ ap (λ (m : ℕ). cond (le_ℚ (ratio_at present) (magnitude (price /ℚ rate))) present (record { q = m; price = price; rate = rate }))
          (sym next)) h)

      pub best_refused : (r : ℕ) (present : Candidate) (e : Evidence) → IsBest p s prices row below (k - 1) (Some present) →
          KeptRefused r present (record { q = k; price = price; rate = rate }) e → SomeRatioRefused p s prices row r below e
      best_refused r present e h (of_best refused) = record {
        j = present.q;
        is_variable = h.candidate.is_variable;
        restores_feasibility = h.candidate.restores_feasibility;
        refused = subst₂ (λ (a b : ℚ). IsRefusal (ratio_formula r present.q) Div a b e) h.candidate.is_price h.candidate.is_rate refused;
      }
      best_refused r present e h (of_other refused) = record {
        j = k;
        is_variable = is;
        restores_feasibility = may;
        refused = subst₂ (λ (a b : ℚ). IsRefusal (ratio_formula r k) Div a b e) price_is rate_is refused;
      }

  -- ---- the end

  no_later_is : (q j : ℕ) → brings p s row below q ≡ true → (b : Bool) → brings p s row below j ≡ b →
      is_no_later (ratio_if p s prices row below q) (ratio_if p s prices row below j) ≡ (not b || le_ℚ (ratio_of prices row q) (ratio_of prices row j))
  no_later_is q j own true is = rw (own, is) refl
  no_later_is q j own false is = rw (own, is) refl

  pub best_is_cheapest : (best : Option Candidate) → IsBest p s prices row below (size p.matrix) best →
      option_map (λ c. c.q) best ≡ cheapest_by p s prices row below
  best_is_cheapest None h = sym (least_none p _ (λ k is. not_one k is (brings p s row below k) refl))
    where
      gone : (b : Bool) (y : ℚ) → cond b (Some y) None ≡ None → b ≡ false
      gone true y e = cc
      gone false y e = refl

      not_one : (k : ℕ) → IsVariable p.matrix k → (b : Bool) → brings p s row below k ≡ b →
          (brings p s row below k && list_all (λ j. not (brings p s row below j) || le_ℚ (ratio_of prices row k) (ratio_of prices row j))
          (variables p.matrix)) ≡ false
      not_one k is b e = rw (gone (brings p s row below k) (ratio_of prices row k) (h.nearest k is.0 is.1)) refl
  best_is_cheapest (Some c) h = sym (find_first _ (size p.matrix) 1 c.q h.nearest.low (omega (arith, h.nearest.high)) own earlier)
    where
      may : brings p s row below c.q ≡ true
      may = h.candidate.restores_feasibility

      all : list_all (λ j. not (brings p s row below j) || le_ℚ (ratio_of prices row c.q) (ratio_of prices row j)) (variables p.matrix) ≡ true
      all = list_all_from (λ j. not (brings p s row below j) || le_ℚ (ratio_of prices row c.q) (ratio_of prices row j)) (size p.matrix) 1
          (λ j low high. sym (no_later_is c.q j may (brings p s row below j) refl) ∙ h.nearest.first j low (omega (arith, high)))

      own : (brings p s row below c.q && list_all (λ j. not (brings p s row below j) || le_ℚ (ratio_of prices row c.q) (ratio_of prices row j))
          (variables p.matrix)) ≡ true
      own = ap₂ (λ a b. a && b) may all

      earlier : (j : ℕ) → 1 ≤ j → j < c.q →
          (brings p s row below j && list_all (λ i. not (brings p s row below i) || le_ℚ (ratio_of prices row j) (ratio_of prices row i))
          (variables p.matrix)) ≡ false
      earlier j low less = by_may (brings p s row below j) refl
        where
          by_all : brings p s row below j ≡ true → (b : Bool) →
              list_all (λ i. not (brings p s row below i) || le_ℚ (ratio_of prices row j) (ratio_of prices row i)) (variables p.matrix) ≡ b → b ≡ false
          by_all own_j false is = refl
          by_all own_j true is =
              absurd (clash (sym (no_later_is j c.q own_j true may ∙ sym (ap (λ b. not b || le_ℚ (ratio_of prices row j) (ratio_of prices row c.q)) may)
              ∙ list_all_true (λ i. not (brings p s row below i) || le_ℚ (ratio_of prices row j) (ratio_of prices row i)) (size p.matrix) 1 is c.q h.nearest.low
              (omega (arith, h.nearest.high))) ∙ h.nearest.later j low less))

          by_may : (b : Bool) → brings p s row below j ≡ b →
              (b && list_all (λ i. not (brings p s row below i) || le_ℚ (ratio_of prices row j) (ratio_of prices row i)) (variables p.matrix)) ≡ false
          by_may false is = refl
          by_may true is =
              by_all is (list_all (λ i. not (brings p s row below i) || le_ℚ (ratio_of prices row j) (ratio_of prices row i)) (variables p.matrix)) refl
