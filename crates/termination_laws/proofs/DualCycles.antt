-- No dual path returns to a basis: on a closed walk the objective stays as it is, so that the price of what enters is 0 at each step and
-- the prices are one vector throughout; a nonbasic that might bring a basic back and doesn't, for its ratio isn't the least, has a price
-- other than 0, and so one value throughout.
--     IsRightBasis p s             a basis with right prices
--     no_dual_return               a dual path of one step and more doesn't end where it began
use Rattle.std.proofs.Common.{◌≡◌, ◌≢◌, ℕ, ◌<◌, ◌⊎◌, inl, inr, Bool, true, false, List, [], ◌∷◌, length, pos, refl, sym, ap, ap₂, subst, ◌∙◌, arith}
use Rattle.std.specs.Prelude.{Option, None, not, ◌&&◌, ◌||◌, eqb, if◌then◌else◌}
use Rattle.std.proofs.lemmas.Bool.{or_right}
use Rattle.std.proofs.lemmas.Bool.Decides.{eqb_tells}
use Rattle.std.proofs.lemmas.Option.{same_Some}
use Rattle.exact_values.specs.Rational.{ℚ, zero_ℚ, one_ℚ, ◌-ℚ◌, ◌*ℚ◌, ◌/ℚ◌, ◌≤ℚ◌, ◌<ℚ◌}
use Rattle.exact_values.specs.Tests.{le_ℚ}
use Rattle.exact_values.proofs.Inverse.{zero_product}
use Rattle.exact_values.proofs.Order.{le_of_eq, le_of_lt, le_trans, le_antisymm, le_by_product, lt_or_le, lt_from_le, apart_from_above}
use Rattle.exact_values.proofs.Ring.{by_ring2, ◌⊕◌, ◌⊖◌, ◌⊗◌, ◌≐◌, number}
use Rattle.exact_values.proofs.RingLaws.{zero-mul, mul-zero}
use Rattle.lp_definitions.specs.LinearProgram.{LinearProgram, Vector, size, IsVariable, IsLinearProgram, lower_of, upper_of, for_min, with_change_row}
use Rattle.lp_definitions.specs.Basis.{Basics, is_in, is_basic, basics_of, status_of, IsBasic, IsNonbasic, IsPointOf, AreRates, Tableau, IsTableau}
use Rattle.lp_definitions.specs.Basis.{objective_rate, price_at}
use Rattle.lp_definitions.specs.declared.Status.{Status}
use Rattle.lp_definitions.specs.declared.Status.TheVariants.{Ll, Ul}
use Rattle.lp_laws.specs.Rates.{exchanged_rate}
use Rattle.lp_laws.proofs.Statuses.{status_of_nonbasic, nonbasic_from}
use Rattle.lp_laws.proofs.Uniqueness.{one_point, is_in-basics_of}
use Rattle.lp_laws.proofs.Values.{clash}
use Rattle.simplex_definitions.specs.Moves.{is_below, is_fixed, lowers, signed}
use Rattle.simplex_definitions.specs.DualRatio.{restores_feasibility, ratio, is_cheapest}
use Rattle.simplex_definitions.specs.Path.{after, entering_variable, worth_rate, last_of}
use Rattle.simplex_definitions.specs.DualPath.{dual_turn, HasRightPrices, IsDualStep, IsDualPath}
use Rattle.simplex_laws.specs.Laws.{IsNonsingularBasis}
use Rattle.simplex_laws.proofs.Ends.{right}
use Rattle.simplex_laws.proofs.Numbered.{list_all_from}
use Rattle.simplex_laws.proofs.OnePath.{same_tableau}
use Rattle.simplex_laws.proofs.Rays.{broken_basic, broken_limit}
use Rattle.simplex_laws.proofs.Steps.{signed_zero}
use Rattle.simplex_laws.proofs.DualStep.{own, some, enters, rates_after}
use Rattle.simplex_laws.proofs.DualTurns.{IsReturn, return_of, cheapest_passes, brings, least_ratio, right_at, wrong_same, dual_leads_to, keeps_right}
use Rattle.simplex_laws.proofs.Magnitudes.{zero_first}
use Rattle.termination_laws.proofs.Walks.{Visit, In, IsWalk, Turned, turn_to, IsVisitBy, visit_step, visits, is_walk, are_visits}
use Rattle.termination_laws.proofs.Numbers.{find_before}
use Rattle.termination_laws.proofs.Resting.{StopsAt, idle_stops}
use Rattle.termination_laws.proofs.Fickle.{Exchanges, entered, left, stayed}
use Rattle.termination_laws.proofs.Returns.{IsReturning, returning_exchanges, no_return_cycle}
use Rattle.termination_laws.proofs.DualGains.{gain_is, goes, moved, no_improvement, as_good, for_min_zero}

-- a variable that stands at a limit by its price stands there wherever it has this price
one_limit : (low high : Option ℚ) (z w v : ℚ) → v ≢ zero_ℚ → StopsAt low high z v → StopsAt low high w v → z ≡ w
one_limit low high z w v apart first second = by_sign (lt_or_le v zero_ℚ)
  where
    by_sign : (v <ℚ zero_ℚ) ⊎ (zero_ℚ ≤ℚ v) → z ≡ w
    by_sign (inl less) = same_Some z w (sym (first.rising less) ∙ second.rising less)
    by_sign (inr least) =
        let more = lt_from_le least (λ e. apart (sym e)) in
        same_Some z w (sym (first.falling more) ∙ second.falling more)

module _ (p : LinearProgram) (lawful : IsLinearProgram p) (no_change : p.change ≡ None) where
  abbrev pub IsRightBasis : List Status → Type 0
  IsRightBasis s = IsNonsingularBasis p s × HasRightPrices p s

  abbrev IsDualVisit : Visit → Type 0
  IsDualVisit = IsVisitBy dual_turn p IsRightBasis

  pub right_leads : (s next : List Status) → IsRightBasis s → IsDualStep p s next → IsRightBasis next
  right_leads s next good step = ((dual_leads_to p s next good.0 step).at, keeps_right p s next lawful no_change good.0 good.1 step)

  objective_is : (rate : ℕ → ℕ → ℚ) (k : ℕ) → objective_rate p rate k ≡ rate p.objective k
  objective_is rate k = ap (λ c. with_change_row c (λ i. rate i k) (rate p.objective k)) no_change

  objective_row : IsVariable p.matrix p.objective
  objective_row = (lawful.objective_row.0, omega (arith, lawful.objective_row.1))

  -- ---- a visit

  module _ (v : Visit) (h : IsDualVisit v) where
    is_right : entering_variable p v.basis v.tableau None ≡ None
    is_right =
        wrong_same p v.basis v.tableau h.at.1.tableau lawful h.at.0 (same_tableau p v.basis h.at.0 v.tableau h.at.1.tableau h.is_tableau h.at.1.is_tableau)
        ∙ h.at.1.right

    abbrev back : IsReturn p v.basis v.tableau v.move
    back = return_of p v.basis v.tableau v.move h.turns

    abbrev below : Bool
    below = is_below p v.tableau.point back.r

    abbrev next : List Status
    next = after v.basis (record { enters = back.q; leaves = back.r; to = if below then Ll else Ul })

    is_q : IsVariable p.matrix back.q
    is_q = (cheapest_passes p v.basis h.at.0 v.tableau h.is_tableau v.move back).0

    brings_q : restores_feasibility p v.basis v.tableau back.r below back.q ≡ true
    brings_q = brings p v.basis h.at.0 v.tableau h.is_tableau v.move back

    right_prices : (k : ℕ) → IsVariable p.matrix k → lowers p v.basis (worth_rate p v.basis v.tableau) k ≡ false
    right_prices = right_at p no_change v.basis h.at.0 v.tableau h.is_tableau is_right v.move back

    least : (j : ℕ) → IsVariable p.matrix j → restores_feasibility p v.basis v.tableau back.r below j ≡ true →
        ratio p v.basis v.tableau back.r back.q ≤ℚ ratio p v.basis v.tableau back.r j
    least = least_ratio p no_change v.basis h.at.0 v.tableau h.is_tableau is_right v.move back

    leaves : IsBasic p.matrix (basics_of v.basis) back.r
    leaves = broken_basic p v.basis v.tableau back.r back.phase

    q_enters : IsNonbasic p.matrix (basics_of v.basis) back.q
    q_enters = enters p no_change v.basis h.at.0 v.tableau h.is_tableau right_prices back.r back.q below leaves is_q brings_q least

    dual_returning : IsReturning p v
    dual_returning =
        record { at = h.at.0; is_tableau = h.is_tableau; r = back.r; q = back.q; phase = back.phase; is_q = is_q; lowers_it = brings_q; gives = back.gives }

    -- the loss for each unit, and how far r goes
    module _ (z : Vector) (point : IsPointOf p (after v.basis v.move) z) where
      there : IsPointOf p next z
      there = subst (λ m. IsPointOf p (after v.basis m) z) back.gives point

      far : zero_ℚ <ℚ signed below (z back.r -ℚ v.tableau.point back.r)
      far = goes p v.basis h.at.0 v.tableau h.is_tableau back.r back.q below leaves q_enters z there (broken_limit p v.basis v.tableau back.r back.phase)

      loses : for_min p.sense (z p.objective -ℚ v.tableau.point p.objective) ≡ ratio p v.basis v.tableau back.r back.q *ℚ signed below
          (z back.r -ℚ v.tableau.point back.r)
      loses =
          gain_is p v.basis h.at.0 v.tableau h.is_tableau back.r back.q below leaves q_enters z there (ratio p v.basis v.tableau back.r back.q) objective_row
          (own p no_change v.basis h.at.0 v.tableau h.is_tableau right_prices back.r back.q below leaves is_q brings_q least)

      -- the objective gets no better
      gets_no_improvement : for_min p.sense (v.tableau.point p.objective) ≤ℚ for_min p.sense (z p.objective)
      gets_no_improvement =
          no_improvement p.sense (v.tableau.point p.objective) (z p.objective)
          (subst (λ y. zero_ℚ ≤ℚ y) (sym loses)
          (le_by_product (some p no_change v.basis h.at.0 v.tableau h.is_tableau right_prices back.r back.q below leaves is_q brings_q least) (le_of_lt far)
          (by_ring2 (ratio p v.basis v.tableau back.r back.q) (signed below (z back.r -ℚ v.tableau.point back.r))
          (λ m d. m ⊗ d ≐ number (pos 0) ⊕ (m ⊖ number (pos 0)) ⊗ (d ⊖ number (pos 0))) refl)))

      -- and where it is as good after the step, the price of what enters is 0
      no_price : for_min p.sense (z p.objective) ≤ℚ for_min p.sense (v.tableau.point p.objective) → v.tableau.rate p.objective back.q ≡ zero_ℚ
      no_price good =
          by_factor (zero_product x_q (v.tableau.rate p.objective back.q)
          (sym (moved p v.basis h.at.0 v.tableau h.is_tableau back.r back.q below leaves q_enters z there p.objective objective_row) ∙ unmoved))
        where
          x_q : ℚ
          x_q = z back.q -ℚ v.tableau.point back.q

          unmoved : z p.objective -ℚ v.tableau.point p.objective ≡ zero_ℚ
          unmoved =
              for_min_zero p.sense (z p.objective -ℚ v.tableau.point p.objective)
              (le_antisymm (as_good p.sense (v.tableau.point p.objective) (z p.objective) good)
              (subst (λ y. zero_ℚ ≤ℚ y) (sym loses)
              (le_by_product (some p no_change v.basis h.at.0 v.tableau h.is_tableau right_prices back.r back.q below leaves is_q brings_q least) (le_of_lt far)
              (by_ring2 (ratio p v.basis v.tableau back.r back.q) (signed below (z back.r -ℚ v.tableau.point back.r))
              (λ m d. m ⊗ d ≐ number (pos 0) ⊕ (m ⊖ number (pos 0)) ⊗ (d ⊖ number (pos 0))) refl))))

          infeasible_end : x_q ≡ zero_ℚ → z back.r -ℚ v.tableau.point back.r ≡ zero_ℚ
          infeasible_end e =
              moved p v.basis h.at.0 v.tableau h.is_tableau back.r back.q below leaves q_enters z there back.r leaves.0
              ∙ ap (λ y. y *ℚ v.tableau.rate back.r back.q) e ∙ zero-mul (v.tableau.rate back.r back.q)

          by_factor : (x_q ≡ zero_ℚ) ⊎ (v.tableau.rate p.objective back.q ≡ zero_ℚ) → v.tableau.rate p.objective back.q ≡ zero_ℚ
          by_factor (inr none) = none
          by_factor (inl e) = absurd (apart_from_above far (ap (signed below) (infeasible_end e) ∙ signed_zero below))

    -- ---- the prices after the step, where that of what enters is 0

    exchanges : Exchanges p v
    exchanges = returning_exchanges p v dual_returning

    right_next : IsRightBasis (after v.basis v.move)
    right_next = right_leads v.basis (after v.basis v.move) h.at (visit_step dual_turn p IsRightBasis v h)

    module _ (u : Tableau) (tab : IsTableau p (after v.basis v.move) u) (none : v.tableau.rate p.objective back.q ≡ zero_ℚ) where
      rates_there : AreRates p.matrix (basics_of (after v.basis v.move)) (exchanged_rate v.tableau.rate back.r back.q)
      rates_there =
          subst (λ m. AreRates p.matrix (basics_of (after v.basis m)) (exchanged_rate v.tableau.rate back.r back.q)) (sym back.gives)
          (rates_after p no_change v.basis h.at.0 v.tableau h.is_tableau right_prices back.r back.q below leaves is_q brings_q least)

      rate_there : (k : ℕ) → IsNonbasic p.matrix (basics_of (after v.basis v.move)) k →
          objective_rate p u.rate k ≡ exchanged_rate v.tableau.rate back.r back.q p.objective k
      rate_there k out =
          objective_is u.rate k
          ∙ (same_tableau p (after v.basis v.move) right_next.0 u (record { point = u.point; rate = exchanged_rate v.tableau.rate back.r back.q }) tab
          (record { is_point = tab.is_point; are_rates = rates_there })).rates p.objective k objective_row out

      in_next : (k : ℕ) → IsVariable p.matrix k → is_in (basics_of (after v.basis v.move)) k ≡ is_basic (status_of (after v.basis v.move) k)
      in_next k is = is_in-basics_of (after v.basis v.move) k is.0 (omega (arith, is.1, right_next.0.is_basis.counted))

      in_here : (k : ℕ) → IsVariable p.matrix k → is_in (basics_of v.basis) k ≡ is_basic (status_of v.basis k)
      in_here k is = is_in-basics_of v.basis k is.0 (omega (arith, is.1, h.at.0.is_basis.counted))

      -- a price by whether the variable is basic
      priced : (b : Basics) (rate : ℕ → ℕ → ℚ) (k : ℕ) (mark : Bool) → is_in b k ≡ mark →
          price_at p b rate k ≡ (if mark then zero_ℚ else objective_rate p rate k)
      priced b rate k mark e = ap (λ m. if m then zero_ℚ else objective_rate p rate k) e

      at_q : price_at p (basics_of (after v.basis v.move)) u.rate back.q ≡ price_at p (basics_of v.basis) v.tableau.rate back.q
      at_q =
          priced (basics_of (after v.basis v.move)) u.rate back.q true
          (in_next back.q is_q ∙ ap (λ j. is_basic (status_of (after v.basis v.move) j)) (sym (ap (λ m. m.enters) back.gives))
          ∙ ap is_basic (entered p v exchanges))
          ∙ sym (priced (basics_of v.basis) v.tableau.rate back.q false q_enters.1 ∙ objective_is v.tableau.rate back.q ∙ none)

      at_r : price_at p (basics_of (after v.basis v.move)) u.rate back.r ≡ price_at p (basics_of v.basis) v.tableau.rate back.r
      at_r =
          priced (basics_of (after v.basis v.move)) u.rate back.r false out
          ∙ rate_there back.r (leaves.0, out)
          ∙ ap (λ b. if b then (one_ℚ /ℚ v.tableau.rate back.r back.q) *ℚ v.tableau.rate p.objective back.q else
          v.tableau.rate p.objective back.r -ℚ (v.tableau.rate back.r back.r /ℚ v.tableau.rate back.r back.q) *ℚ v.tableau.rate p.objective back.q)
          (same_number back.r)
          ∙ ap (λ y. (one_ℚ /ℚ v.tableau.rate back.r back.q) *ℚ y) none ∙ mul-zero (one_ℚ /ℚ v.tableau.rate back.r back.q)
          ∙ sym (priced (basics_of v.basis) v.tableau.rate back.r true leaves.1)
        where
          same_number : (k : ℕ) → eqb k k ≡ true
          same_number k = by_tells (eqb_tells k k)
            where
              by_tells : (((eqb k k ≡ true) × (k ≡ k)) ⊎ ((eqb k k ≡ false) × (k ≢ k))) → eqb k k ≡ true
              by_tells (inl e) = e.0
              by_tells (inr e) = absurd (e.1 refl)

          out : is_in (basics_of (after v.basis v.move)) back.r ≡ false
          out =
              in_next back.r leaves.0 ∙ ap (λ j. is_basic (status_of (after v.basis v.move) j)) (sym (ap (λ m. m.leaves) back.gives))
              ∙ ap is_basic (left p v exchanges) ∙ nonbasic_from v.move.to exchanges.stands

      at_other : (k : ℕ) → IsVariable p.matrix k → k ≢ back.q → ((eqb k back.r ≡ false) × (k ≢ back.r)) →
          price_at p (basics_of (after v.basis v.move)) u.rate k ≡ price_at p (basics_of v.basis) v.tableau.rate k
      at_other k is not_q not_r = by_mark (is_in (basics_of v.basis) k) refl
        where
          same : is_in (basics_of (after v.basis v.move)) k ≡ is_in (basics_of v.basis) k
          same =
              in_next k is
              ∙ ap is_basic (stayed p v exchanges k is (λ e. not_q (e ∙ ap (λ m. m.enters) back.gives)) (λ e. not_r.1 (e ∙ ap (λ m. m.leaves) back.gives)))
              ∙ sym (in_here k is)

          by_mark : (mark : Bool) → is_in (basics_of v.basis) k ≡ mark →
              price_at p (basics_of (after v.basis v.move)) u.rate k ≡ price_at p (basics_of v.basis) v.tableau.rate k
          by_mark true mark =
              priced (basics_of (after v.basis v.move)) u.rate k true (same ∙ mark) ∙ sym (priced (basics_of v.basis) v.tableau.rate k true mark)
          by_mark false mark =
              priced (basics_of (after v.basis v.move)) u.rate k false (same ∙ mark)
              ∙ rate_there k (is, same ∙ mark)
              ∙ ap (λ b. if b then (one_ℚ /ℚ v.tableau.rate back.r back.q) *ℚ v.tableau.rate p.objective back.q else
              v.tableau.rate p.objective k -ℚ (v.tableau.rate back.r k /ℚ v.tableau.rate back.r back.q) *ℚ v.tableau.rate p.objective back.q) not_r.0
              ∙ ap (λ y. v.tableau.rate p.objective k -ℚ (v.tableau.rate back.r k /ℚ v.tableau.rate back.r back.q) *ℚ y) none
              ∙ by_ring2 (v.tableau.rate p.objective k) (v.tableau.rate back.r k /ℚ v.tableau.rate back.r back.q) (λ a c. a ⊖ c ⊗ number (pos 0) ≐ a) refl
              ∙ sym (priced (basics_of v.basis) v.tableau.rate k false mark ∙ objective_is v.tableau.rate k)

      same_prices : (k : ℕ) → IsVariable p.matrix k → price_at p (basics_of (after v.basis v.move)) u.rate k ≡ price_at p (basics_of v.basis) v.tableau.rate k
      same_prices k is = by_number (eqb_tells k back.q) (eqb_tells k back.r)
        where
          by_number : (((eqb k back.q ≡ true) × (k ≡ back.q)) ⊎ ((eqb k back.q ≡ false) × (k ≢ back.q))) →
              (((eqb k back.r ≡ true) × (k ≡ back.r)) ⊎ ((eqb k back.r ≡ false) × (k ≢ back.r))) →
              price_at p (basics_of (after v.basis v.move)) u.rate k ≡ price_at p (basics_of v.basis) v.tableau.rate k
          by_number (inl q) other =
              subst (λ j. price_at p (basics_of (after v.basis v.move)) u.rate j ≡ price_at p (basics_of v.basis) v.tableau.rate j) (sym q.1) at_q
          by_number (inr not_q) (inl r) =
              subst (λ j. price_at p (basics_of (after v.basis v.move)) u.rate j ≡ price_at p (basics_of v.basis) v.tableau.rate j) (sym r.1) at_r
          by_number (inr not_q) (inr not_r) = at_other k is not_q.1 not_r

    -- ---- what might bring r back, and isn't chosen though it has a smaller number, has a price

    passed_over : (k : ℕ) → IsVariable p.matrix k → k < back.q → is_in (basics_of v.basis) k ≡ false →
        restores_feasibility p v.basis v.tableau back.r below k ≡ true → objective_rate p v.tableau.rate k ≢ zero_ℚ
    passed_over k is before out brings_k zero =
        clash (sym (ap₂ (λ a b. a && b) brings_k cheap)
        ∙ find_before (λ q. restores_feasibility p v.basis v.tableau back.r below q && is_cheapest p v.basis v.tableau back.r below q)
        (size p.matrix) 1 back.q back.is_cheapest_of k is.0 before)
      where
        cheap : is_cheapest p v.basis v.tableau back.r below k ≡ true
        cheap =
            list_all_from
            (λ j. not (restores_feasibility p v.basis v.tableau back.r below j) || le_ℚ (ratio p v.basis v.tableau back.r k)
            (ratio p v.basis v.tableau back.r j)) (size p.matrix) 1
            (λ j low high. or_right (not (restores_feasibility p v.basis v.tableau back.r below j))
            (le_ℚ (ratio p v.basis v.tableau back.r k) (ratio p v.basis v.tableau back.r j))
            (sym (zero_first (v.tableau.rate p.objective k) (v.tableau.rate back.r k) (v.tableau.rate p.objective j) (v.tableau.rate back.r j)
            (sym (objective_is v.tableau.rate k) ∙ zero))))

    -- at its own basis a nonbasic stands where its price puts it
    stands_by_price : (k : ℕ) → IsNonbasic p.matrix (basics_of v.basis) k →
        StopsAt (lower_of p k) (upper_of p k) (v.tableau.point k) (worth_rate p v.basis v.tableau k)
    stands_by_price k out =
        idle_stops (status_of v.basis k) (lower_of p k) (upper_of p k) (v.tableau.point k) (worth_rate p v.basis v.tableau k)
        (status_of_nonbasic p v.basis h.at.0.is_basis k out)
        (h.at.0.is_basis.allowed k out.0) (h.is_tableau.is_point.placed k out.0)
        (right (status_of v.basis k) (lower_of p k) (upper_of p k) (worth_rate p v.basis v.tableau k) (is_fixed p k) refl (right_prices k out.0))

  -- ---- walks

  worth : Vector → ℚ
  worth z = for_min p.sense (z p.objective)

  same_worth : (s : List Status) → IsNonsingularBasis p s → (z w : Vector) → IsPointOf p s z → IsPointOf p s w → worth z ≡ worth w
  unfolding worth
  same_worth s at z w first second = ap (for_min p.sense) (one_point p s z w at.is_basis.counted at.nonsingular first second p.objective objective_row)

  never_improved : (s end : List Status) (vs : List Visit) → IsRightBasis s → IsWalk s vs end → ((x : Visit) → In x vs → IsDualVisit x) → (z w : Vector) →
      IsPointOf p s z → IsPointOf p end w → worth z ≤ℚ worth w
  unfolding worth
  never_improved s end [] good walk visits z w first last = le_of_eq (same_worth s good.0 z w first (subst (λ b. IsPointOf p b w) (sym walk) last))
  never_improved s end (v ∷ vs) good walk visits z w first last =
      le_trans (le_of_eq (same_worth s good.0 z v.tableau.point first (subst (λ b. IsPointOf p b v.tableau.point) walk.0 h.is_tableau.is_point)))
      (le_trans (gets_no_improvement v h n.tableau.point n.is_tableau.is_point)
      (never_improved (after v.basis v.move) end vs (right_next v h) walk.1 (λ x i. visits x (inr i)) n.tableau.point w n.is_tableau.is_point last))
    where
      h : IsDualVisit v
      h = visits v (inl refl)

      n : HasRightPrices p (after v.basis v.move)
      n = (right_next v h).1

  no_prices : (s : List Status) (vs : List Visit) → IsWalk s vs s → (visits : (x : Visit) → In x vs → IsDualVisit x) → (v : Visit) → (i : In v vs) →
      v.tableau.rate p.objective (back v (visits v i)).q ≡ zero_ℚ
  unfolding worth
  no_prices s vs walk visits v i =
      no_price v h n.tableau.point n.is_tableau.is_point
      (never_improved (after v.basis v.move) v.basis turned.others (right_next v h) turned.walk
      (λ x j. visits x (turned.was_in x (inr j))) n.tableau.point v.tableau.point n.is_tableau.is_point h.is_tableau.is_point)
    where
      h : IsDualVisit v
      h = visits v i

      n : HasRightPrices p (after v.basis v.move)
      n = (right_next v h).1

      turned : Turned v vs
      turned = turn_to s v vs walk i

  two_tableaus : (s : List Status) → IsNonsingularBasis p s → (t u : Tableau) → IsTableau p s t → IsTableau p s u → (k : ℕ) → IsVariable p.matrix k →
      price_at p (basics_of s) t.rate k ≡ price_at p (basics_of s) u.rate k
  two_tableaus s at t u first second k is = by_mark (is_in (basics_of s) k) refl
    where
      by_mark : (mark : Bool) → is_in (basics_of s) k ≡ mark →
          (if mark then zero_ℚ else objective_rate p t.rate k) ≡ (if mark then zero_ℚ else objective_rate p u.rate k)
      by_mark true mark = refl
      by_mark false mark =
          objective_is t.rate k ∙ (same_tableau p s at t u first second).rates p.objective k objective_row (is, mark) ∙ sym (objective_is u.rate k)

  one_vector : (s end : List Status) (vs : List Visit) → IsRightBasis s → IsWalk s vs end → (visits : (x : Visit) → In x vs → IsDualVisit x) →
      ((x : Visit) → (i : In x vs) → x.tableau.rate p.objective (back x (visits x i)).q ≡ zero_ℚ) → (t : Tableau) → IsTableau p s t →
      (x : Visit) → In x vs → (k : ℕ) → IsVariable p.matrix k → price_at p (basics_of x.basis) x.tableau.rate k ≡ price_at p (basics_of s) t.rate k
  one_vector s end [] good walk visits none t tab x i = absurd i
  one_vector s end (v ∷ vs) good walk visits none t tab x i =
      first (one_vector (after v.basis v.move) end vs (right_next v h) walk.1 (λ x i. visits x (inr i)) (λ x i. none x (inr i)) n.tableau n.is_tableau) x i
    where
      h : IsDualVisit v
      h = visits v (inl refl)

      n : HasRightPrices p (after v.basis v.move)
      n = (right_next v h).1

      here : (k : ℕ) → IsVariable p.matrix k → price_at p (basics_of v.basis) v.tableau.rate k ≡ price_at p (basics_of s) t.rate k
      here k is =
          ap (λ b. price_at p (basics_of b) v.tableau.rate k) walk.0
          ∙ two_tableaus s good.0 v.tableau t (subst (λ b. IsTableau p b v.tableau) walk.0 h.is_tableau) tab k is

      first : ((x : Visit) → In x vs → (k : ℕ) → IsVariable p.matrix k →
          price_at p (basics_of x.basis) x.tableau.rate k ≡ price_at p (basics_of (after v.basis v.move)) n.tableau.rate k) →
          (x : Visit) → ((x ≡ v) ⊎ In x vs) → (k : ℕ) → IsVariable p.matrix k →
          price_at p (basics_of x.basis) x.tableau.rate k ≡ price_at p (basics_of s) t.rate k
      first later x (inl e) k is = ap (λ y. price_at p (basics_of y.basis) y.tableau.rate k) e ∙ here k is
      first later x (inr i) k is = later x i k is ∙ same_prices v h n.tableau n.is_tableau (none v (inl refl)) k is ∙ here k is

  -- a closed walk
  module _ (s : List Status) (v : Visit) (vs : List Visit) (good : IsRightBasis s) (walk : IsWalk s (v ∷ vs) s)
      (visits : (x : Visit) → In x (v ∷ vs) → IsDualVisit x) where
    one_price : (x : Visit) → In x (v ∷ vs) → (k : ℕ) → IsVariable p.matrix k →
        price_at p (basics_of x.basis) x.tableau.rate k ≡ price_at p (basics_of s) good.1.tableau.rate k
    one_price = one_vector s s (v ∷ vs) good walk visits (no_prices s (v ∷ vs) walk visits) good.1.tableau good.1.is_tableau

    module _ (x y : Visit) (i : In x (v ∷ vs)) (j : In y (v ∷ vs)) (k : ℕ) (is : IsVariable p.matrix k) (before : k < (back x (visits x i)).q)
        (out : is_in (basics_of x.basis) k ≡ false) where
      price_here : price_at p (basics_of y.basis) y.tableau.rate k ≡ objective_rate p x.tableau.rate k
      price_here = one_price y j k is ∙ sym (one_price x i k is) ∙ ap (λ m. if m then zero_ℚ else objective_rate p x.tableau.rate k) out

      by_mark : objective_rate p x.tableau.rate k ≢ zero_ℚ → (mark : Bool) → is_in (basics_of y.basis) k ≡ mark →
          (if mark then zero_ℚ else objective_rate p y.tableau.rate k) ≡ objective_rate p x.tableau.rate k →
          y.tableau.point k ≡ x.tableau.point k
      by_mark apart true mark e = absurd (apart (sym e))
      by_mark apart false mark e =
          one_limit (lower_of p k) (upper_of p k) (y.tableau.point k) (x.tableau.point k) (worth_rate p x.basis x.tableau k)
          (λ z. apart (for_min_zero p.sense (objective_rate p x.tableau.rate k) z))
          (subst (StopsAt (lower_of p k) (upper_of p k) (y.tableau.point k)) (ap (for_min p.sense) e) (stands_by_price y (visits y j) k (is, mark)))
          (stands_by_price x (visits x i) k (is, out))

      by_test : (test : Bool) → restores_feasibility p x.basis x.tableau (back x (visits x i)).r (below x (visits x i)) k ≡ test →
          (restores_feasibility p x.basis x.tableau (back x (visits x i)).r (below x (visits x i)) k ≡ false) ⊎ (y.tableau.point k ≡ x.tableau.point k)
      by_test false e = inl e
      by_test true e = inr (by_mark (passed_over x (visits x i) k is before out e) (is_in (basics_of y.basis) k) refl price_here)

    no_dual_cycle : ⊥
    unfolding dual_returning
    no_dual_cycle =
        no_return_cycle p s v vs walk (λ x i. dual_returning x (visits x i))
        (λ x y i j k is before out. by_test x y i j k is before out
        (restores_feasibility p x.basis x.tableau (back x (visits x i)).r (below x (visits x i)) k) refl)

  pub no_dual_return : (s : List Status) (bases : List (List Status)) → IsRightBasis s → IsDualPath p s bases → 0 < length bases → s ≢ last_of s bases
  no_dual_return s [] good path some e = absurd (omega (arith, some))
  no_dual_return s (next ∷ bases) good path some e =
      no_dual_cycle s (record { basis = s; tableau = path.0.tableau; move = path.0.move }) (visits dual_turn p next bases path.1) good
      (subst (λ end. IsWalk s (visits dual_turn p s (next ∷ bases) path) end) (sym e) (is_walk dual_turn p s (next ∷ bases) path))
      (are_visits dual_turn p IsRightBasis right_leads s (next ∷ bases) good path)
