-- What the items of the lists are, and what making them may refuse.
use Rattle.std.proofs.Common.{◌≡◌, ◌≢◌, ℕ, ◌+◌, ◌-◌, ◌<◌, ◌⊎◌, inl, inr, List, refl, sym, ap, subst, subst₂, ◌∙◌, Bool, true, false, Option, Some, None, arith}
use Rattle.std.proofs.Common.{cond, pos}
use Rattle.std.specs.Prelude.{◌↔◌, IfSome, eqb}
use Rattle.std.proofs.lemmas.Bool.Decides.{eqb_tells}
use Rattle.exact_values.specs.Rational.{ℚ, one_ℚ, neg_ℚ, ◌+ℚ◌, ◌-ℚ◌, ◌*ℚ◌, ◌/ℚ◌, ◌≤ℚ◌}
use Rattle.exact_values.proofs.Ring.{by_ring2, number, ◌⊕◌, ◌⊖◌, ◌⊗◌, ◌≐◌}
use Rattle.exact_values.proofs.RingLaws.{mul-one}
use Rattle.exact_values.proofs.Inverse.{div_is, one_apart}
use Rattle.affine_laws.specs.Conditions.{Holds}
use Rattle.affine_laws.specs.Ends.{IsOnSide, IsBefore, IsBetweenEnds}
use Rattle.affine_laws.specs.declared.tightening.Endpoint.{Endpoint}
use Rattle.affine_laws.specs.declared.tightening.Ends.{Ends}
use Rattle.sensitivity_laws.specs.Changes.{SidesHold, sign_sides, rate_sides, sides_at, condition, condition_if, RatesStay}
use Rattle.sensitivity_laws.proofs.Limits.{limit, sides_of_value}
use Rattle.sensitivity_laws.proofs.Rows.{rows_of}
use Rattle.sensitivity_laws.proofs.Signs.{sides_of_rate}
use Rattle.sensitivity_laws.proofs.Tableaus.{by_tableau}
use Rattle.simplex_definitions.specs.Formulas.{limit_numbered, number_of_limit}
use Rattle.frac128.specs.declared.Op.TheVariants.{Add, Sub}
use Rattle.lp_definitions.specs.LinearProgram.{LinearProgram, Vector, size, IsColumn, IsVariable, IsLinearProgram, lower_of, upper_of, cost, for_min}
use Rattle.lp_definitions.specs.LinearProgram.{with_change_row}
use Rattle.lp_definitions.specs.Basis.{basics_of, is_in, status_of, StandsAt, IsBasic, IsNonbasic, AreRates, IsPointOf, ArePricesOf, IsOptimalBasis, Tableau}
use Rattle.lp_definitions.specs.declared.Change.{Change}
use Rattle.lp_definitions.specs.declared.Evidence.{Evidence}
use Rattle.lp_definitions.specs.declared.Sense.{Sense}
use Rattle.lp_definitions.specs.declared.Sense.TheVariants.{Min, Max}
use Rattle.lp_definitions.specs.declared.Status.{Status}
use Rattle.lp_definitions.specs.declared.Status.TheVariants.{Bs, Ll, Ul, Fr}
use Rattle.lp_laws.proofs.Values.{clash}
use Rattle.simplex_definitions.specs.Moves.{is_fixed, may_rise, may_fall}
use Rattle.simplex_definitions.specs.Path.{worth_rate}
use Rattle.simplex_definitions.specs.Ranges.{with_cost, with_limit, stands_at_limit}
use Rattle.basis_values.specs.Formulas.{IsRefusal}
use Rattle.ranging.specs.Formulas.{end_formula}
use Rattle.ranging.specs.RowEnds.{AreEnds}
use Rattle.ranging.specs.Intervals.{IsIn, taken_from, IsOwnAt, IsOwn, IsOneOf, DifferenceRefused, SumRefused}
use Rattle.ranging.specs.Tables.{IsBasicsEnd, AreLimitEnds, IsRowEnd, AreEndsOfRow}
use Rattle.ranging.specs.Lists.{price_end, own_ends_of, RefusedAnywhere}
use Rattle.ranging.proofs.RateBounds.{rising_bound, falling_bound, for_min_zero}
use Rattle.ranging.proofs.Listed.{cost_exact}
use Rattle.ranging.proofs.Views.{sum_view, nonbasic_view, basic_view}
use Rattle.ranging.proofs.AtBasis.{tableau_with, is_tableau, present, price_is, nonbasic_at_limit, no_sides, still}

-- ---- the ends of a price itself

side_if : (b high : Bool) (price y a v x : ℚ) (k : ℕ) → IsOnSide high price y ↔ Holds (condition a v) x →
    IsBefore high (price_end b price k) y ↔ IfSome (condition_if b a v) (λ e. Holds e x)
side_if true high price y a v x k same = same
side_if false high price y a v x k same = (λ _. tt, λ _. tt)

own_case : (s : Sense) (rises falls : Bool) (price y : ℚ) (k : ℕ) →
    IsBetweenEnds (own_ends_of s rises falls price k) y ↔ SidesHold (sign_sides rises falls (for_min s price) (for_min s one_ℚ)) (neg_ℚ y)
own_case Min rises falls price y k =
    let up =
    side_if rises true price y (for_min Min price) (for_min Min one_ℚ) (neg_ℚ y) k
    (subst (λ v. (v ≤ℚ price) ↔ Holds (condition (for_min Min price) (for_min Min one_ℚ)) (neg_ℚ y)) (mul-one y) (rising_bound Min price one_ℚ k y)) in
    let down =
    side_if falls false price y (neg_ℚ (for_min Min price)) (neg_ℚ (for_min Min one_ℚ)) (neg_ℚ y) k
    (subst (λ v. (price ≤ℚ v) ↔ Holds (condition (neg_ℚ (for_min Min price)) (neg_ℚ (for_min Min one_ℚ))) (neg_ℚ y)) (mul-one y)
    (falling_bound Min price one_ℚ k y)) in
    (λ b. (up.0 b.1, down.0 b.0), λ h. (down.1 h.1, up.1 h.0))
own_case Max rises falls price y k =
    let up =
    side_if rises false price y (for_min Max price) (for_min Max one_ℚ) (neg_ℚ y) k
    (subst (λ v. (price ≤ℚ v) ↔ Holds (condition (for_min Max price) (for_min Max one_ℚ)) (neg_ℚ y)) (mul-one y) (rising_bound Max price one_ℚ k y)) in
    let down =
    side_if falls true price y (neg_ℚ (for_min Max price)) (neg_ℚ (for_min Max one_ℚ)) (neg_ℚ y) k
    (subst (λ v. (v ≤ℚ price) ↔ Holds (condition (neg_ℚ (for_min Max price)) (neg_ℚ (for_min Max one_ℚ))) (neg_ℚ y)) (mul-one y)
    (falling_bound Max price one_ℚ k y)) in
    (λ b. (up.0 b.0, down.0 b.1), λ h. (up.1 h.0, down.1 h.1))

-- each end is the price
price_end_is : (b : Bool) (price : ℚ) (k : ℕ) (P : Endpoint → Type 0) → P (record { value = price; by = k; which = 0 }) → IfSome (price_end b price k) P
price_end_is true price k P h = h
price_end_is false price k P h = tt

own_ends_each : (s : Sense) (rises falls : Bool) (price : ℚ) (k : ℕ) (P : Endpoint → Type 0) → P (record { value = price; by = k; which = 0 }) →
    AreEnds P (own_ends_of s rises falls price k)
own_ends_each Min rises falls price k P h = (price_end_is falls price k P h, price_end_is rises price k P h)
own_ends_each Max rises falls price k P h = (price_end_is rises price k P h, price_end_is falls price k P h)

-- what holds of each end holds of one of them
one_of : (ends : Ends) (P : Endpoint → Type 0) → AreEnds P ends → (e : Endpoint) → IsOneOf ends e → P e
one_of ends P each e (inl low) = subst (λ o. IfSome o P) low each.0
one_of ends P each e (inr high) = subst (λ o. IfSome o P) high each.1

-- the own limit of a nonbasic, moved
own_limit : (fixed : Bool) (st : Status) (low high : Option ℚ) (z t : ℚ)
    → SidesHold (cond fixed (record { first = None; second = None }) (sides_at st low high z)) (t -ℚ z) ↔ IsOwnAt fixed st low high t
own_limit true st low high z t = (λ _. tt, λ _. (tt, tt))
own_limit false Bs low high z t = (λ _. tt, λ _. (tt, tt))
own_limit false Ll low high z t =
    let h = sides_of_value None high t z one_ℚ (t -ℚ z) (by_ring2 t z (λ t z. t ≐ z ⊕ (t ⊖ z) ⊗ number (pos 1)) refl) in
    (λ k. (h.1 k).1, λ w. h.0 (tt, w))
own_limit false Ul low high z t =
    let h = sides_of_value low None t z one_ℚ (t -ℚ z) (by_ring2 t z (λ t z. t ≐ z ⊕ (t ⊖ z) ⊗ number (pos 1)) refl) in
    (λ k. (h.1 k).0, λ w. h.0 (w, tt))
own_limit false Fr low high z t = (λ _. tt, λ _. (tt, tt))

numbered_is : (p : LinearProgram) (st : Status) (k : ℕ) (v : ℚ) → stands_at_limit st ≡ true → StandsAt st (lower_of p k) (upper_of p k) v →
    limit_numbered p k (number_of_limit st) ≡ Some v
numbered_is p Bs k v e h = absurd (clash (sym e))
numbered_is p Ll k v e h = h
numbered_is p Ul k v e h = h
numbered_is p Fr k v e h = absurd (clash (sym e))

module _ (p : LinearProgram) (s : List Status) (lawful : IsLinearProgram p) (no_change : p.change ≡ None) (optimal : IsOptimalBasis p s) where
  -- ---- costs

  column_is : (k : ℕ) → IsVariable p.matrix k → p.rows < k → IsColumn p.matrix (k - p.rows)
  column_is k is past = (omega (arith, past), omega (arith, is.1, past))

  pub column_exact : (k : ℕ) → IsVariable p.matrix k → p.rows < k → (ends : Ends) → AreEndsOfRow p s k ends → (t : ℚ) →
      IsIn (taken_from (cost p (k - p.rows)) ends) t ↔ IsOptimalBasis (with_cost p k t) s
  column_exact k is past ends h t =
      let there : p.rows + (k - p.rows) ≡ k = omega (arith, past) in
      subst (λ i. IsIn (taken_from (cost p (k - p.rows)) ends) t ↔ IsOptimalBasis (with_cost p i t) s) there
      (cost_exact p s lawful no_change optimal (k - p.rows) (column_is k is past) ends (subst (λ i. AreEndsOfRow p s i ends) (sym there) h) t)

  pub basic_cost_refused : (k : ℕ) → IsBasic p.matrix (basics_of s) k → p.rows < k → (ends : Ends) → AreEndsOfRow p s k ends → (e : Evidence) →
      DifferenceRefused (cost p (k - p.rows)) ends k e → RefusedAnywhere p s e
  basic_cost_refused k basic past ends h e r before after =
      let f = one_of ends (IsRowEnd p s optimal.tableau.rate k) (h.made optimal.tableau.rate optimal.is_tableau.are_rates) r.end r.is_end in
      basic_view p s no_change optimal.nonsingular optimal.tableau optimal.is_tableau before after e k r.end.by basic past f.is_nonbasic f.moves
      (subst (λ v. IsRefusal (end_formula k r.end.by 0) Sub (cost p (k - p.rows)) v e) f.is_quotient r.refused)

  module _ (prices : Vector) (priced : ArePricesOf p s prices) (k : ℕ) (out : IsNonbasic p.matrix (basics_of s) k) (price : ℚ)
      (price_is_k : price ≡ prices k) where
    own_price : (rate : ℕ → ℕ → ℚ) → AreRates p.matrix (basics_of s) rate → price ≡ rate p.objective k
    own_price rate are = price_is_k ∙ price_is p s lawful no_change optimal optimal.tableau.point optimal.is_tableau.is_point prices priced rate are k out

    pub own_ends_are : AreEndsOfRow p s k (own_ends_of p.sense (may_rise p s k) (may_fall p s k) price k)
    own_ends_are = record { exact = exact; made = made }
      where
        own_sides_of : (rate : ℕ → ℕ → ℚ) → AreRates p.matrix (basics_of s) rate → (x : ℚ)
            → SidesHold (sign_sides (may_rise p s k) (may_fall p s k) (for_min p.sense price) (for_min p.sense one_ℚ)) x
            ↔ SidesHold (rate_sides p s (λ j. for_min p.sense (rate p.objective j)) (λ j. for_min p.sense (rate k j)) k) x
        own_sides_of rate are x =
            subst₂ (λ a b. SidesHold (sign_sides (may_rise p s k) (may_fall p s k) (for_min p.sense price) (for_min p.sense one_ℚ)) x ↔ SidesHold
            (sign_sides (may_rise p s k) (may_fall p s k) (for_min p.sense a) (for_min p.sense b)) x)
            (own_price rate are) (sym (are k out).own) (λ h. h, λ h. h)

        others : (rate : ℕ → ℕ → ℚ) → AreRates p.matrix (basics_of s) rate → (x : ℚ) (j : ℕ) → IsVariable p.matrix j → j ≢ k
            → SidesHold (rate_sides p s (λ j. for_min p.sense (rate p.objective j)) (λ j. for_min p.sense (rate k j)) j) x
        others rate are x j is other = at (is_in (basics_of s) j) refl
          where
            t : Tableau
            t = record { point = optimal.tableau.point; rate = rate }

            at : (m : Bool) → is_in (basics_of s) j ≡ m →
                SidesHold (rate_sides p s (λ j. for_min p.sense (rate p.objective j)) (λ j. for_min p.sense (rate k j)) j) x
            at true mark =
                let none = still p s lawful no_change optimal optimal.tableau.point optimal.is_tableau.is_point j is mark in no_sides (may_rise p s j)
                (may_fall p s j) _ _ x none.0 none.1
            at false mark =
                (sides_of_rate (worth_rate p s (record { point = optimal.tableau.point; rate = rate }) j) (for_min p.sense (rate p.objective j))
                (for_min p.sense (rate k j)) x (may_rise p s j) (may_fall p s j)
                (ap (λ (c : Option Change). for_min p.sense (with_change_row c (λ i. rate i j) (rate p.objective j))) no_change
                ∙ by_ring2 (for_min p.sense (rate p.objective j)) x (λ w x. w ≐ w ⊕ x ⊗ number (pos 0)) refl
                ∙ ap (λ v. for_min p.sense (rate p.objective j) +ℚ x *ℚ v)
                (sym (for_min_zero p.sense (rate k j) ((are j (is, mark)).others k out (λ e. other (sym e))))))).0
                (((by_tableau p s optimal.is_basis optimal.nonsingular (rows_of p s (record { point = optimal.tableau.point; rate = rate })
                (present p s lawful no_change optimal optimal.tableau.point optimal.is_tableau.is_point rate are))
                (record { point = optimal.tableau.point; rate = rate })
                (is_tableau p s lawful no_change optimal optimal.tableau.point optimal.is_tableau.is_point rate are)).0 optimal).right j is)

        exact : (rate : ℕ → ℕ → ℚ) → AreRates p.matrix (basics_of s) rate → (y : ℚ)
            → IsBetweenEnds (own_ends_of p.sense (may_rise p s k) (may_fall p s k) price k) y ↔ RatesStay p s (λ j. for_min p.sense (rate p.objective j))
            (λ j. for_min p.sense (rate k j)) (neg_ℚ y)
        exact rate are y =
            let own = own_case p.sense (may_rise p s k) (may_fall p s k) price y k in (
              λ b j is. at j is ((own_sides_of rate are (neg_ℚ y)).0 (own.0 b)) (eqb_tells j k),
              λ all. own.1
                  ((own_sides_of rate are (neg_ℚ y)).1 (all k out.0)),
            )
          where
            at : (j : ℕ) → IsVariable p.matrix j
                → SidesHold (rate_sides p s (λ j. for_min p.sense (rate p.objective j)) (λ j. for_min p.sense (rate k j)) k) (neg_ℚ y)
                → (((eqb j k ≡ true) × (j ≡ k)) ⊎ ((eqb j k ≡ false) × (j ≢ k)))
                → SidesHold (rate_sides p s (λ j. for_min p.sense (rate p.objective j)) (λ j. for_min p.sense (rate k j)) j) (neg_ℚ y)
            at j is h (inl same) =
                subst (λ j. SidesHold (rate_sides p s (λ j. for_min p.sense (rate p.objective j)) (λ j. for_min p.sense (rate k j)) j) (neg_ℚ y)) (sym same.1) h
            at j is h (inr apart) = others rate are (neg_ℚ y) j is apart.1

        made : (rate : ℕ → ℕ → ℚ) → AreRates p.matrix (basics_of s) rate →
            AreEnds (IsRowEnd p s rate k) (own_ends_of p.sense (may_rise p s k) (may_fall p s k) price k)
        made rate are =
            own_ends_each p.sense (may_rise p s k) (may_fall p s k) price k (IsRowEnd p s rate k)
            (record {
              is_nonbasic = out;
              moves = λ zero. one_apart (sym (are k out).own ∙ zero);
              is_quotient =
                  own_price rate are
                  ∙ sym (ap (λ v. rate p.objective k /ℚ v) (are k out).own
                  ∙ div_is (rate p.objective k) one_ℚ (rate p.objective k) one_apart (sym (mul-one (rate p.objective k))));
            })

    pub nonbasic_cost_refused : p.rows < k → (e : Evidence) →
        DifferenceRefused (cost p (k - p.rows)) (own_ends_of p.sense (may_rise p s k) (may_fall p s k) price k) 0 e → RefusedAnywhere p s e
    nonbasic_cost_refused past e r before after =
        let f =
        one_of (own_ends_of p.sense (may_rise p s k) (may_fall p s k) price k) (λ e. (e.by ≡ k) × (e.value ≡ price))
        (own_ends_each p.sense (may_rise p s k) (may_fall p s k) price k (λ e. (e.by ≡ k) × (e.value ≡ price)) (refl, refl)) r.end r.is_end in
        nonbasic_view p s no_change optimal.nonsingular optimal.tableau optimal.is_tableau before after e k out past
        (subst₂ (λ j v. IsRefusal (end_formula 0 j 0) Sub (cost p (k - p.rows)) v e) f.0
        (f.1 ∙ own_price optimal.tableau.rate optimal.is_tableau.are_rates) r.refused)

  -- ---- limits

  module _ (z : Vector) (point : IsPointOf p s z) (k : ℕ) (is : IsVariable p.matrix k) (stands : stands_at_limit (status_of s k) ≡ true) (ends : Ends)
      (met : AreLimitEnds p s z (size p.matrix) k ends) where
    pub limit_exact : (v t : ℚ) (In : Type 0) → v ≡ z k → In ↔ (IsBetweenEnds ends (t -ℚ v) × IsOwn p s k t) → In ↔ IsOptimalBasis (with_limit p s k t) s
    limit_exact v t In v_is h =
        let law =
        limit p s (tableau_with p s lawful no_change optimal z point optimal.tableau.rate)
        (present p s lawful no_change optimal z point optimal.tableau.rate optimal.is_tableau.are_rates) k is stands (t -ℚ z k) in
        let between = met.exact optimal.tableau.rate optimal.is_tableau.are_rates (t -ℚ z k) in
        let own = own_limit (is_fixed p k) (status_of s k) (lower_of p k) (upper_of p k) (z k) t in
        let there = subst (λ w. In ↔ (IsBetweenEnds ends (t -ℚ w) × IsOwn p s k t)) v_is h in (
          λ a. let b = there.0 a in
              subst (λ w. IsOptimalBasis (with_limit p s k w) s) back
              (law.1 (record { basics = λ i basic. between.0 b.0 i basic.0.0 basic.0.1 basic.1; own = own.1 b.1 })),
          λ o. let stay = law.0 (subst (λ w. IsOptimalBasis (with_limit p s k w) s) (sym back) o) in
              there.1 (between.1 (λ i low high basic. stay.basics i ((low, high), basic)), own.0 stay.own),
        )
      where
        back : z k +ℚ (t -ℚ z k) ≡ t
        back = by_ring2 (z k) t (λ z t. z ⊕ (t ⊖ z) ≐ t) refl

    pub limit_sum_refused : (v : ℚ) (e : Evidence) → v ≡ z k → SumRefused v ends k e → RefusedAnywhere p s e
    limit_sum_refused v e v_is r before after =
        let f = one_of ends (IsBasicsEnd p s z optimal.tableau.rate k) (met.made optimal.tableau.rate optimal.is_tableau.are_rates) r.end r.is_end in
        sum_view p s no_change optimal.nonsingular (tableau_with p s lawful no_change optimal z point optimal.tableau.rate)
        (is_tableau p s lawful no_change optimal z point optimal.tableau.rate optimal.is_tableau.are_rates) before after e
        r.end.by k r.end.which (z k) f.limit f.is_basic (nonbasic_at_limit p s lawful no_change optimal z point k is stands)
        (numbered_is p (status_of s k) k (z k) stands (point.placed k is)) f.is_limit f.moves
        (subst₂ (λ a b. IsRefusal (end_formula r.end.by k r.end.which) Add a b e) v_is f.is_quotient r.refused)
