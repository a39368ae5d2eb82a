-- In a run of the right-hand side an interval past a breakpoint is longer than a point.
use Rattle.std.proofs.Common.{◌≡◌, ◌≢◌, ℕ, Bool, true, false, List, refl, sym, ap, ap₂, ◌∙◌, pos, subst}
use Rattle.std.specs.Prelude.{◌↔◌, Option, Some, None, option_map, ◌&&◌, ◌||◌}
use Rattle.std.proofs.lemmas.Bool.{or_left, or_right}
use Rattle.exact_values.specs.Rational.{ℚ, one_ℚ, neg_ℚ, ◌+ℚ◌, ◌-ℚ◌, ◌*ℚ◌, ◌<ℚ◌}
use Rattle.exact_values.specs.Tests.{eq_ℚ, lt_ℚ}
use Rattle.exact_values.proofs.Ring.{by_ring2, by_ring5, same_by_one, ◌⊕◌, ◌⊖◌, ◌⊗◌, ◌≐◌, number, opposite}
use Rattle.exact_values.proofs.Order.{le_refl, lt_of_lt_of_le, lt_by_one, lt_irrefl}
use Rattle.exact_values.proofs.TestsLaws.{test_from_lt, test_from_same}
use Rattle.affine_laws.specs.Conditions.{Condition, EndsAt}
use Rattle.lp_definitions.specs.LinearProgram.{LinearProgram, Vector, value_at, size, IsVariable, IsLinearProgram, lower_of, upper_of}
use Rattle.lp_definitions.specs.Basis.{is_in, basics_of, IsOptimalBasis, Tableau, IsTableau}
use Rattle.lp_definitions.specs.declared.Status.{Status}
use Rattle.lp_laws.proofs.Uniqueness.{one_point}
use Rattle.lp_laws.proofs.Values.{clash}
use Rattle.simplex_definitions.specs.Moves.{on_limit}
use Rattle.simplex_definitions.specs.DualRatio.{cheapest}
use Rattle.simplex_laws.specs.Laws.{IsNonsingularBasis}
use Rattle.simplex_laws.proofs.Searches.{none_passes}
use Rattle.sensitivity_laws.specs.Changes.{Sides, condition, shift_sides, ValuesStay}
use Rattle.sensitivity_laws.specs.Laws.{IsDualFeasibleBasis}
use Rattle.sensitivity_laws.proofs.MovedLimits.{moved, lower_is, upper_is}
use Rattle.sensitivity_laws.proofs.RightHandSides.{right_hand_sides, dual_feasible}
use Rattle.sensitivity_laws.proofs.Rows.{lawful_rows}
use Rattle.simplex_definitions.specs.Chain.{Part, along, FaceDone, IsPart}
use Rattle.simplex_definitions.specs.RhsRun.{shift_of, rhs_family, IsSlope, leaves_below, leaves_above, leaving, face_exchange, face_at, rhs_face, IsRhsFace}
use Rattle.parametric_laws.proofs.Rhs.{to_rhs}
use Rattle.parametric_laws.proofs.Spans.{SideEnds, first_ends, second_ends, IsSpan, span}
use Rattle.parametric_laws.proofs.RhsSlopes.{nonbasic_rate, slope_is_rate, rate_is_slope, value_is_point}

-- ---- where nothing is left to do, no basic leaves its limits

module _ (p : LinearProgram) (shift : List ℚ) (theta : ℚ) (s : List Status) (t : Tableau) (v : Vector) where
  goes_or_ends : (r : ℕ) (below : Bool) (o : Option ℕ) → face_exchange p shift theta s t v r below o ≡ FaceDone → ⊥
  goes_or_ends r below (Some q) e = cc
  goes_or_ends r below None e = cc

  by_leaver : (o : Option ℕ) → leaving p shift theta s t v ≡ o → face_at p shift theta s t v o ≡ FaceDone → leaving p shift theta s t v ≡ None
  by_leaver (Some r) is e = absurd (goes_or_ends r (leaves_below p shift theta s t v r) (cheapest p s t r (leaves_below p shift theta s t v r)) e)
  by_leaver None is e = is

  done_leaver : rhs_face p shift theta s t v ≡ FaceDone → leaving p shift theta s t v ≡ None
  unfolding rhs_face
  done_leaver e = by_leaver (leaving p shift theta s t v) refl e

-- ---- conditions of a variable

module _ (z r shift x : ℚ) where
  -- a condition that ends: the variable stands at a limit, and moves across it
  record IsLeaving (limit : Option ℚ) : Type 0 where
    stands : moved x shift limit ≡ Some (z +ℚ x *ℚ r)

  first_leaves : (low : Option ℚ) (c : Condition) → option_map (λ l. condition (z -ℚ l) (r -ℚ shift)) low ≡ Some c → EndsAt x c → IsLeaving low × (r <ℚ shift)
  first_leaves None c e ends = cc
  first_leaves (Some l) c e ends =
      let same : condition (z -ℚ l) (r -ℚ shift) ≡ c = cc in
      let own : EndsAt x (condition (z -ℚ l) (r -ℚ shift)) = subst (EndsAt x) (sym same) ends in (
        record {
          stands = ap (λ y. Some y) (same_by_one (neg_ℚ one_ℚ) own.is_zero
              (by_ring5 z r shift x l (λ z r s x l. l ⊕ x ⊗ s ≐ (z ⊕ x ⊗ r) ⊕ opposite (number (pos 1)) ⊗ ((z ⊖ l) ⊕ x ⊗ (r ⊖ s) ⊖ number (pos 0))) refl));
        },
        lt_by_one own.falls (by_ring2 r shift (λ r s. s ≐ r ⊕ (number (pos 0) ⊖ (r ⊖ s))) refl),
      )

  second_leaves : (high : Option ℚ) (c : Condition) → option_map (λ u. condition (u -ℚ z) (neg_ℚ (r -ℚ shift))) high ≡ Some c → EndsAt x c →
      IsLeaving high × (shift <ℚ r)
  second_leaves None c e ends = cc
  second_leaves (Some u) c e ends =
      let same : condition (u -ℚ z) (neg_ℚ (r -ℚ shift)) ≡ c = cc in
      let own : EndsAt x (condition (u -ℚ z) (neg_ℚ (r -ℚ shift))) = subst (EndsAt x) (sym same) ends in (
        record {
          stands = ap (λ y. Some y) (same_by_one one_ℚ own.is_zero
              (by_ring5 z r shift x u (λ z r s x u. u ⊕ x ⊗ s ≐ (z ⊕ x ⊗ r) ⊕ number (pos 1) ⊗ ((u ⊖ z) ⊕ x ⊗ opposite (r ⊖ s) ⊖ number (pos 0))) refl));
        },
        lt_by_one own.falls (by_ring2 r shift (λ r s. r ≐ s ⊕ (number (pos 0) ⊖ opposite (r ⊖ s))) refl),
      )

module _ (p : LinearProgram) (shift : List ℚ) (lawful : IsLinearProgram p) (theta max : ℚ) (s : List Status) (part : Part) (at : IsNonsingularBasis p s)
    (before : theta <ℚ max)
    (is : IsPart (rhs_family p shift) theta max s part) (t : Tableau) (tab : IsTableau (rhs_family p shift theta) s t) (v : Vector)
    (slope : IsSlope (rhs_family p shift theta) s shift v)
    (done : rhs_face (rhs_family p shift theta) shift theta s t v ≡ FaceDone) where
  abbrev by : ℕ → ℚ
  by k = shift_of p.matrix shift k

  optimal : IsOptimalBasis (rhs_family p shift theta) s
  optimal = is.reaches.optimal theta (le_refl theta) is.reaches.forward

  dual : IsDualFeasibleBasis p s (record { point = value_at part.value; rate = optimal.tableau.rate })
  dual = dual_feasible p shift theta s (lawful_rows p lawful) (record { point = value_at part.value; rate = optimal.tableau.rate }) at.is_basis at.nonsingular
      (record { is_point = value_is_point p shift s at part.value part.value_rate is.values; are_rates = optimal.is_tableau.are_rates }) optimal

  -- the basis is optimal just where the conditions hold
  optimal_where : (x : ℚ) → IsOptimalBasis (rhs_family p shift x) s ↔ ValuesStay p shift (value_at part.value) (value_at part.value_rate) x
  optimal_where =
      right_hand_sides p s (record { point = value_at part.value; rate = optimal.tableau.rate }) dual shift (value_at part.value_rate)
      (rate_is_slope p shift s at part.value part.value_rate is.values)

  abbrev sides : ℕ → Sides
  sides k = shift_sides p shift (value_at part.value) (value_at part.value_rate) k

  -- what moves across a limit at which it stands is basic, and leaves
  at_value : (k : ℕ) → IsVariable p.matrix k → t.point k ≡ along theta part.value part.value_rate k
  at_value k is_k =
      let there = to_rhs p shift theta s at in
      one_point (rhs_family p shift theta) s t.point (along theta part.value part.value_rate) there.is_basis.counted there.nonsingular tab.is_point
      (is.values theta) k is_k

  at_rate : (k : ℕ) → IsVariable p.matrix k → v k ≡ value_at part.value_rate k
  at_rate = slope_is_rate p shift s at part.value part.value_rate is.values v slope.keeps slope.placed

  is_one : (k : ℕ) → IsVariable p.matrix k → value_at part.value_rate k ≢ by k → is_in (basics_of s) k ≡ true
  is_one k is_k apart = by_mark (is_in (basics_of s) k) refl
    where
      by_mark : (mark : Bool) → is_in (basics_of s) k ≡ mark → mark ≡ true
      by_mark true mark = refl
      by_mark false mark = absurd (apart (nonbasic_rate p shift s at part.value part.value_rate is.values k (is_k, mark)))

  abbrev leaves : ℕ → Bool
  leaves k =
      is_in (basics_of s) k && (leaves_below (rhs_family p shift theta) shift theta s t v k || leaves_above (rhs_family p shift theta) shift theta s t v k)

  none : (k : ℕ) → IsVariable p.matrix k → leaves k ≡ false
  none = none_passes (rhs_family p shift theta) leaves (done_leaver (rhs_family p shift theta) shift theta s t v done)

  no_leaver : (k : ℕ) → IsVariable p.matrix k → value_at part.value_rate k ≢ by k →
      (leaves_below (rhs_family p shift theta) shift theta s t v k || leaves_above (rhs_family p shift theta) shift theta s t v k) ≡ true → ⊥
  no_leaver k is_k apart passes = clash (sym (ap₂ (λ a b. a && b) (is_one k is_k apart) passes) ∙ none k is_k)

  apart_below : {a b : ℚ} → a <ℚ b → a ≢ b
  apart_below {a} {b} h e = lt_irrefl (subst (λ y. y <ℚ b) e h)

  apart_above : {a b : ℚ} → b <ℚ a → a ≢ b
  apart_above {a} {b} h e = lt_irrefl (subst (λ y. b <ℚ y) e h)

  on_limit_is : (limit : Option ℚ) (y z : ℚ) → limit ≡ Some z → y ≡ z → on_limit (λ l. eq_ℚ y l) limit ≡ true
  on_limit_is limit y z e same = rw e (test_from_same y z same)

  none_ends : (k : ℕ) → IsVariable p.matrix k → SideEnds (sides k) theta → ⊥
  none_ends k is_k (first_ends c is_c ends) =
      let out = first_leaves (value_at part.value k) (value_at part.value_rate k) (by k) theta (lower_of p k) c is_c ends in
      no_leaver k is_k (apart_below out.1) (or_left _ _
      (ap₂ (λ a b. a && b) (on_limit_is (lower_of (rhs_family p shift theta) k) (t.point k) _ (lower_is p shift theta k is_k ∙ out.0.stands) (at_value k is_k))
      (ap (λ y. lt_ℚ y (by k)) (at_rate k is_k) ∙ test_from_lt (value_at part.value_rate k) (by k) out.1)))
  none_ends k is_k (second_ends c is_c ends) =
      let out = second_leaves (value_at part.value k) (value_at part.value_rate k) (by k) theta (upper_of p k) c is_c ends in
      no_leaver k is_k (apart_above out.1) (or_right _ _
      (ap₂ (λ a b. a && b) (on_limit_is (upper_of (rhs_family p shift theta) k) (t.point k) _ (upper_is p shift theta k is_k ∙ out.0.stands) (at_value k is_k))
      (ap (λ y. lt_ℚ (by k) y) (at_rate k is_k) ∙ test_from_lt (by k) (value_at part.value_rate k) out.1)))

  spans : IsSpan sides (size p.matrix) theta max
  spans = span sides (size p.matrix) theta max before (λ k low high. (optimal_where theta).0 optimal k (low, high)) (λ k low high. none_ends k (low, high))

  grown : theta <ℚ part.to
  grown = lt_of_lt_of_le spans.past
      (is.reaches.greatest spans.to spans.within (λ x after up_to. (optimal_where x).1 (λ k is_k. spans.holds x after up_to k is_k.0 is_k.1)))

pub rhs_grows : (p : LinearProgram) (shift : List ℚ) → IsLinearProgram p → (theta max : ℚ) (s : List Status) (part : Part) → IsNonsingularBasis p s →
    theta <ℚ max →
    IsRhsFace p shift theta s FaceDone → IsPart (rhs_family p shift) theta max s part → theta <ℚ part.to
rhs_grows p shift lawful theta max s part at before face is = grown p shift lawful theta max s part at before is face.0 face.2 face.1 face.3 face.4
