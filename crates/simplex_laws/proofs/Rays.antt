-- What an infeasible end shows: its ray is a proof.
use Rattle.std.proofs.Common.{◌≡◌, ◌≢◌, ℕ, suc, ◌+◌, ◌⊎◌, inl, inr, Bool, true, false, List, refl, sym, ap, ap₂, subst, ◌∙◌, arith, pos, cond}
use Rattle.std.specs.Prelude.{Option, Some, None, not, ◌&&◌, ◌||◌, unwrap_or, if◌then◌else◌, nat_eq, eqb}
use Rattle.std.proofs.lemmas.Bool.Decides.{eqb_tells}
use Rattle.std.proofs.lemmas.Bool.{and_parts}
use Rattle.exact_values.specs.Gcd.{gcd}
use Rattle.exact_values.specs.Rational.{ℚ, whole, fraction, zero_ℚ, one_ℚ, neg_ℚ, ◌+ℚ◌, ◌*ℚ◌, ◌≤ℚ◌, ◌<ℚ◌}
use Rattle.exact_values.specs.Tests.{lt_ℚ}
use Rattle.exact_values.proofs.Ring.{by_ring1, ◌⊗◌, ◌≐◌, number, opposite}
use Rattle.exact_values.proofs.RingLaws.{mul-one, mul-zero, mul_assoc}
use Rattle.exact_values.proofs.Order.{lt_irrefl, le_refl, lt_not_le}
use Rattle.exact_values.proofs.Sums.{sum_to-same, sum_to-mul_left}
use Rattle.exact_values.proofs.TestsLaws.{lt_from_test}
use Rattle.exact_values.proofs.Signs.{neg_below, neg_above}
use Rattle.lp_definitions.specs.LinearProgram.{LinearProgram, Vector, value_at, size, entry, IsVariable, IsColumn, KeepsEquations, lower_of, upper_of}
use Rattle.lp_definitions.specs.Solutions.{IsRay}
use Rattle.lp_definitions.specs.Basis.{IsNonsingular, is_in, basics_of, status_of, is_basic, IsBasis, IsBasic, StandsAt, IsAllowed, IsFixed, IsRightAt, Tableau}
use Rattle.lp_definitions.specs.Basis.{IsTableau}
use Rattle.lp_definitions.specs.RatesEvidence.{multiplier}
use Rattle.lp_definitions.specs.declared.Status.{Status}
use Rattle.lp_definitions.specs.declared.Status.TheVariants.{Bs, Ll, Ul, Fr}
use Rattle.lp_laws.specs.Vectors.{functional, unit, column_value}
use Rattle.lp_laws.proofs.Values.{clash}
use Rattle.lp_laws.proofs.Functionals.{functional_at_unit, KeepsEquations-unit}
use Rattle.lp_laws.proofs.Uniqueness.{is_in-basics_of}
use Rattle.lp_laws.proofs.Combination.{multiplier_vanishes}
use Rattle.lp_laws.proofs.Rays.{ray_above, ray_below}
use Rattle.simplex_definitions.specs.Moves.{is_below, is_outside, is_fixed, lowers, signed, on_limit}
use Rattle.simplex_definitions.specs.Path.{EndsInfeasible, Ends, EndsAt, listed, ray_of, excess_rate, entering_variable}
use Rattle.simplex_laws.proofs.Numbered.{find_some, find_none, IsFound}
use Rattle.simplex_laws.proofs.Turns.{IsFirstPhase, IsInfeasibleTurn, rule_of, infeasible_turn}
use Rattle.simplex_laws.proofs.Ends.{right, value_at-listed}

-- ---- multipliers that meet limits

-- a multiplier meets the limit at which the point stands: the upper one where it is positive, the lower one where it is negative
pub record Meets (low high : Option ℚ) (z e : ℚ) : Type 0 where
  pub positive : zero_ℚ <ℚ e → high ≡ Some z
  pub negative : e <ℚ zero_ℚ → low ≡ Some z

zero_meets : (low high : Option ℚ) (z : ℚ) → Meets low high z zero_ℚ
zero_meets low high z = record { positive = λ h. absurd (lt_irrefl h); negative = λ h. absurd (lt_irrefl h) }

positive_opposite : (x e : ℚ) → x ≡ neg_ℚ e → zero_ℚ <ℚ e → x <ℚ zero_ℚ
positive_opposite x e is h = rw is (neg_below e h)

negative_opposite : (x e : ℚ) → x ≡ neg_ℚ e → e <ℚ zero_ℚ → zero_ℚ <ℚ x
negative_opposite x e is h = rw is (neg_above e h)

-- a nonbasic that is fixed, or may not move so as to lower a quantity: the opposite of its rate meets a limit
nonbasic_meets : (st : Status) (low high : Option ℚ) (z x e : ℚ) → is_basic st ≡ false → StandsAt st low high z → x ≡ neg_ℚ e →
    (((v : ℚ) × (low ≡ Some v) × (high ≡ Some v)) ⊎ IsRightAt st x) → IsAllowed st low high → Meets low high z e
nonbasic_meets Bs low high z x e out stands opposite_is idle allowed = cc
nonbasic_meets Ll low high z x e out stands opposite_is (inl (v, is_low, is_high)) allowed =
    let same : v ≡ z = (let both = sym is_low ∙ stands in cc) in record { positive = λ h. is_high ∙ ap (λ v. Some v) same; negative = λ h. stands }
nonbasic_meets Ll low high z x e out stands opposite_is (inr idle) allowed = record {
  positive = λ h. absurd (lt_not_le (positive_opposite x e opposite_is h) idle);
  negative = λ h. stands;
}
nonbasic_meets Ul low high z x e out stands opposite_is (inl (v, is_low, is_high)) allowed =
    let same : v ≡ z = (let both = sym is_high ∙ stands in cc) in record { positive = λ h. stands; negative = λ h. is_low ∙ ap (λ v. Some v) same }
nonbasic_meets Ul low high z x e out stands opposite_is (inr idle) allowed = record {
  positive = λ h. stands;
  negative = λ h. absurd (lt_not_le (negative_opposite x e opposite_is h) idle);
}
nonbasic_meets Fr low high z x e out stands opposite_is (inl (v, is_low, is_high)) allowed =
    let none = sym is_low ∙ allowed.0 in cc
nonbasic_meets Fr low high z x e out stands opposite_is (inr idle) allowed = record {
  positive = λ h. absurd (lt_not_le (positive_opposite x e opposite_is h) (subst (λ v. zero_ℚ ≤ℚ v) (sym idle) (le_refl zero_ℚ)));
  negative = λ h. absurd (lt_not_le (negative_opposite x e opposite_is h) (subst (λ v. v ≤ℚ zero_ℚ) (sym idle) (le_refl zero_ℚ)));
}

-- ---- the variable that is outside its limits

-- below the lower limit, or above the upper one
pub data Breaks (low high : Option ℚ) (z : ℚ) (below : Bool) : Type 0 where
  breaks_lower : (l : ℚ) → below ≡ true → low ≡ Some l → z <ℚ l → Breaks low high z below
  breaks_upper : (u : ℚ) → below ≡ false → high ≡ Some u → u <ℚ z → Breaks low high z below

broken_by : (low high : Option ℚ) (z : ℚ) (below : Bool) → on_limit (λ l. lt_ℚ z l) low ≡ below → (below || on_limit (λ u. lt_ℚ u z) high) ≡ true →
    Breaks low high z below
broken_by None high z true e h = cc
broken_by (Some l) high z true e h = breaks_lower l refl refl (lt_from_test z l e)
broken_by low None z false e h = cc
broken_by low (Some u) z false e h = breaks_upper u refl refl (lt_from_test u z h)

module _ (p : LinearProgram) (s : List Status) (t : Tableau) (r : ℕ) (phase : IsFirstPhase p s t r) where
  found : IsFound (λ k. is_in (basics_of s) k && is_outside p t.point k) (size p.matrix) 1 r
  found = find_some (λ k. is_in (basics_of s) k && is_outside p t.point k) (size p.matrix) 1 r phase.broken

  pub broken_basic : IsBasic p.matrix (basics_of s) r
  broken_basic = ((found.low, omega (arith, found.high)), (and_parts (is_in (basics_of s) r) (is_outside p t.point r) found.passes).0)

  pub broken_limit : Breaks (lower_of p r) (upper_of p r) (t.point r) (is_below p t.point r)
  broken_limit =
      broken_by (lower_of p r) (upper_of p r) (t.point r) (is_below p t.point r) refl
      (and_parts (is_in (basics_of s) r) (is_outside p t.point r) found.passes).1

-- ---- the ray of a basic outside its limits that nothing brings back

turned_signs : (b : Bool) (v : ℚ) → signed (not b) v ≡ neg_ℚ (signed b v)
turned_signs true v = refl
turned_signs false v = by_ring1 v (λ v. v ≐ opposite (opposite v)) refl

by_sign : (b : Bool) (v : ℚ) → signed b v ≡ signed b (neg_ℚ one_ℚ) *ℚ neg_ℚ v
by_sign true v = by_ring1 v (λ v. v ≐ opposite (number (pos 1)) ⊗ opposite v) refl
by_sign false v = by_ring1 v (λ v. opposite v ≐ opposite (opposite (number (pos 1))) ⊗ opposite v) refl

minus_one : neg_ℚ one_ℚ <ℚ zero_ℚ
unfolding neg_ℚ ◌+ℚ◌ fraction whole gcd
minus_one = record { below = refl }

plus_one : zero_ℚ <ℚ neg_ℚ (neg_ℚ one_ℚ)
unfolding neg_ℚ ◌+ℚ◌ fraction whole gcd
plus_one = record { below = refl }

module _ (p : LinearProgram) (s : List Status) (t : Tableau) (basis : IsBasis p s) (one : IsNonsingular p.matrix (basics_of s)) (tab : IsTableau p s t)
    (r : ℕ) (below : Bool) (leaves : IsBasic p.matrix (basics_of s) r) (breaks : Breaks (lower_of p r) (upper_of p r) (t.point r) below)
    (idle : (k : ℕ) → IsVariable p.matrix k → IsFixed p k ⊎ IsRightAt (status_of s k) (excess_rate t.rate r below k)) where
  abbrev ray : Vector
  ray = ray_of (basics_of s) t.rate r below

  -- the multiplier of r: -1 below its lower limit, and 1 above its upper one
  abbrev own : ℚ
  own = signed below (neg_ℚ one_ℚ)

  ray_own : ray r ≡ own
  ray_own = let same : nat_eq r r ≡ true = grind arith in rw same refl

  ray_basic : (k : ℕ) → k ≢ r → is_in (basics_of s) k ≡ true → ray k ≡ zero_ℚ
  ray_basic k other is = let apart : nat_eq k r ≡ false = grind arith in rw (apart, is) refl

  ray_nonbasic : (k : ℕ) → is_in (basics_of s) k ≡ false → ray k ≡ signed below (t.rate r k)
  ray_nonbasic k is = at (eqb_tells k r)
    where
      at : (((eqb k r ≡ true) × (k ≡ r)) ⊎ ((eqb k r ≡ false) × (k ≢ r))) → ray k ≡ signed below (t.rate r k)
      at (inl same) = absurd (clash (sym leaves.1 ∙ ap (is_in (basics_of s)) (sym same.1) ∙ is))
      at (inr other) = rw (other.0, is) refl

  -- the ray is a multiple of what makes the row of r vanish
  ray_multiple : (k : ℕ) → ray k ≡ own *ℚ multiplier (basics_of s) t.rate r k
  ray_multiple k = at (is_in (basics_of s) k) refl (eqb_tells k r)
    where
      at : (mark : Bool) → is_in (basics_of s) k ≡ mark → (((eqb k r ≡ true) × (k ≡ r)) ⊎ ((eqb k r ≡ false) × (k ≢ r))) →
          ray k ≡ own *ℚ cond mark (cond (eqb k r) one_ℚ zero_ℚ) (neg_ℚ (t.rate r k))
      at true mark (inl same) = ap ray same.1 ∙ ray_own ∙ sym (mul-one own) ∙ ap (λ b. own *ℚ cond b one_ℚ zero_ℚ) (sym same.0)
      at true mark (inr other) = ray_basic k other.1 mark ∙ sym (mul-zero own) ∙ ap (λ b. own *ℚ cond b one_ℚ zero_ℚ) (sym other.0)
      at false mark same = ray_nonbasic k mark ∙ by_sign below (t.rate r k)

  ray_vanishes : (x : Vector) → KeepsEquations p.matrix x → functional p.matrix ray x ≡ zero_ℚ
  ray_vanishes x keeps =
      sum_to-same (size p.matrix) _ _
      (λ k low. ap (λ v. v *ℚ x (suc k)) (ray_multiple (suc k)) ∙ mul_assoc own (multiplier (basics_of s) t.rate r (suc k)) (x (suc k)))
      ∙ sum_to-mul_left (size p.matrix) own (λ k. multiplier (basics_of s) t.rate r (suc k) *ℚ x (suc k))
      ∙ ap (λ v. own *ℚ v) (multiplier_vanishes p.matrix (basics_of s) t.rate tab.are_rates one r leaves x keeps)
      ∙ mul-zero own

  on_column : (j : ℕ) → IsColumn p.matrix j → column_value p.matrix ray j ≡ zero_ℚ
  on_column j is = sym (functional_at_unit p.matrix ray j is) ∙ ray_vanishes (unit p.matrix j) (KeepsEquations-unit p.matrix j is)

  -- each multiplier but that of r meets a limit at which the point stands
  ray_meets : (k : ℕ) → IsVariable p.matrix k → k ≢ r → Meets (lower_of p k) (upper_of p k) (t.point k) (ray k)
  ray_meets k is other = at (is_in (basics_of s) k) refl
    where
      at : (mark : Bool) → is_in (basics_of s) k ≡ mark → Meets (lower_of p k) (upper_of p k) (t.point k) (ray k)
      at true mark =
          subst (Meets (lower_of p k) (upper_of p k) (t.point k)) (sym (ray_basic k other mark)) (zero_meets (lower_of p k) (upper_of p k) (t.point k))
      at false mark = nonbasic_meets (status_of s k) (lower_of p k) (upper_of p k) (t.point k) (excess_rate t.rate r below k) (ray k)
          (sym (is_in-basics_of s k is.0 (omega (arith, is.1, basis.counted))) ∙ mark) (tab.is_point.placed k is)
          (turned_signs below (t.rate r k) ∙ ap neg_ℚ (sym (ray_nonbasic k mark))) (idle k is) (basis.allowed k is)

  -- and r itself the limit that it broke
  pub ray_is : IsRay p ray
  ray_is = by_limit breaks
    where
      by_limit : Breaks (lower_of p r) (upper_of p r) (t.point r) below → IsRay p ray
      by_limit (breaks_lower l is limit broken) =
          ray_below p ray t.point r leaves.0 on_column tab.is_point.keeps (λ k is other. (ray_meets k is other).positive)
          (λ k is other. (ray_meets k is other).negative)
          l (subst (λ v. v <ℚ zero_ℚ) (sym (ray_own ∙ ap (λ b. signed b (neg_ℚ one_ℚ)) is)) minus_one) limit broken
      by_limit (breaks_upper u is limit broken) =
          ray_above p ray t.point r leaves.0 on_column tab.is_point.keeps (λ k is other. (ray_meets k is other).positive)
          (λ k is other. (ray_meets k is other).negative)
          u (subst (λ v. zero_ℚ <ℚ v) (sym (ray_own ∙ ap (λ b. signed b (neg_ℚ one_ℚ)) is)) plus_one) limit broken

-- a vector with the same multipliers is a ray too
pub IsRay-same : (p : LinearProgram) (w v : Vector) → ((k : ℕ) → IsVariable p.matrix k → w k ≡ v k) → IsRay p w → IsRay p v
IsRay-same p w v same h = record {
  vanishes = λ j is.
      sym (ap₂ ◌+ℚ◌ (same (p.rows + j) (omega (arith, is.0), omega (arith, is.1)))
      (sum_to-same p.rows _ _ (λ i low. ap (λ x. x *ℚ entry p.matrix (suc i) j) (same (suc i) (omega arith, omega (arith, low))))))
      ∙ h.vanishes j is;
  meets_upper = λ k is positive. h.meets_upper k is (subst (λ x. zero_ℚ <ℚ x) (sym (same k is)) positive);
  meets_lower = λ k is negative. h.meets_lower k is (subst (λ x. x <ℚ zero_ℚ) (sym (same k is)) negative);
  negative =
      subst (λ x. x <ℚ zero_ℚ)
      (sum_to-same (size p.matrix) _ _
      (λ k low. ap (λ x. x *ℚ unwrap_or (if lt_ℚ zero_ℚ x then upper_of p (suc k) else lower_of p (suc k)) zero_ℚ)
      (same (suc k) (omega arith, omega (arith, low))))) h.negative;
}

-- in a first phase that can't go on
infeasible_ray : (p : LinearProgram) (s : List Status) (t : Tableau) → IsBasis p s → IsNonsingular p.matrix (basics_of s) → IsTableau p s t → (r : ℕ) →
    IsFirstPhase p s t r →
    entering_variable p s t (Some r) ≡ None → IsRay p (ray_of (basics_of s) t.rate r (is_below p t.point r))
infeasible_ray p s t basis one tab r phase infeasible_ending =
    ray_is p s t basis one tab r (is_below p t.point r) (broken_basic p s t r phase) (broken_limit p s t r phase) idle
  where
    idle : (k : ℕ) → IsVariable p.matrix k → IsFixed p k ⊎ IsRightAt (status_of s k) (excess_rate t.rate r (is_below p t.point r) k)
    idle k is =
        right (status_of s k) (lower_of p k) (upper_of p k) (excess_rate t.rate r (is_below p t.point r) k) (is_fixed p k) refl
        (find_none (lowers p s (excess_rate t.rate r (is_below p t.point r))) (size p.matrix) 1 infeasible_ending k is.0 (omega (arith, is.1)))

-- an infeasible end: its ray is a proof
pub infeasible_end : (p : LinearProgram) (s : List Status) (w : List ℚ) → IsBasis p s → IsNonsingular p.matrix (basics_of s) → EndsAt p s (EndsInfeasible w) →
    IsRay p (value_at w)
infeasible_end p s w basis one ends =
    IsRay-same p ray_at (value_at w) at (infeasible_ray p s ends.tableau basis one ends.is_tableau turn.0 turn.1.phase turn.1.moves)
  where
    turn : (r : ℕ) × IsInfeasibleTurn p s ends.tableau (Ends (EndsInfeasible w)) r
    turn = infeasible_turn p s ends.tableau w (rule_of p s ends.tableau (Ends (EndsInfeasible w)) ends.turns)

    ray_at : Vector
    ray_at = ray_of (basics_of s) ends.tableau.rate turn.0 (is_below p ends.tableau.point turn.0)

    at : (k : ℕ) → IsVariable p.matrix k → ray_at k ≡ value_at w k
    at k is =
        let e = turn.1.gives in
        let same : w ≡ listed p.matrix ray_at = cc in
        sym (ap (λ xs. value_at xs k) same ∙ value_at-listed p.matrix ray_at k is)
