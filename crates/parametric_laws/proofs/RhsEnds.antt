-- In a run of the right-hand side the ray of a basic that leaves its limits, and that nothing brings back, proves for every greater
-- value that the program is infeasible.
use Rattle.std.proofs.Common.{◌≡◌, ℕ, ◌⊎◌, inl, inr, Bool, true, false, List, refl, sym, ap, subst, ◌∙◌, pos, arith}
use Rattle.std.specs.Prelude.{Option, Some, None, ◌&&◌, ◌||◌}
use Rattle.std.proofs.lemmas.Bool.{and_parts}
use Rattle.exact_values.specs.Rational.{ℚ, zero_ℚ, one_ℚ, ◌+ℚ◌, ◌-ℚ◌, ◌*ℚ◌, ◌<ℚ◌}
use Rattle.exact_values.specs.Tests.{eq_ℚ, lt_ℚ}
use Rattle.exact_values.proofs.Ring.{by_ring4, by_ring5, same_by_one, ◌⊕◌, ◌⊖◌, ◌⊗◌, ◌≐◌, number}
use Rattle.exact_values.proofs.Order.{lt_by_product}
use Rattle.exact_values.proofs.TestsLaws.{lt_from_test, same_from_test}
use Rattle.lp_definitions.specs.LinearProgram.{LinearProgram, Vector, value_at, IsVariable, lower_of, upper_of}
use Rattle.lp_definitions.specs.Solutions.{IsRay}
use Rattle.lp_definitions.specs.Basis.{is_in, is_basic, basics_of, status_of, StandsAt, IsPointOf, IsFixed, IsRightAt, Tableau, IsTableau}
use Rattle.lp_definitions.specs.declared.Status.{Status}
use Rattle.lp_definitions.specs.declared.Status.TheVariants.{Bs, Ll, Ul, Fr}
use Rattle.lp_laws.specs.Vectors.{along}
use Rattle.lp_laws.proofs.Duality.{infeasible_by_ray}
use Rattle.lp_laws.proofs.Equations.{KeepsEquations-along}
use Rattle.lp_laws.proofs.Uniqueness.{is_in-basics_of}
use Rattle.simplex_definitions.specs.Moves.{on_limit, is_fixed}
use Rattle.simplex_definitions.specs.Path.{listed, ray_of, excess_rate}
use Rattle.simplex_definitions.specs.DualRatio.{cheapest}
use Rattle.simplex_laws.specs.Laws.{IsNonsingularBasis}
use Rattle.simplex_laws.proofs.Ends.{right, value_at-listed}
use Rattle.simplex_laws.proofs.Rays.{Breaks, breaks_lower, breaks_upper, ray_is, IsRay-same}
use Rattle.simplex_laws.proofs.Searches.{found_passes}
use Rattle.simplex_definitions.specs.Chain.{ChainEnd, InfeasiblePast, FaceEnds}
use Rattle.simplex_definitions.specs.RhsRun.{shift_of, rhs_family, IsSlope, leaves_below, leaves_above, leaving, face_exchange, face_at, rhs_face, IsRhsFace}
use Rattle.sensitivity_laws.proofs.MovedLimits.{moved, lower_is, upper_is, fixed_at, free_unshifted}
use Rattle.parametric_laws.proofs.Rhs.{to_rhs}
use Rattle.parametric_laws.specs.Truth.{IsRefutedBy, IsTrueEnd}
use Rattle.simplex_laws.proofs.Cheapest.{cheapest_none}

-- ---- what is done at a breakpoint

module _ (p : LinearProgram) (shift : List ℚ) (theta : ℚ) (s : List Status) (t : Tableau) (v : Vector) where
  abbrev side : ℕ → Bool
  side r = leaves_below p shift theta s t v r

  -- nothing brings r back
  record IsInfeasibleEnd (end : ChainEnd) : Type 0 where
    r : ℕ
    found : leaving p shift theta s t v ≡ Some r
    alone : cheapest p s t r (side r) ≡ None
    gives : end ≡ InfeasiblePast theta (listed p.matrix (ray_of (basics_of s) t.rate r (side r)))

  infeasible_by : (end : ChainEnd) (r : ℕ) → leaving p shift theta s t v ≡ Some r → (o : Option ℕ) → cheapest p s t r (side r) ≡ o →
      face_exchange p shift theta s t v r (side r) o ≡ FaceEnds end → IsInfeasibleEnd end
  infeasible_by end r found (Some q) alone e = cc
  infeasible_by end r found None alone e = record {
    r = r;
    found = found;
    alone = alone;
    gives = let same : end ≡ InfeasiblePast theta (listed p.matrix (ray_of (basics_of s) t.rate r (side r))) = cc in same;
  }

  ending : (end : ChainEnd) (o : Option ℕ) → leaving p shift theta s t v ≡ o → face_at p shift theta s t v o ≡ FaceEnds end → IsInfeasibleEnd end
  ending end (Some r) found e = infeasible_by end r found (cheapest p s t r (side r)) refl e
  ending end None found e = cc

  is_infeasible : (end : ChainEnd) → rhs_face p shift theta s t v ≡ FaceEnds end → IsInfeasibleEnd end
  unfolding rhs_face
  is_infeasible end e = ending end (leaving p shift theta s t v) refl e

-- what leaves stands at a limit, and moves across it
data Crosses (low high : Option ℚ) (z v shift : ℚ) (below : Bool) : Type 0 where
  crosses_lower : below ≡ true → low ≡ Some z → v <ℚ shift → Crosses low high z v shift below
  crosses_upper : below ≡ false → high ≡ Some z → shift <ℚ v → Crosses low high z v shift below

limit_at : (o : Option ℚ) (z : ℚ) → on_limit (λ l. eq_ℚ z l) o ≡ true → o ≡ Some z
limit_at None z e = cc
limit_at (Some l) z e = ap (λ y. Some y) (sym (same_from_test z l e))

crosses : (low high : Option ℚ) (z v shift : ℚ) (below : Bool) → (on_limit (λ l. eq_ℚ z l) low && lt_ℚ v shift) ≡ below →
    (below || (on_limit (λ u. eq_ℚ z u) high && lt_ℚ shift v)) ≡ true → Crosses low high z v shift below
crosses low high z v shift true is e =
    let both = and_parts (on_limit (λ l. eq_ℚ z l) low) (lt_ℚ v shift) is in crosses_lower refl (limit_at low z both.0) (lt_from_test v shift both.1)
crosses low high z v shift false is e =
    let both = and_parts (on_limit (λ u. eq_ℚ z u) high) (lt_ℚ shift v) e in crosses_upper refl (limit_at high z both.0) (lt_from_test shift v both.1)

-- ---- a greater value

-- a limit at which a variable stands, moved on
moved_on : (limit : Option ℚ) (theta x shift z : ℚ) → moved theta shift limit ≡ Some z → moved x shift limit ≡ Some (z +ℚ (x -ℚ theta) *ℚ shift)
moved_on None theta x shift z e = cc
moved_on (Some l) theta x shift z e =
    let here : l +ℚ theta *ℚ shift ≡ z = cc in
    ap (λ y. Some y) (same_by_one one_ℚ here
    (by_ring5 l theta x shift z (λ l y x s z. l ⊕ x ⊗ s ≐ (z ⊕ (x ⊖ y) ⊗ s) ⊕ number (pos 1) ⊗ (l ⊕ y ⊗ s ⊖ z)) refl))

still_zero : (theta x z v : ℚ) → z ≡ zero_ℚ → v ≡ zero_ℚ → z +ℚ (x -ℚ theta) *ℚ v ≡ zero_ℚ
still_zero theta x z v e f = rw (e, f) (by_ring4 theta x z v (λ y x z v. number (pos 0) ⊕ (x ⊖ y) ⊗ number (pos 0) ≐ number (pos 0)) refl)

stands_on : (st : Status) (low high : Option ℚ) (theta x shift z v : ℚ) → (is_basic st ≡ false → v ≡ shift) → (st ≡ Fr → shift ≡ zero_ℚ) →
    StandsAt st (moved theta shift low) (moved theta shift high) z → StandsAt st (moved x shift low) (moved x shift high) (z +ℚ (x -ℚ theta) *ℚ v)
stands_on Bs low high theta x shift z v out free stands = tt
stands_on Ll low high theta x shift z v out free stands = rw (out refl) (moved_on low theta x shift z stands)
stands_on Ul low high theta x shift z v out free stands = rw (out refl) (moved_on high theta x shift z stands)
stands_on Fr low high theta x shift z v out free stands = still_zero theta x z v stands (out refl ∙ free refl)

breaks_on : (low high : Option ℚ) (theta x shift z v : ℚ) (below : Bool) → theta <ℚ x →
    Crosses (moved theta shift low) (moved theta shift high) z v shift below →
    Breaks (moved x shift low) (moved x shift high) (z +ℚ (x -ℚ theta) *ℚ v) below
breaks_on low high theta x shift z v below past (crosses_lower is stands slower) =
    breaks_lower (z +ℚ (x -ℚ theta) *ℚ shift) is (moved_on low theta x shift z stands)
    (lt_by_product past slower (by_ring5 theta x shift z v (λ y x s z v. z ⊕ (x ⊖ y) ⊗ s ≐ (z ⊕ (x ⊖ y) ⊗ v) ⊕ (x ⊖ y) ⊗ (s ⊖ v)) refl))
breaks_on low high theta x shift z v below past (crosses_upper is stands faster) =
    breaks_upper (z +ℚ (x -ℚ theta) *ℚ shift) is (moved_on high theta x shift z stands)
    (lt_by_product past faster (by_ring5 theta x shift z v (λ y x s z v. z ⊕ (x ⊖ y) ⊗ v ≐ (z ⊕ (x ⊖ y) ⊗ s) ⊕ (x ⊖ y) ⊗ (v ⊖ s)) refl))

module _ (p : LinearProgram) (shift : List ℚ) (theta : ℚ) (s : List Status) (at : IsNonsingularBasis p s) (t : Tableau)
    (tab : IsTableau (rhs_family p shift theta) s t)
    (v : Vector) (slope : IsSlope (rhs_family p shift theta) s shift v) (end : ChainEnd)
    (infeasible_end : IsInfeasibleEnd (rhs_family p shift theta) shift theta s t v end) (x : ℚ) (past : theta <ℚ x) where
  abbrev by : ℕ → ℚ
  by k = shift_of p.matrix shift k

  abbrev r : ℕ
  r = infeasible_end.r

  abbrev below : Bool
  below = side (rhs_family p shift theta) shift theta s t v infeasible_end.r

  abbrev later : Vector
  later = along t.point (x -ℚ theta) v

  out_of : (k : ℕ) → IsVariable p.matrix k → is_basic (status_of s k) ≡ false → v k ≡ by k
  out_of k is out = slope.placed k (is, is_in-basics_of s k is.0 (omega (arith, is.1, at.is_basis.counted)) ∙ out)

  stands_here : (k : ℕ) → IsVariable p.matrix k → StandsAt (status_of s k) (moved theta (by k) (lower_of p k)) (moved theta (by k) (upper_of p k)) (t.point k)
  stands_here k is =
      subst (λ low. StandsAt (status_of s k) low (moved theta (by k) (upper_of p k)) (t.point k)) (lower_is p shift theta k is)
      (subst (λ high. StandsAt (status_of s k) (lower_of (rhs_family p shift theta) k) high (t.point k)) (upper_is p shift theta k is)
      (tab.is_point.placed k is))

  later_point : IsPointOf (rhs_family p shift x) s later
  later_point = record {
    keeps = KeepsEquations-along p.matrix t.point (x -ℚ theta) v tab.is_point.keeps slope.keeps;
    placed = λ k is.
        subst (λ low. StandsAt (status_of s k) low (upper_of (rhs_family p shift x) k) (later k)) (sym (lower_is p shift x k is))
        (subst (λ high. StandsAt (status_of s k) (moved x (by k) (lower_of p k)) high (later k)) (sym (upper_is p shift x k is))
        (stands_on (status_of s k) (lower_of p k) (upper_of p k) theta x (by k) (t.point k) (v k) (out_of k is) (free_unshifted p shift s k at is)
        (stands_here k is)));
  }

  found : IsVariable p.matrix infeasible_end.r ×
      ((is_in (basics_of s) infeasible_end.r &&
      (leaves_below (rhs_family p shift theta) shift theta s t v infeasible_end.r || leaves_above
      (rhs_family p shift theta) shift theta s t v infeasible_end.r)) ≡ true)
  found = found_passes (rhs_family p shift theta)
      (λ k. is_in (basics_of s) k &&
      (leaves_below (rhs_family p shift theta) shift theta s t v k || leaves_above
      (rhs_family p shift theta) shift theta s t v k)) infeasible_end.r infeasible_end.found

  tests : (is_in (basics_of s) infeasible_end.r ≡ true) × ((below || leaves_above (rhs_family p shift theta) shift theta s t v infeasible_end.r) ≡ true)
  tests = and_parts (is_in (basics_of s) infeasible_end.r) (below || leaves_above (rhs_family p shift theta) shift theta s t v infeasible_end.r) found.1

  crosses_here : Crosses (moved theta (by infeasible_end.r) (lower_of p infeasible_end.r)) (moved theta (by infeasible_end.r) (upper_of p infeasible_end.r))
      (t.point infeasible_end.r) (v infeasible_end.r) (by infeasible_end.r) below
  crosses_here =
      subst (λ low. Crosses low (moved theta (by infeasible_end.r) (upper_of p infeasible_end.r)) (t.point infeasible_end.r) (v infeasible_end.r)
      (by infeasible_end.r) below) (lower_is p shift theta infeasible_end.r found.0)
      (subst (λ high. Crosses (lower_of (rhs_family p shift theta) infeasible_end.r) high (t.point infeasible_end.r) (v infeasible_end.r)
      (by infeasible_end.r) below) (upper_is p shift theta infeasible_end.r found.0)
      (crosses (lower_of (rhs_family p shift theta) infeasible_end.r) (upper_of (rhs_family p shift theta) infeasible_end.r) (t.point infeasible_end.r)
      (v infeasible_end.r) (by infeasible_end.r) below refl tests.1))

  breaks_later : Breaks (lower_of (rhs_family p shift x) infeasible_end.r) (upper_of (rhs_family p shift x) infeasible_end.r) (later infeasible_end.r) below
  breaks_later =
      subst (λ low. Breaks low (upper_of (rhs_family p shift x) infeasible_end.r) (later infeasible_end.r) below)
      (sym (lower_is p shift x infeasible_end.r found.0))
      (subst (λ high. Breaks (moved x (by infeasible_end.r) (lower_of p infeasible_end.r)) high (later infeasible_end.r) below)
      (sym (upper_is p shift x infeasible_end.r found.0))
      (breaks_on (lower_of p infeasible_end.r) (upper_of p infeasible_end.r) theta x (by infeasible_end.r) (t.point infeasible_end.r)
      (v infeasible_end.r) below past crosses_here))

  -- nothing brings it back, at theta and at x
  idle : (k : ℕ) → IsVariable p.matrix k → IsFixed (rhs_family p shift x) k ⊎ IsRightAt (status_of s k) (excess_rate t.rate infeasible_end.r below k)
  idle k is =
      carried (right (status_of s k) (lower_of (rhs_family p shift theta) k) (upper_of (rhs_family p shift theta) k)
      (excess_rate t.rate infeasible_end.r below k) (is_fixed (rhs_family p shift theta) k) refl
      (cheapest_none (rhs_family p shift theta) s t infeasible_end.r below infeasible_end.alone k is))
    where
      carried : IsFixed (rhs_family p shift theta) k ⊎ IsRightAt (status_of s k) (excess_rate t.rate infeasible_end.r below k) →
          IsFixed (rhs_family p shift x) k ⊎ IsRightAt (status_of s k) (excess_rate t.rate infeasible_end.r below k)
      carried (inl fixed) = inl (fixed_at p shift theta x k is fixed)
      carried (inr idle) = inr idle

  abbrev ray : Vector
  ray = ray_of (basics_of s) t.rate infeasible_end.r below

  refuted : IsRefutedBy (rhs_family p shift x) (value_at (listed p.matrix ray))
  refuted =
      let is : IsRay (rhs_family p shift x) (value_at (listed p.matrix ray)) =
      IsRay-same (rhs_family p shift x) ray (value_at (listed p.matrix ray)) (λ k is. sym (value_at-listed p.matrix ray k is))
      (ray_is (rhs_family p shift x) s (record { point = later; rate = t.rate }) (to_rhs p shift x s at).is_basis at.nonsingular
      (record { is_point = later_point; are_rates = tab.are_rates })
      infeasible_end.r below (found.0, tests.0) breaks_later idle) in
      record { ray = is; infeasible = infeasible_by_ray (rhs_family p shift x) (value_at (listed p.matrix ray)) is }

pub rhs_closes : (p : LinearProgram) (shift : List ℚ) (theta max : ℚ) (s : List Status) (end : ChainEnd) → IsNonsingularBasis p s → theta <ℚ max →
    IsRhsFace p shift theta s (FaceEnds end) → IsTrueEnd (rhs_family p shift) max theta end
rhs_closes p shift theta max s end at before face =
    let infeasible_end = is_infeasible (rhs_family p shift theta) shift theta s face.0 face.1 end face.4 in
    subst (IsTrueEnd (rhs_family p shift) max theta) (sym infeasible_end.gives)
    (record { at_last = refl; before_max = before; proved = λ x past. refuted p shift theta s at face.0 face.2 face.1 face.3 end infeasible_end x past })
