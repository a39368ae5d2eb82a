-- The variable that leaves, by values and slopes, is that of each tableau.
use Rattle.std.proofs.Common.{◌≡◌, ℕ, List, Bool, true, false, cond, pos, refl, sym, ap, ap₂, ◌∙◌, arith}
use Rattle.std.specs.Prelude.{Option, Some, None, not, ◌&&◌, ◌||◌}
use Rattle.std.proofs.lemmas.Bool.{and_right}
use Rattle.exact_values.specs.Rational.{ℚ, one_ℚ, ◌+ℚ◌, ◌-ℚ◌, ◌*ℚ◌, ◌≤ℚ◌}
use Rattle.exact_values.specs.Tests.{eq_ℚ, lt_ℚ}
use Rattle.exact_values.proofs.Order.{le_of_eq, le_of_lt}
use Rattle.exact_values.proofs.Ring.{by_ring5, same_by_one, number, ◌⊕◌, ◌⊖◌, ◌⊗◌, ◌≐◌}
use Rattle.exact_values.proofs.TestsLaws.{test_from_lt, lt_fails_from_le, same_from_test, test_from_same, apart_from_eq_fails, eq_fails_from_apart}
use Rattle.lp_definitions.specs.Basis.{is_in, basics_of, IsPointOf, Tableau, IsTableau}
use Rattle.lp_definitions.specs.LinearProgram.{LinearProgram, Vector, size, IsVariable, IsLinearProgram, lower_of, upper_of}
use Rattle.lp_definitions.specs.declared.Status.{Status}
use Rattle.lp_laws.proofs.Uniqueness.{one_point, same_from_nonbasics}
use Rattle.lp_laws.specs.Vectors.{along}
use Rattle.simplex_definitions.specs.Moves.{least, on_limit}
use Rattle.simplex_laws.proofs.Numbered.{find_same}
use Rattle.simplex_laws.proofs.Searches.{found_passes}
use Rattle.simplex_laws.specs.Laws.{IsNonsingularBasis}
use Rattle.simplex_definitions.specs.RhsRun.{shift_of, rhs_family, IsSlope, leaves_below, leaves_above, leaving}
use Rattle.sensitivity_laws.proofs.MovedLimits.{moved, lower_is, upper_is}
use Rattle.sensitivity_laws.proofs.RightHandSides.{points}
use Rattle.parametric_laws.proofs.Rhs.{to_rhs}
use Rattle.para_rhs.specs.Breaks.{stands_at, leaving_on, leaving_side, is_there, leaves, IsLeaverOf, IsLeaverAt}
use Rattle.para_rhs.specs.Limits.{is_upper}
use Rattle.para_rhs.specs.Reach.{side_ahead}
use Rattle.para_rhs.specs.declared.breaks.Leaver.{Leaver}
use Rattle.para_rhs.specs.declared.limits.Side.{Side}
use Rattle.para_rhs.specs.declared.limits.Side.TheVariants.{Lower, Upper}
use Rattle.para_rhs.proofs.Narrowing.{comes_lower, comes_upper, keeps_up, apart_if_ahead}
use Rattle.para_rhs.proofs.ReachStops.{basic_if_moves}

-- ---- a product that is the distance

pub same_tests : (a b c d : ℚ) → (a ≡ b → c ≡ d) → (c ≡ d → a ≡ b) → eq_ℚ a b ≡ eq_ℚ c d
same_tests a b c d to from = at (eq_ℚ a b) refl
  where
    at : (t : Bool) → eq_ℚ a b ≡ t → eq_ℚ a b ≡ eq_ℚ c d
    at true e = e ∙ sym (test_from_same c d (to (same_from_test a b e)))
    at false e = e ∙ sym (eq_fails_from_apart c d (λ same. apart_from_eq_fails a b e (from same)))

pub product_test : (theta value slope by limit : ℚ) → eq_ℚ (theta *ℚ (slope -ℚ by)) (limit -ℚ value) ≡ stands_at theta value slope by limit
product_test theta value slope by limit =
    same_tests (theta *ℚ (slope -ℚ by)) (limit -ℚ value) (value +ℚ theta *ℚ slope) (limit +ℚ theta *ℚ by)
    (λ e. same_by_one one_ℚ e (by_ring5 theta value slope by limit (λ t z v s l. z ⊕ t ⊗ v ≐ (l ⊕ t ⊗ s) ⊕ number (pos 1) ⊗ (t ⊗ (v ⊖ s) ⊖ (l ⊖ z))) refl))
    (λ e. same_by_one one_ℚ e (by_ring5 theta value slope by limit (λ t z v s l. t ⊗ (v ⊖ s) ≐ (l ⊖ z) ⊕ number (pos 1) ⊗ ((z ⊕ t ⊗ v) ⊖ (l ⊕ t ⊗ s))) refl))

-- ---- one variable

on_moved : (limit : Option ℚ) (theta value slope by : ℚ) →
    on_limit (λ l. eq_ℚ (value +ℚ theta *ℚ slope) l) (moved theta by limit) ≡ on_limit (stands_at theta value slope by) limit
on_moved None theta value slope by = refl
on_moved (Some l) theta value slope by = refl

found_if : (b : Bool) (side : Side) → is_there (cond b (Some side) None) ≡ b
found_if true side = refl
found_if false side = refl

module _ (p : LinearProgram) (shift : List ℚ) (theta : ℚ) (s : List Status) (at : IsNonsingularBasis p s) (lawful : IsLinearProgram p) (z v : Vector)
    (point : IsPointOf p s z) (slope : IsSlope p s shift v)
    (t : Tableau) (w : Vector) (is_t : IsTableau (rhs_family p shift theta) s t) (is_w : IsSlope (rhs_family p shift theta) s shift w) where
  pub value_is : (k : ℕ) → IsVariable p.matrix k → t.point k ≡ along z theta v k
  value_is k is =
      let there = to_rhs p shift theta s at in
      one_point (rhs_family p shift theta) s t.point (along z theta v) there.is_basis.counted there.nonsingular is_t.is_point
      (points p shift s at z v point slope theta) k is

  pub slope_is : (k : ℕ) → IsVariable p.matrix k → w k ≡ v k
  slope_is = same_from_nonbasics p.matrix (basics_of s) w v at.nonsingular is_w.keeps slope.keeps (λ k out. is_w.placed k out ∙ sym (slope.placed k out))

  low_is : (k : ℕ) → IsVariable p.matrix k →
      on_limit (λ l. eq_ℚ (t.point k) l) (lower_of (rhs_family p shift theta) k) ≡ on_limit (stands_at theta (z k) (v k) (shift_of p.matrix shift k))
      (lower_of p k)
  low_is k is =
      ap₂ (λ (o : Option ℚ) (y : ℚ). on_limit (λ l. eq_ℚ y l) o) (lower_is p shift theta k is) (value_is k is)
      ∙ on_moved (lower_of p k) theta (z k) (v k) (shift_of p.matrix shift k)

  high_is : (k : ℕ) → IsVariable p.matrix k →
      on_limit (λ l. eq_ℚ (t.point k) l) (upper_of (rhs_family p shift theta) k) ≡ on_limit (stands_at theta (z k) (v k) (shift_of p.matrix shift k))
      (upper_of p k)
  high_is k is =
      ap₂ (λ (o : Option ℚ) (y : ℚ). on_limit (λ l. eq_ℚ y l) o) (upper_is p shift theta k is) (value_is k is)
      ∙ on_moved (upper_of p k) theta (z k) (v k) (shift_of p.matrix shift k)

  abbrev below : ℕ → Bool
  below k = leaves_below (rhs_family p shift theta) shift theta s t w k

  abbrev above : ℕ → Bool
  above k = leaves_above (rhs_family p shift theta) shift theta s t w k

  falls : (k : ℕ) → IsVariable p.matrix k → (b : Bool) → lt_ℚ (v k) (shift_of p.matrix shift k) ≡ b → lt_ℚ (w k) (shift_of p.matrix shift k) ≡ b
  falls k is b e = ap (λ x. lt_ℚ x (shift_of p.matrix shift k)) (slope_is k is) ∙ e

  rises : (k : ℕ) → IsVariable p.matrix k → (b : Bool) → lt_ℚ (shift_of p.matrix shift k) (v k) ≡ b → lt_ℚ (shift_of p.matrix shift k) (w k) ≡ b
  rises k is b e = ap (λ x. lt_ℚ (shift_of p.matrix shift k) x) (slope_is k is) ∙ e

  not_below : (k : ℕ) → IsVariable p.matrix k → lt_ℚ (v k) (shift_of p.matrix shift k) ≡ false → below k ≡ false
  not_below k is e = and_right _ _ (falls k is false e)

  not_above : (k : ℕ) → IsVariable p.matrix k → lt_ℚ (shift_of p.matrix shift k) (v k) ≡ false → above k ≡ false
  not_above k is e = and_right _ _ (rises k is false e)

  and_true : (a b : Bool) → b ≡ true → (a && b) ≡ a
  and_true true b e = e
  and_true false b e = refl

  -- at its lower limit, which rises faster than it does
  by_lower : (k : ℕ) → IsVariable p.matrix k → side_ahead (v k) (shift_of p.matrix shift k) ≡ Some Lower →
      (below k ≡ on_limit (stands_at theta (z k) (v k) (shift_of p.matrix shift k)) (lower_of p k)) × (above k ≡ false)
  by_lower k is ahead =
      let less = comes_lower (v k) (shift_of p.matrix shift k) ahead in (
        and_true _ _ (falls k is true (test_from_lt (v k) (shift_of p.matrix shift k) less)) ∙ low_is k is,
        not_above k is (lt_fails_from_le (shift_of p.matrix shift k) (v k) (le_of_lt less)),
      )

  by_upper : (k : ℕ) → IsVariable p.matrix k → side_ahead (v k) (shift_of p.matrix shift k) ≡ Some Upper →
      (below k ≡ false) × (above k ≡ on_limit (stands_at theta (z k) (v k) (shift_of p.matrix shift k)) (upper_of p k))
  by_upper k is ahead =
      let more = comes_upper (v k) (shift_of p.matrix shift k) ahead in (
        not_below k is (lt_fails_from_le (v k) (shift_of p.matrix shift k) (le_of_lt more)),
        and_true _ _ (rises k is true (test_from_lt (shift_of p.matrix shift k) (v k) more)) ∙ high_is k is,
      )

  by_none : (k : ℕ) → IsVariable p.matrix k → side_ahead (v k) (shift_of p.matrix shift k) ≡ None → (below k ≡ false) × (above k ≡ false)
  by_none k is ahead =
      let same = keeps_up (v k) (shift_of p.matrix shift k) ahead in
      let at_most : v k ≤ℚ shift_of p.matrix shift k = le_of_eq same in
      let at_least : shift_of p.matrix shift k ≤ℚ v k = le_of_eq (sym same) in (
        not_below k is (lt_fails_from_le (v k) (shift_of p.matrix shift k) at_least),
        not_above k is
            (lt_fails_from_le (shift_of p.matrix shift k) (v k) at_most),
      )

  marked : (k : ℕ) → IsVariable p.matrix k → (side : Side) → side_ahead (v k) (shift_of p.matrix shift k) ≡ Some side → is_in (basics_of s) k ≡ true
  marked k is side ahead = (basic_if_moves p shift lawful s at z v point slope k is (apart_if_ahead (v k) (shift_of p.matrix shift k) side ahead)).1

  or_false : (b : Bool) → (b || false) ≡ b
  or_false true = refl
  or_false false = refl

  same_test : (k : ℕ) → IsVariable p.matrix k → (is_in (basics_of s) k && (below k || above k)) ≡ leaves p shift theta z v k
  same_test k is = by_side (side_ahead (v k) (shift_of p.matrix shift k)) refl
    where
      by_side : (o : Option Side) → side_ahead (v k) (shift_of p.matrix shift k) ≡ o →
          (is_in (basics_of s) k && (below k || above k)) ≡ is_there (leaving_on p theta (z k) (v k) (shift_of p.matrix shift k) k o)
      by_side None ahead = let h = by_none k is ahead in and_right (is_in (basics_of s) k) (below k || above k) (ap₂ (λ a b. a || b) h.0 h.1)
      by_side (Some Lower) ahead =
          let h = by_lower k is ahead in
          ap₂ (λ m b. m && b) (marked k is Lower ahead) (ap₂ (λ a b. a || b) h.0 h.1 ∙ or_false _)
          ∙ sym (found_if (on_limit (stands_at theta (z k) (v k) (shift_of p.matrix shift k)) (lower_of p k)) Lower)
      by_side (Some Upper) ahead =
          let h = by_upper k is ahead in
          ap₂ (λ m b. m && b) (marked k is Upper ahead) (ap₂ (λ a b. a || b) h.0 h.1)
          ∙ sym (found_if (on_limit (stands_at theta (z k) (v k) (shift_of p.matrix shift k)) (upper_of p k)) Upper)

  same_leaver : leaving (rhs_family p shift theta) shift theta s t w ≡ least p (leaves p shift theta z v)
  same_leaver =
      find_same (λ k. is_in (basics_of s) k && (below k || above k)) (leaves p shift theta z v) (size p.matrix) 1
      (λ k low high. same_test k (low, omega (arith, high)))

  some_side : (b : Bool) (side other : Side) → cond b (Some side) None ≡ Some other → (b ≡ true) × (side ≡ other)
  some_side true side other e = let same : side ≡ other = cc in (refl, same)
  some_side false side other e = cc

  -- whether it stands at its lower limit
  which : (k : ℕ) → IsVariable p.matrix k → (side : Side) → leaving_side p shift theta z v k ≡ Some side → below k ≡ not (is_upper side)
  which k is side found = by_side (side_ahead (v k) (shift_of p.matrix shift k)) refl found
    where
      by_side : (o : Option Side) → side_ahead (v k) (shift_of p.matrix shift k) ≡ o →
          leaving_on p theta (z k) (v k) (shift_of p.matrix shift k) k o ≡ Some side → below k ≡ not (is_upper side)
      by_side None ahead e = cc
      by_side (Some Lower) ahead e =
          let h = some_side (on_limit (stands_at theta (z k) (v k) (shift_of p.matrix shift k)) (lower_of p k)) Lower side e in
          (by_lower k is ahead).0 ∙ h.0 ∙ ap (λ x. not (is_upper x)) h.1
      by_side (Some Upper) ahead e =
          let h = some_side (on_limit (stands_at theta (z k) (v k) (shift_of p.matrix shift k)) (upper_of p k)) Upper side e in
          (by_upper k is ahead).0 ∙ ap (λ x. not (is_upper x)) h.1

  pub leaver_at : (found : Option Leaver) → IsLeaverOf p shift theta z v found → IsLeaverAt (rhs_family p shift theta) shift theta s t w found
  leaver_at None h = same_leaver ∙ h
  leaver_at (Some l) h = (same_leaver ∙ h.0, which l.r (found_passes p (leaves p shift theta z v) l.r h.0).0 l.side h.1)

-- the next variable, from its value and slope
pub side_here : (p : LinearProgram) (shift : List ℚ) (theta : ℚ) (z v : Vector) (k : ℕ) (here rate : ℚ) → z k ≡ here → v k ≡ rate →
    leaving_side p shift theta (λ _. here) (λ _. rate) k ≡ leaving_side p shift theta z v k
side_here p shift theta z v k here rate here_is rate_is =
    ap₂ (λ (a b : ℚ). leaving_on p theta a b (shift_of p.matrix shift k) k (side_ahead b (shift_of p.matrix shift k))) (sym here_is) (sym rate_is)
