-- A nonbasic rises or falls until a variable stops it: how far that is, and where it leads.
use Rattle.std.proofs.Common.{◌≡◌, ◌≢◌, ℕ, Bool, true, false, List, refl, sym, ap, subst, ◌∙◌, pos}
use Rattle.std.specs.Prelude.{Option, Some, None, IfSome, option_map, if◌then◌else◌}
use Rattle.std.proofs.lemmas.Option.{same_Some}
use Rattle.exact_values.specs.Rational.{ℚ, zero_ℚ, neg_ℚ, ◌+ℚ◌, ◌-ℚ◌, ◌*ℚ◌, ◌/ℚ◌, ◌≤ℚ◌, ◌<ℚ◌}
use Rattle.exact_values.specs.Tests.{lt_ℚ}
use Rattle.exact_values.proofs.Ring.{by_ring1, by_ring2, by_ring3, by_ring4, ◌⊕◌, ◌⊖◌, ◌⊗◌, ◌≐◌, number, opposite}
use Rattle.exact_values.proofs.Inverse.{div-mul_cancel, same_quotients}
use Rattle.exact_values.proofs.Order.{le_refl, le_trans, le_antisymm, le_of_lt, le_by_one, le_by_product, le-div, mul-le_of_le-div, apart_from_above}
use Rattle.exact_values.proofs.Order.{apart_from_below}
use Rattle.exact_values.proofs.TestsLaws.{lt_from_test, le_from_lt_fails, le_from_test}
use Rattle.exact_values.proofs.Signs.{neg_above}
use Rattle.lp_definitions.specs.LinearProgram.{LinearProgram, IsVariable, KeepsEquations, lower_of, upper_of}
use Rattle.lp_definitions.specs.Solutions.{IsFeasible}
use Rattle.lp_definitions.specs.Basis.{basics_of, with_status, StandsAt, IsNonbasic, IsPointOf, Tableau, IsTableau}
use Rattle.lp_definitions.specs.declared.Status.{Status}
use Rattle.lp_definitions.specs.declared.Status.TheVariants.{Bs, Ll, Ul}
use Rattle.lp_laws.specs.Vectors.{along}
use Rattle.lp_laws.proofs.Equations.{KeepsEquations-along}
use Rattle.lp_laws.proofs.Points.{IsPointOf-replaced}
use Rattle.simplex_definitions.specs.Moves.{is_no_later, signed, step_length, reached, blocking_variable}
use Rattle.simplex_definitions.specs.Path.{speeds}
use Rattle.simplex_laws.specs.Laws.{IsNonsingularBasis}
use Rattle.simplex_laws.proofs.BlockingVariables.{blocking_variable_some, reaches_limit}

-- ---- how far a variable may move

-- a quotient with both signs turned
turned_quotient : (a v : ℚ) → v <ℚ zero_ℚ → a /ℚ v ≡ neg_ℚ a /ℚ neg_ℚ v
turned_quotient a v h =
    same_quotients a v (neg_ℚ a) (neg_ℚ v) (apart_from_below h) (apart_from_above (neg_above v h)) (by_ring2 a v (λ a v. a ⊗ opposite v ≐ opposite a ⊗ v) refl)

pub difference_above : (x y : ℚ) → x ≤ℚ y → zero_ℚ ≤ℚ y -ℚ x
difference_above x y h = le_by_one h (by_ring2 x y (λ x y. y ⊖ x ≐ number (pos 0) ⊕ (y ⊖ x)) refl)

-- a motion of the length x at the speed v, from z
module _ (z v x : ℚ) (forward : zero_ℚ ≤ℚ x) where
  moved_up : zero_ℚ <ℚ v → z ≤ℚ z +ℚ x *ℚ v
  moved_up h = le_by_product forward (le_of_lt h) (by_ring3 z x v (λ z x v. z ⊕ x ⊗ v ≐ z ⊕ (x ⊖ number (pos 0)) ⊗ (v ⊖ number (pos 0))) refl)

  moved_down : v <ℚ zero_ℚ → z +ℚ x *ℚ v ≤ℚ z
  moved_down h = le_by_product forward (le_of_lt h) (by_ring3 z x v (λ z x v. z ≐ (z ⊕ x ⊗ v) ⊕ (x ⊖ number (pos 0)) ⊗ (number (pos 0) ⊖ v)) refl)

  below_upper : (u : ℚ) → zero_ℚ <ℚ v → x ≤ℚ (u -ℚ z) /ℚ v → z +ℚ x *ℚ v ≤ℚ u
  below_upper u h least = le_by_one (mul-le_of_le-div h least) (by_ring4 z x v u (λ z x v u. u ≐ (z ⊕ x ⊗ v) ⊕ ((u ⊖ z) ⊖ x ⊗ v)) refl)

  above_lower : (l : ℚ) → v <ℚ zero_ℚ → x ≤ℚ (l -ℚ z) /ℚ v → l ≤ℚ z +ℚ x *ℚ v
  above_lower l h least =
      let turned : x ≤ℚ neg_ℚ (l -ℚ z) /ℚ neg_ℚ v = subst (λ y. x ≤ℚ y) (turned_quotient (l -ℚ z) v h) least in
      le_by_one (mul-le_of_le-div (neg_above v h) turned) (by_ring4 z x v l (λ z x v l. z ⊕ x ⊗ v ≐ l ⊕ (opposite (l ⊖ z) ⊖ x ⊗ opposite v)) refl)

  -- what is within its limits, and does not move past the limit ahead, stays within them
  moved_within : (low high : Option ℚ) → IfSome low (λ l. l ≤ℚ z) × IfSome high (λ u. z ≤ℚ u) →
      is_no_later (Some x) (option_map (λ l. (l -ℚ z) /ℚ v) (if lt_ℚ zero_ℚ v then high else (if lt_ℚ v zero_ℚ then low else None))) ≡ true →
      IfSome low (λ l. l ≤ℚ z +ℚ x *ℚ v) × IfSome high (λ u. z +ℚ x *ℚ v ≤ℚ u)
  moved_within low high within no_sooner = by_tests (lt_ℚ zero_ℚ v) refl (lt_ℚ v zero_ℚ) refl no_sooner
    where
      low_kept : (low : Option ℚ) → IfSome low (λ l. l ≤ℚ z) → (w : ℚ) → z ≤ℚ w → IfSome low (λ l. l ≤ℚ w)
      low_kept None h w up = tt
      low_kept (Some l) h w up = le_trans h up

      high_kept : (high : Option ℚ) → IfSome high (λ u. z ≤ℚ u) → (w : ℚ) → w ≤ℚ z → IfSome high (λ u. w ≤ℚ u)
      high_kept None h w down = tt
      high_kept (Some u) h w down = le_trans down h

      upper_ahead : (high : Option ℚ) → zero_ℚ <ℚ v → is_no_later (Some x) (option_map (λ l. (l -ℚ z) /ℚ v) high) ≡ true → IfSome high (λ u. z +ℚ x *ℚ v ≤ℚ u)
      upper_ahead None h e = tt
      upper_ahead (Some u) h e = below_upper u h (le_from_test x ((u -ℚ z) /ℚ v) e)

      lower_ahead : (low : Option ℚ) → v <ℚ zero_ℚ → is_no_later (Some x) (option_map (λ l. (l -ℚ z) /ℚ v) low) ≡ true → IfSome low (λ l. l ≤ℚ z +ℚ x *ℚ v)
      lower_ahead None h e = tt
      lower_ahead (Some l) h e = above_lower l h (le_from_test x ((l -ℚ z) /ℚ v) e)

      by_tests : (up : Bool) → lt_ℚ zero_ℚ v ≡ up → (down : Bool) → lt_ℚ v zero_ℚ ≡ down →
          is_no_later (Some x) (option_map (λ l. (l -ℚ z) /ℚ v) (if up then high else (if down then low else None))) ≡ true →
          IfSome low (λ l. l ≤ℚ z +ℚ x *ℚ v) × IfSome high (λ u. z +ℚ x *ℚ v ≤ℚ u)
      by_tests true up down down_is e = let h = lt_from_test zero_ℚ v up in (low_kept low within.0 (z +ℚ x *ℚ v) (moved_up h), upper_ahead high h e)
      by_tests false up true down_is e = let h = lt_from_test v zero_ℚ down_is in (lower_ahead low h e, high_kept high within.1 (z +ℚ x *ℚ v) (moved_down h))
      by_tests false up false down_is e =
          let none : v ≡ zero_ℚ = le_antisymm (le_from_lt_fails zero_ℚ v up) (le_from_lt_fails v zero_ℚ down_is) in
          let still : z ≡ z +ℚ x *ℚ v = by_ring2 z x (λ z x. z ≐ z ⊕ x ⊗ number (pos 0)) refl ∙ ap (λ y. z +ℚ x *ℚ y) (sym none) in (
            low_kept low within.0 (z +ℚ x *ℚ v) (subst (λ y. z ≤ℚ y) still (le_refl z)),
            high_kept high within.1 (z +ℚ x *ℚ v)
                (subst (λ y. y ≤ℚ z) still (le_refl z)),
          )

-- ---- the variable that stops the motion

-- it comes to the limit ahead, which is not behind it
pub record ComesTo (low high : Option ℚ) (z v x : ℚ) : Type 0 where
  pub forward : zero_ℚ ≤ℚ x
  pub arrives : (if lt_ℚ zero_ℚ v then high else low) ≡ Some (z +ℚ x *ℚ v)
  pub moves : v ≢ zero_ℚ

arrival : (z v l : ℚ) → v ≢ zero_ℚ → l ≡ z +ℚ (l -ℚ z) /ℚ v *ℚ v
arrival z v l apart = by_ring2 z l (λ z l. l ≐ z ⊕ (l ⊖ z)) refl ∙ ap (λ y. z +ℚ y) (sym (div-mul_cancel (l -ℚ z) v apart))

comes_to : (low high : Option ℚ) (z v x : ℚ) → IfSome low (λ l. l ≤ℚ z) × IfSome high (λ u. z ≤ℚ u) →
    option_map (λ l. (l -ℚ z) /ℚ v) (if lt_ℚ zero_ℚ v then high else (if lt_ℚ v zero_ℚ then low else None)) ≡ Some x → ComesTo low high z v x
comes_to low high z v x within e = by_tests (lt_ℚ zero_ℚ v) refl (lt_ℚ v zero_ℚ) refl e
  where
    upper : (high : Option ℚ) → IfSome high (λ u. z ≤ℚ u) → zero_ℚ <ℚ v → option_map (λ l. (l -ℚ z) /ℚ v) high ≡ Some x →
        (zero_ℚ ≤ℚ x) × (high ≡ Some (z +ℚ x *ℚ v))
    upper None h up e = cc
    upper (Some u) h up e =
        let x_is : (u -ℚ z) /ℚ v ≡ x = same_Some _ _ e in (
          subst (λ y. zero_ℚ ≤ℚ y) x_is
              (le-div up (subst (λ y. y ≤ℚ u -ℚ z) (by_ring1 v (λ v. number (pos 0) ≐ number (pos 0) ⊗ v) refl) (difference_above z u h))),
          ap (λ y. Some y) (arrival z v u (apart_from_above up) ∙ ap (λ y. z +ℚ y *ℚ v) x_is),
        )

    lower : (low : Option ℚ) → IfSome low (λ l. l ≤ℚ z) → v <ℚ zero_ℚ → option_map (λ l. (l -ℚ z) /ℚ v) low ≡ Some x →
        (zero_ℚ ≤ℚ x) × (low ≡ Some (z +ℚ x *ℚ v))
    lower None h down e = cc
    lower (Some l) h down e =
        let x_is : (l -ℚ z) /ℚ v ≡ x = same_Some _ _ e in
        let turned : neg_ℚ (l -ℚ z) /ℚ neg_ℚ v ≡ x = sym (turned_quotient (l -ℚ z) v down) ∙ x_is in
        let ahead : zero_ℚ ≤ℚ neg_ℚ (l -ℚ z) = subst (λ y. zero_ℚ ≤ℚ y) (by_ring2 z l (λ z l. z ⊖ l ≐ opposite (l ⊖ z)) refl) (difference_above l z h) in (
          subst (λ y. zero_ℚ ≤ℚ y) turned
              (le-div (neg_above v down) (subst (λ y. y ≤ℚ neg_ℚ (l -ℚ z)) (by_ring1 v (λ v. number (pos 0) ≐ number (pos 0) ⊗ opposite v) refl) ahead)),
          ap (λ y. Some y) (arrival z v l (apart_from_below down) ∙ ap (λ y. z +ℚ y *ℚ v) x_is),
        )

    by_tests : (up : Bool) → lt_ℚ zero_ℚ v ≡ up → (down : Bool) → lt_ℚ v zero_ℚ ≡ down →
        option_map (λ l. (l -ℚ z) /ℚ v) (if up then high else (if down then low else None)) ≡ Some x → ComesTo low high z v x
    by_tests true up down down_is e =
        let above = lt_from_test zero_ℚ v up in
        let h = upper high within.1 above e in record { forward = h.0; arrives = rw up h.1; moves = apart_from_above above }
    by_tests false up true down_is e =
        let below = lt_from_test v zero_ℚ down_is in
        let h = lower low within.0 below e in record { forward = h.0; arrives = rw up h.1; moves = apart_from_below below }
    by_tests false up false down_is e = cc

stands_reached : (low high : Option ℚ) (y : ℚ) (up : Bool) → (if up then high else low) ≡ Some y → StandsAt (if up then Ul else Ll) low high y
stands_reached low high y true e = e
stands_reached low high y false e = e

signed_moves : (up : Bool) (z x d : ℚ) → z +ℚ signed up x *ℚ d ≡ z +ℚ x *ℚ signed up d
signed_moves true z x d = refl
signed_moves false z x d = by_ring3 z x d (λ z x d. z ⊕ opposite x ⊗ d ≐ z ⊕ x ⊗ opposite d) refl

-- ---- q moves until k stops it

module _ (p : LinearProgram) (t : Tableau) (q k : ℕ) (up : Bool) (stops : blocking_variable p t.point (speeds t.rate up q) ≡ Some k) where
  pub stopped_is : IsVariable p.matrix k
  stopped_is = (blocking_variable_some p t.point (speeds t.rate up q) k stops).0

  pub length_of : (x : ℚ) × (step_length p t.point (speeds t.rate up q) k ≡ Some x)
  length_of =
      reaches_limit (step_length p t.point (speeds t.rate up q) k) (step_length p t.point (speeds t.rate up q) k)
      ((blocking_variable_some p t.point (speeds t.rate up q) k stops).1 k stopped_is)

  module _ (feasible : IsFeasible p t.point) where
    pub comes : ComesTo (lower_of p k) (upper_of p k) (t.point k) (speeds t.rate up q k) length_of.0
    comes = comes_to (lower_of p k) (upper_of p k) (t.point k) (speeds t.rate up q k) length_of.0 (feasible.within k stopped_is) length_of.1

    module _ (s : List Status) (at : IsNonsingularBasis p s) (tab : IsTableau p s t) (enters : IsNonbasic p.matrix (basics_of s) q) where
      as_direction : along t.point (signed up length_of.0) (λ i. t.rate i q) ≡ along t.point length_of.0 (speeds t.rate up q)
      as_direction = λ i j. signed_moves up (t.point j) length_of.0 (t.rate j q) i

      pub moved_feasible : IsFeasible p (along t.point length_of.0 (speeds t.rate up q))
      moved_feasible = record {
        keeps = subst (KeepsEquations p.matrix) as_direction
            (KeepsEquations-along p.matrix t.point (signed up length_of.0) (λ i. t.rate i q) tab.is_point.keeps (tab.are_rates q enters).keeps);
        within = λ i is. moved_within (t.point i) (speeds t.rate up q i) length_of.0 comes.forward (lower_of p i) (upper_of p i) (feasible.within i is)
            (subst (λ o. is_no_later o (step_length p t.point (speeds t.rate up q) i) ≡ true) length_of.1
            ((blocking_variable_some p t.point (speeds t.rate up q) k stops).1 i is));
      }

      stands : StandsAt (reached (speeds t.rate up q) k) (lower_of p k) (upper_of p k) (along t.point length_of.0 (speeds t.rate up q) k)
      stands =
          stands_reached (lower_of p k) (upper_of p k) (along t.point length_of.0 (speeds t.rate up q) k) (lt_ℚ zero_ℚ (speeds t.rate up q k)) comes.arrives

      pub moved_point : IsPointOf p (with_status (with_status s q Bs) k (reached (speeds t.rate up q) k)) (along t.point length_of.0 (speeds t.rate up q))
      moved_point =
          subst (IsPointOf p (with_status (with_status s q Bs) k (reached (speeds t.rate up q) k))) as_direction
          (IsPointOf-replaced p s at.is_basis t.point tab.is_point q enters.0 (λ i. t.rate i q) (tab.are_rates q enters) (signed up length_of.0)
          k (reached (speeds t.rate up q) k) stopped_is
          (subst (λ w. StandsAt (reached (speeds t.rate up q) k) (lower_of p k) (upper_of p k) (w k)) (sym as_direction) stands))
