-- From within all limits none lies behind, so nothing is reached sooner than what is reached at once.
use Rattle.std.proofs.Common.{◌≡◌, ℕ, ◌≤◌, Bool, true, false, refl, sym, ◌∙◌, subst, pos, arith}
use Rattle.std.specs.Prelude.{Option, Some, None, IfSome, option_map, if◌then◌else◌}
use Rattle.exact_values.specs.Rational.{ℚ, zero_ℚ, neg_ℚ, ◌-ℚ◌, ◌/ℚ◌, ◌≤ℚ◌, ◌<ℚ◌}
use Rattle.exact_values.specs.Tests.{lt_ℚ}
use Rattle.exact_values.proofs.Ring.{by_ring1, by_ring2, ◌⊖◌, ◌⊗◌, ◌≐◌, number, opposite}
use Rattle.exact_values.proofs.Inverse.{same_quotients}
use Rattle.exact_values.proofs.Order.{le-div, apart_from_above, apart_from_below}
use Rattle.exact_values.proofs.TestsLaws.{lt_from_test, test_from_le}
use Rattle.exact_values.proofs.Signs.{neg_above}
use Rattle.lp_definitions.specs.LinearProgram.{LinearProgram, Vector, size, lower_of, upper_of}
use Rattle.lp_definitions.specs.Solutions.{IsWithinLimits}
use Rattle.simplex_definitions.specs.Moves.{is_no_later, step_length}
use Rattle.basis_values.specs.Reach.{length_of, IsNearest}
use Rattle.basis_values.specs.declared.reach.Reach.{Reach}
use Rattle.simplex_laws.proofs.Motions.{difference_above}

some_value : {a b : ℚ} → Some a ≡ Some b → a ≡ b
some_value e = cc

-- the length until what lies within its limits reaches the one ahead
forward : (low high : Option ℚ) (z v x : ℚ) → IfSome low (λ l. l ≤ℚ z) × IfSome high (λ u. z ≤ℚ u) →
    option_map (λ l. (l -ℚ z) /ℚ v) (if lt_ℚ zero_ℚ v then high else (if lt_ℚ v zero_ℚ then low else None)) ≡ Some x → zero_ℚ ≤ℚ x
forward low high z v x within e = by_tests (lt_ℚ zero_ℚ v) refl (lt_ℚ v zero_ℚ) refl e
  where
    upper : (high : Option ℚ) → IfSome high (λ u. z ≤ℚ u) → zero_ℚ <ℚ v → option_map (λ l. (l -ℚ z) /ℚ v) high ≡ Some x → zero_ℚ ≤ℚ x
    upper None h up e = cc
    upper (Some u) h up e =
        subst (λ y. zero_ℚ ≤ℚ y) (some_value e)
        (le-div up (subst (λ y. y ≤ℚ u -ℚ z) (by_ring1 v (λ v. number (pos 0) ≐ number (pos 0) ⊗ v) refl) (difference_above z u h)))

    lower : (low : Option ℚ) → IfSome low (λ l. l ≤ℚ z) → v <ℚ zero_ℚ → option_map (λ l. (l -ℚ z) /ℚ v) low ≡ Some x → zero_ℚ ≤ℚ x
    lower None h down e = cc
    lower (Some l) h down e =
        let turned : neg_ℚ (l -ℚ z) /ℚ neg_ℚ v ≡ (l -ℚ z) /ℚ v =
        same_quotients (neg_ℚ (l -ℚ z)) (neg_ℚ v) (l -ℚ z) v (apart_from_above (neg_above v down)) (apart_from_below down)
        (by_ring2 (l -ℚ z) v (λ a v. opposite a ⊗ v ≐ a ⊗ opposite v) refl) in
        let ahead : zero_ℚ ≤ℚ neg_ℚ (l -ℚ z) = subst (λ y. zero_ℚ ≤ℚ y) (by_ring2 z l (λ z l. z ⊖ l ≐ opposite (l ⊖ z)) refl) (difference_above l z h) in
        subst (λ y. zero_ℚ ≤ℚ y) (turned ∙ some_value e)
        (le-div (neg_above v down) (subst (λ y. y ≤ℚ neg_ℚ (l -ℚ z)) (by_ring1 v (λ v. number (pos 0) ≐ number (pos 0) ⊗ opposite v) refl) ahead))

    by_tests : (up : Bool) → lt_ℚ zero_ℚ v ≡ up → (down : Bool) → lt_ℚ v zero_ℚ ≡ down →
        option_map (λ l. (l -ℚ z) /ℚ v) (if up then high else (if down then low else None)) ≡ Some x → zero_ℚ ≤ℚ x
    by_tests true up down down_is e = upper high within.1 (lt_from_test zero_ℚ v up) e
    by_tests false up true down_is e = lower low within.0 (lt_from_test v zero_ℚ down_is) e
    by_tests false up false down_is e = cc

-- what is reached at once among the first n is nearest of all
module _ (p : LinearProgram) (z v : Vector) (all_within : IsWithinLimits p z) (n : ℕ) (within : n ≤ size p.matrix) where
  pub nearest_at_once : (nearest : Option Reach) → length_of nearest ≡ Some zero_ℚ → IsNearest (step_length p z v) n nearest →
      IsNearest (step_length p z v) (size p.matrix) nearest
  nearest_at_once None now h = cc
  nearest_at_once (Some r) now h = record {
    low = h.low;
    high = omega (arith, h.high, within);
    reaches = h.reaches;
    first = λ i low high. no_sooner i low high (step_length p z v i) refl;
    later = h.later;
  }
    where
      no_sooner : (i : ℕ) → 1 ≤ i → i ≤ size p.matrix → (o : Option ℚ) → step_length p z v i ≡ o →
          is_no_later (step_length p z v r.p) (step_length p z v i) ≡ true
      no_sooner i low high None is = rw (h.reaches, is) refl
      no_sooner i low high (Some l) is =
          let ahead : zero_ℚ ≤ℚ l = forward (lower_of p i) (upper_of p i) (z i) (v i) l (all_within i (low, high)) is in
          rw (h.reaches, is) (test_from_le r.length l (subst (λ x. x ≤ℚ l) (sym (some_value now)) ahead))
