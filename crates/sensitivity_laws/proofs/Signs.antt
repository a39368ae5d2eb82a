-- Conditions on a rate: it improves nothing where they hold.
use Rattle.std.proofs.Common.{◌≡◌, Bool, true, false, refl, sym, subst, pos}
use Rattle.std.specs.Prelude.{◌↔◌, IfSome}
use Rattle.exact_values.specs.Rational.{ℚ, zero_ℚ, neg_ℚ, ◌+ℚ◌, ◌*ℚ◌, ◌≤ℚ◌}
use Rattle.exact_values.proofs.Ring.{by_ring3, number, opposite, ◌⊕◌, ◌⊖◌, ◌⊗◌, ◌≐◌}
use Rattle.exact_values.proofs.Order.{le_by_one}
use Rattle.affine_laws.specs.Conditions.{Holds}
use Rattle.lp_definitions.specs.LinearProgram.{for_min}
use Rattle.lp_definitions.specs.declared.Sense.{Sense}
use Rattle.lp_definitions.specs.declared.Sense.TheVariants.{Min, Max}
use Rattle.lp_laws.proofs.Values.{clash}
use Rattle.sensitivity_laws.specs.Changes.{SidesHold, sign_sides, condition_if}
use Rattle.simplex_laws.proofs.Booleans.{improves, improves_not, rises_right, falls_right}

-- the opposite of a rate that isn't positive isn't negative
below_zero : (w v x : ℚ) → w +ℚ x *ℚ v ≤ℚ zero_ℚ → zero_ℚ ≤ℚ neg_ℚ w +ℚ x *ℚ neg_ℚ v
below_zero w v x h = le_by_one h (by_ring3 w v x (λ w v x. opposite w ⊕ x ⊗ opposite v ≐ number (pos 0) ⊕ (number (pos 0) ⊖ (w ⊕ x ⊗ v))) refl)

zero_below : (w v x : ℚ) → zero_ℚ ≤ℚ neg_ℚ w +ℚ x *ℚ neg_ℚ v → w +ℚ x *ℚ v ≤ℚ zero_ℚ
zero_below w v x h = le_by_one h (by_ring3 w v x (λ w v x. number (pos 0) ≐ w ⊕ x ⊗ v ⊕ (opposite w ⊕ x ⊗ opposite v ⊖ number (pos 0))) refl)

-- a rate that has come to w + x v improves nothing just where its conditions hold at x
pub sides_of_rate : (r w v x : ℚ) (rises falls : Bool) → r ≡ w +ℚ x *ℚ v → (improves r rises falls ≡ false) ↔ SidesHold (sign_sides rises falls w v) x
sides_of_rate r w v x rises falls is = (to, back)
  where
    first : (may : Bool) → (may ≡ true → zero_ℚ ≤ℚ r) → IfSome (condition_if may w v) (λ e. Holds e x)
    first true h = subst (λ u. zero_ℚ ≤ℚ u) is (h refl)
    first false h = tt

    second : (may : Bool) → (may ≡ true → r ≤ℚ zero_ℚ) → IfSome (condition_if may (neg_ℚ w) (neg_ℚ v)) (λ e. Holds e x)
    second true h = below_zero w v x (subst (λ u. u ≤ℚ zero_ℚ) is (h refl))
    second false h = tt

    to : improves r rises falls ≡ false → SidesHold (sign_sides rises falls w v) x
    to none = (first rises (rises_right r rises falls none), second falls (falls_right r rises falls none))

    up : (may : Bool) → IfSome (condition_if may w v) (λ e. Holds e x) → may ≡ true → zero_ℚ ≤ℚ r
    up true h e = subst (λ u. zero_ℚ ≤ℚ u) (sym is) h
    up false h e = absurd (clash (sym e))

    down : (may : Bool) → IfSome (condition_if may (neg_ℚ w) (neg_ℚ v)) (λ e. Holds e x) → may ≡ true → r ≤ℚ zero_ℚ
    down true h e = subst (λ u. u ≤ℚ zero_ℚ) (sym is) (zero_below w v x h)
    down false h e = absurd (clash (sym e))

    back : SidesHold (sign_sides rises falls w v) x → improves r rises falls ≡ false
    back hold = improves_not r rises falls (up rises hold.0) (down falls hold.1)

-- what is added counts like the rest
pub for_min-add : (s : Sense) (a x b : ℚ) → for_min s (a +ℚ x *ℚ b) ≡ for_min s a +ℚ x *ℚ for_min s b
for_min-add Min a x b = refl
for_min-add Max a x b = by_ring3 a x b (λ a x b. opposite (a ⊕ x ⊗ b) ≐ opposite a ⊕ x ⊗ opposite b) refl
