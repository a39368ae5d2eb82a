-- Magnitudes, and how two ratios compare by products.
use Rattle.std.proofs.Common.{◌≡◌, ◌≢◌, ◌⊎◌, inl, inr, Bool, true, false, pos, refl, sym, ap, ap₂, subst, ◌∙◌}
use Rattle.std.specs.Prelude.{cond}
use Rattle.exact_values.specs.Rational.{ℚ, zero_ℚ, neg_ℚ, ◌*ℚ◌, ◌/ℚ◌, ◌≤ℚ◌, ◌<ℚ◌}
use Rattle.exact_values.specs.Tests.{lt_ℚ, le_ℚ, magnitude}
use Rattle.exact_values.proofs.Inverse.{div-mul_cancel}
use Rattle.exact_values.proofs.Order.{le_refl, le_of_lt, le_by_one, le_antisymm, lt_from_le, lt_not_le, mul-le-mul_left, le_of_mul-le-mul_left, mul-positive}
use Rattle.exact_values.proofs.Ring.{by_ring1, by_ring2, by_ring3, number, opposite, ◌⊕◌, ◌⊖◌, ◌⊗◌, ◌≐◌}
use Rattle.exact_values.proofs.RingLaws.{zero-mul, mul-zero}
use Rattle.exact_values.proofs.TestsLaws.{lt_from_test, le_from_lt_fails, le_from_test, test_from_le, le_fails_from_lt}
use Rattle.exact_values.proofs.Signs.{neg_not_below}

neg_down : (u : ℚ) → zero_ℚ ≤ℚ neg_ℚ u → u ≤ℚ zero_ℚ
neg_down u h = le_by_one h (by_ring1 u (λ u. number (pos 0) ≐ u ⊕ (opposite u ⊖ number (pos 0))) refl)

-- a magnitude is not negative, and is the value or its opposite
pub is_magnitude : (u m : ℚ) → zero_ℚ ≤ℚ m → (m ≡ u) ⊎ (m ≡ neg_ℚ u) → magnitude u ≡ m
is_magnitude u m least either = at (lt_ℚ u zero_ℚ) refl either
  where
    at : (b : Bool) → lt_ℚ u zero_ℚ ≡ b → (m ≡ u) ⊎ (m ≡ neg_ℚ u) → cond b (neg_ℚ u) u ≡ m
    at true is (inl same) = absurd (lt_not_le (lt_from_test u zero_ℚ is) (subst (λ x. zero_ℚ ≤ℚ x) same least))
    at true is (inr same) = sym same
    at false is (inl same) = sym same
    at false is (inr same) =
        let zero : u ≡ zero_ℚ = le_antisymm (neg_down u (subst (λ x. zero_ℚ ≤ℚ x) same least)) (le_from_lt_fails u zero_ℚ is) in
        zero ∙ by_ring1 zero_ℚ (λ z. number (pos 0) ≐ opposite (number (pos 0))) refl ∙ ap neg_ℚ (sym zero) ∙ sym same

pub magnitude_least : (u : ℚ) → zero_ℚ ≤ℚ magnitude u
magnitude_least u = at (lt_ℚ u zero_ℚ) refl
  where
    at : (b : Bool) → lt_ℚ u zero_ℚ ≡ b → zero_ℚ ≤ℚ cond b (neg_ℚ u) u
    at true is = neg_not_below u (le_of_lt (lt_from_test u zero_ℚ is))
    at false is = le_from_lt_fails u zero_ℚ is

pub magnitude_either : (u : ℚ) → (magnitude u ≡ u) ⊎ (magnitude u ≡ neg_ℚ u)
magnitude_either u = at (lt_ℚ u zero_ℚ)
  where
    at : (b : Bool) → (cond b (neg_ℚ u) u ≡ u) ⊎ (cond b (neg_ℚ u) u ≡ neg_ℚ u)
    at true = inr refl
    at false = inl refl

product_least : {x y : ℚ} → zero_ℚ ≤ℚ x → zero_ℚ ≤ℚ y → zero_ℚ ≤ℚ x *ℚ y
product_least {x} {y} h k = subst (λ z. z ≤ℚ x *ℚ y) (mul-zero x) (mul-le-mul_left h k)

pub magnitude-mul : (u v : ℚ) → magnitude (u *ℚ v) ≡ magnitude u *ℚ magnitude v
magnitude-mul u v =
    is_magnitude (u *ℚ v) (magnitude u *ℚ magnitude v) (product_least (magnitude_least u) (magnitude_least v)) (at (magnitude_either u) (magnitude_either v))
  where
    at : (magnitude u ≡ u) ⊎ (magnitude u ≡ neg_ℚ u) → (magnitude v ≡ v) ⊎ (magnitude v ≡ neg_ℚ v) →
        (magnitude u *ℚ magnitude v ≡ u *ℚ v) ⊎ (magnitude u *ℚ magnitude v ≡ neg_ℚ (u *ℚ v))
    at (inl a) (inl b) = inl (ap₂ (λ x y. x *ℚ y) a b)
    at (inl a) (inr b) = inr (ap₂ (λ x y. x *ℚ y) a b ∙ by_ring2 u v (λ u v. u ⊗ opposite v ≐ opposite (u ⊗ v)) refl)
    at (inr a) (inl b) = inr (ap₂ (λ x y. x *ℚ y) a b ∙ by_ring2 u v (λ u v. opposite u ⊗ v ≐ opposite (u ⊗ v)) refl)
    at (inr a) (inr b) = inl (ap₂ (λ x y. x *ℚ y) a b ∙ by_ring2 u v (λ u v. opposite u ⊗ opposite v ≐ u ⊗ v) refl)

neg_apart : (u : ℚ) → u ≢ zero_ℚ → neg_ℚ u ≢ zero_ℚ
neg_apart u apart e =
    apart (by_ring1 u (λ u. u ≐ opposite (opposite u)) refl ∙ ap neg_ℚ e ∙ by_ring1 zero_ℚ (λ z. opposite (number (pos 0)) ≐ number (pos 0)) refl)

pub magnitude_positive : (u : ℚ) → u ≢ zero_ℚ → zero_ℚ <ℚ magnitude u
magnitude_positive u apart = lt_from_le (magnitude_least u) (at (magnitude_either u))
  where
    at : (magnitude u ≡ u) ⊎ (magnitude u ≡ neg_ℚ u) → zero_ℚ ≢ magnitude u
    at (inl same) e = apart (sym same ∙ sym e)
    at (inr same) e = neg_apart u apart (sym same ∙ sym e)

-- a ratio, times what it is over
pub ratio_times : (a b : ℚ) → b ≢ zero_ℚ → magnitude (a /ℚ b) *ℚ magnitude b ≡ magnitude a
ratio_times a b apart = sym (magnitude-mul (a /ℚ b) b) ∙ ap magnitude (div-mul_cancel a b apart)

pub magnitude_above : (u : ℚ) → zero_ℚ ≤ℚ u → magnitude u ≡ u
magnitude_above u h = is_magnitude u u h (inl refl)

pub magnitude_below : (u : ℚ) → u ≤ℚ zero_ℚ → magnitude u ≡ neg_ℚ u
magnitude_below u h = is_magnitude u (neg_ℚ u) (neg_not_below u h) (inr refl)

pub magnitude-neg : (u : ℚ) → magnitude (neg_ℚ u) ≡ magnitude u
magnitude-neg u = is_magnitude (neg_ℚ u) (magnitude u) (magnitude_least u) (at (magnitude_either u))
  where
    at : (magnitude u ≡ u) ⊎ (magnitude u ≡ neg_ℚ u) → (magnitude u ≡ neg_ℚ u) ⊎ (magnitude u ≡ neg_ℚ (neg_ℚ u))
    at (inl e) = inr (e ∙ by_ring1 u (λ u. u ≐ opposite (opposite u)) refl)
    at (inr e) = inl e

module _ (a b c d : ℚ) (b_apart : b ≢ zero_ℚ) (d_apart : d ≢ zero_ℚ) where
  both : zero_ℚ <ℚ magnitude b *ℚ magnitude d
  both = mul-positive (magnitude_positive b b_apart) (magnitude_positive d d_apart)

  left_is : (magnitude b *ℚ magnitude d) *ℚ magnitude (a /ℚ b) ≡ magnitude a *ℚ magnitude d
  left_is =
      by_ring3 (magnitude b) (magnitude d) (magnitude (a /ℚ b)) (λ b d x. (b ⊗ d) ⊗ x ≐ (x ⊗ b) ⊗ d) refl
      ∙ ap (λ z. z *ℚ magnitude d) (ratio_times a b b_apart)

  right_is : (magnitude b *ℚ magnitude d) *ℚ magnitude (c /ℚ d) ≡ magnitude c *ℚ magnitude b
  right_is =
      by_ring3 (magnitude b) (magnitude d) (magnitude (c /ℚ d)) (λ b d y. (b ⊗ d) ⊗ y ≐ (y ⊗ d) ⊗ b) refl
      ∙ ap (λ z. z *ℚ magnitude b) (ratio_times c d d_apart)

  pub ratios_by_products : le_ℚ (magnitude a *ℚ magnitude d) (magnitude c *ℚ magnitude b) ≡ le_ℚ (magnitude (a /ℚ b)) (magnitude (c /ℚ d))
  ratios_by_products = at (le_ℚ (magnitude a *ℚ magnitude d) (magnitude c *ℚ magnitude b)) refl
    where
      to : magnitude a *ℚ magnitude d ≤ℚ magnitude c *ℚ magnitude b → magnitude (a /ℚ b) ≤ℚ magnitude (c /ℚ d)
      to h =
          le_of_mul-le-mul_left both
          (subst (λ z. z ≤ℚ (magnitude b *ℚ magnitude d) *ℚ magnitude (c /ℚ d)) (sym left_is)
          (subst (λ z. magnitude a *ℚ magnitude d ≤ℚ z) (sym right_is) h))

      from : magnitude (a /ℚ b) ≤ℚ magnitude (c /ℚ d) → magnitude a *ℚ magnitude d ≤ℚ magnitude c *ℚ magnitude b
      from h =
          subst (λ z. z ≤ℚ magnitude c *ℚ magnitude b) left_is
          (subst (λ z. (magnitude b *ℚ magnitude d) *ℚ magnitude (a /ℚ b) ≤ℚ z) right_is (mul-le-mul_left (le_of_lt both) h))

      fails : (t : Bool) → le_ℚ (magnitude (a /ℚ b)) (magnitude (c /ℚ d)) ≡ t → le_ℚ (magnitude a *ℚ magnitude d) (magnitude c *ℚ magnitude b) ≡ false →
          false ≡ t
      fails true is e = sym e ∙ test_from_le _ _ (from (le_from_test _ _ is))
      fails false is e = refl

      at : (t : Bool) → le_ℚ (magnitude a *ℚ magnitude d) (magnitude c *ℚ magnitude b) ≡ t → t ≡ le_ℚ (magnitude (a /ℚ b)) (magnitude (c /ℚ d))
      at true is = sym (test_from_le _ _ (to (le_from_test _ _ is)))
      at false is = fails (le_ℚ (magnitude (a /ℚ b)) (magnitude (c /ℚ d))) refl is ∙ refl

-- a ratio of 0 is the least
pub zero_ratio : (a b : ℚ) → a ≡ zero_ℚ → magnitude (a /ℚ b) ≡ zero_ℚ
zero_ratio a b e = is_magnitude (a /ℚ b) zero_ℚ (le_refl zero_ℚ) (inl (sym (ap (λ z. z /ℚ b) e ∙ zero-mul _)))

pub zero_first : (a b c d : ℚ) → a ≡ zero_ℚ → true ≡ le_ℚ (magnitude (a /ℚ b)) (magnitude (c /ℚ d))
zero_first a b c d e =
    sym (test_from_le (magnitude (a /ℚ b)) (magnitude (c /ℚ d)) (subst (λ z. z ≤ℚ magnitude (c /ℚ d)) (sym (zero_ratio a b e)) (magnitude_least (c /ℚ d))))

pub zero_last : (a b c d : ℚ) → a ≢ zero_ℚ → b ≢ zero_ℚ → c ≡ zero_ℚ → false ≡ le_ℚ (magnitude (a /ℚ b)) (magnitude (c /ℚ d))
zero_last a b c d apart b_apart e =
    sym (le_fails_from_lt (magnitude (a /ℚ b)) (magnitude (c /ℚ d)) (subst (λ z. z <ℚ magnitude (a /ℚ b)) (sym (zero_ratio c d e))
    (magnitude_positive (a /ℚ b) (λ z. apart (sym (div-mul_cancel a b b_apart) ∙ ap (λ y. y *ℚ b) z ∙ zero-mul b)))))
