-- Functions that are linear in x, between two values of x at which something is known of them.
use Rattle.std.proofs.Common.{◌≡◌, pos, refl, sym, ◌⊎◌, inl, inr}
use Rattle.exact_values.specs.Rational.{ℚ, zero_ℚ, ◌+ℚ◌, ◌-ℚ◌, ◌*ℚ◌, neg_ℚ, ◌≤ℚ◌, ◌<ℚ◌}
use Rattle.exact_values.proofs.Ring.{by_ring3, by_ring4, by_ring5, opposite, number, ◌⊕◌, ◌⊖◌, ◌⊗◌, ◌≐◌}
use Rattle.exact_values.proofs.Order.{lt_or_le, lt_not_le, le_trans, le_total, le_of_eq, le_antisymm, le_by_one, le_by_product}

module _ (from x to : ℚ) (after : from ≤ℚ x) (before : x ≤ℚ to) where
  -- what isn't negative at the ends isn't between them
  nonnegative_between : (a b : ℚ) → zero_ℚ ≤ℚ a +ℚ from *ℚ b → zero_ℚ ≤ℚ a +ℚ to *ℚ b → zero_ℚ ≤ℚ a +ℚ x *ℚ b
  nonnegative_between a b first last = by (le_total zero_ℚ b)
    where
      by : (zero_ℚ ≤ℚ b) ⊎ (b ≤ℚ zero_ℚ) → zero_ℚ ≤ℚ a +ℚ x *ℚ b
      by (inl rising) =
          le_trans first (le_by_product after rising (by_ring4 a b from x (λ a b f x. a ⊕ x ⊗ b ≐ a ⊕ f ⊗ b ⊕ (x ⊖ f) ⊗ (b ⊖ number (pos 0))) refl))
      by (inr falling) =
          le_trans last (le_by_product before falling (by_ring4 a b to x (λ a b t x. a ⊕ x ⊗ b ≐ a ⊕ t ⊗ b ⊕ (t ⊖ x) ⊗ (number (pos 0) ⊖ b)) refl))

  -- one that isn't above the other at the ends isn't between them
  pub le_between : (a b c d : ℚ) → a +ℚ from *ℚ b ≤ℚ c +ℚ from *ℚ d → a +ℚ to *ℚ b ≤ℚ c +ℚ to *ℚ d → a +ℚ x *ℚ b ≤ℚ c +ℚ x *ℚ d
  le_between a b c d first last =
      le_by_one (nonnegative_between (c -ℚ a) (d -ℚ b) (difference from first) (difference to last))
      (by_ring5 a b c d x (λ a b c d x. c ⊕ x ⊗ d ≐ (a ⊕ x ⊗ b) ⊕ (((c ⊖ a) ⊕ x ⊗ (d ⊖ b)) ⊖ number (pos 0))) refl)
    where
      difference : (theta : ℚ) → a +ℚ theta *ℚ b ≤ℚ c +ℚ theta *ℚ d → zero_ℚ ≤ℚ (c -ℚ a) +ℚ theta *ℚ (d -ℚ b)
      difference theta h = le_by_one h (by_ring5 a b c d theta (λ a b c d x. (c ⊖ a) ⊕ x ⊗ (d ⊖ b) ≐ number (pos 0) ⊕ ((c ⊕ x ⊗ d) ⊖ (a ⊕ x ⊗ b))) refl)

  -- two that are the same at the ends are the same between them
  pub same_between : (a b c d : ℚ) → a +ℚ from *ℚ b ≡ c +ℚ from *ℚ d → a +ℚ to *ℚ b ≡ c +ℚ to *ℚ d → a +ℚ x *ℚ b ≡ c +ℚ x *ℚ d
  same_between a b c d first last =
      le_antisymm (le_between a b c d (le_of_eq first) (le_of_eq last)) (le_between c d a b (le_of_eq (sym first)) (le_of_eq (sym last)))

  -- what isn't positive at the ends isn't between them
  not_positive_between : (a b : ℚ) → a +ℚ from *ℚ b ≤ℚ zero_ℚ → a +ℚ to *ℚ b ≤ℚ zero_ℚ → a +ℚ x *ℚ b ≤ℚ zero_ℚ
  not_positive_between a b first last =
      le_by_one (nonnegative_between (neg_ℚ a) (neg_ℚ b) (turned from first) (turned to last))
      (by_ring3 a b x (λ a b x. number (pos 0) ≐ a ⊕ x ⊗ b ⊕ ((opposite a ⊕ x ⊗ opposite b) ⊖ number (pos 0))) refl)
    where
      turned : (theta : ℚ) → a +ℚ theta *ℚ b ≤ℚ zero_ℚ → zero_ℚ ≤ℚ neg_ℚ a +ℚ theta *ℚ neg_ℚ b
      turned theta h = le_by_one h (by_ring3 a b theta (λ a b x. opposite a ⊕ x ⊗ opposite b ≐ number (pos 0) ⊕ (number (pos 0) ⊖ (a ⊕ x ⊗ b))) refl)

  -- what is positive between is positive at one of the ends
  pub positive_at : {P : Type 0} (a b : ℚ) → (zero_ℚ <ℚ a +ℚ from *ℚ b → P) → (zero_ℚ <ℚ a +ℚ to *ℚ b → P) → zero_ℚ <ℚ a +ℚ x *ℚ b → P
  positive_at {P = P} a b first last positive = by (lt_or_le zero_ℚ (a +ℚ from *ℚ b)) (lt_or_le zero_ℚ (a +ℚ to *ℚ b))
    where
      by : (zero_ℚ <ℚ a +ℚ from *ℚ b) ⊎ (a +ℚ from *ℚ b ≤ℚ zero_ℚ) → (zero_ℚ <ℚ a +ℚ to *ℚ b) ⊎ (a +ℚ to *ℚ b ≤ℚ zero_ℚ) → P
      by (inl h) k = first h
      by (inr h) (inl k) = last k
      by (inr h) (inr k) = absurd (lt_not_le positive (not_positive_between a b h k))

  -- and so is what is negative
  pub negative_at : {P : Type 0} (a b : ℚ) → (a +ℚ from *ℚ b <ℚ zero_ℚ → P) → (a +ℚ to *ℚ b <ℚ zero_ℚ → P) → a +ℚ x *ℚ b <ℚ zero_ℚ → P
  negative_at {P = P} a b first last negative = by (lt_or_le (a +ℚ from *ℚ b) zero_ℚ) (lt_or_le (a +ℚ to *ℚ b) zero_ℚ)
    where
      by : (a +ℚ from *ℚ b <ℚ zero_ℚ) ⊎ (zero_ℚ ≤ℚ a +ℚ from *ℚ b) → (a +ℚ to *ℚ b <ℚ zero_ℚ) ⊎ (zero_ℚ ≤ℚ a +ℚ to *ℚ b) → P
      by (inl h) k = first h
      by (inr h) (inl k) = last k
      by (inr h) (inr k) = absurd (lt_not_le negative (nonnegative_between a b h k))
