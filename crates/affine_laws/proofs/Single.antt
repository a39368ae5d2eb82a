-- One condition: where it holds, by the zero of its function.
use Rattle.std.proofs.Common.{◌≡◌, ◌≢◌, pos, refl, sym, ap, ◌∙◌, ◌⊎◌, inl, inr}
use Rattle.exact_values.specs.Rational.{ℚ, zero_ℚ, one_ℚ, neg_ℚ, ◌+ℚ◌, ◌*ℚ◌, ◌-ℚ◌, ◌≤ℚ◌, ◌<ℚ◌}
use Rattle.exact_values.proofs.Ring.{by_ring2, by_ring3, by_ring4, same_by_one, number, opposite, ◌⊕◌, ◌⊖◌, ◌⊗◌, ◌≐◌}
use Rattle.exact_values.proofs.Inverse.{div-mul_cancel, div_is}
use Rattle.exact_values.proofs.Order.{le_by_two, le_by_product, lt_by_product, lt_not_le, lt_from_le, lt_or_le, le_of_lt, apart_from_above, apart_from_below}
use Rattle.affine_laws.specs.Conditions.{Condition, value, Holds, zero_of, EndsAt}

module _ (c : Condition) where
  pub value_at_zero : c.slope ≢ zero_ℚ → value c (zero_of c) ≡ zero_ℚ
  value_at_zero apart =
      ap (λ v. c.constant +ℚ v) (div-mul_cancel (neg_ℚ c.constant) c.slope apart)
      ∙ by_ring2 c.constant c.slope (λ a b. a ⊖ a ≐ number (pos 0)) refl

  -- the value is the slope times the way from the zero
  pub value_by_zero : c.slope ≢ zero_ℚ → (x : ℚ) → value c x ≡ c.slope *ℚ (x -ℚ zero_of c)
  value_by_zero apart x =
      same_by_one one_ℚ (value_at_zero apart)
      (by_ring4 c.constant c.slope x (zero_of c) (λ a b x z. a ⊕ x ⊗ b ≐ b ⊗ (x ⊖ z) ⊕ number (pos 1) ⊗ (a ⊕ z ⊗ b ⊖ number (pos 0))) refl)

  -- where the function falls
  pub holds_before : c.slope <ℚ zero_ℚ → (x : ℚ) → x ≤ℚ zero_of c → Holds c x
  holds_before falls x before =
      le_by_product (le_of_lt falls) before
      (value_by_zero (apart_from_below falls) x
      ∙ by_ring4 c.constant c.slope x (zero_of c) (λ a b x z. b ⊗ (x ⊖ z) ≐ number (pos 0) ⊕ (number (pos 0) ⊖ b) ⊗ (z ⊖ x)) refl)

  pub before_zero : c.slope <ℚ zero_ℚ → (x : ℚ) → Holds c x → x ≤ℚ zero_of c
  before_zero falls x holds = at (lt_or_le (zero_of c) x)
    where
      at : (zero_of c <ℚ x) ⊎ (x ≤ℚ zero_of c) → x ≤ℚ zero_of c
      at (inr le) = le
      at (inl past) =
          absurd (lt_not_le {x = value c x} {y = zero_ℚ}
          (lt_by_product falls past
          (sym (ap (λ v. v +ℚ (zero_ℚ -ℚ c.slope) *ℚ (x -ℚ zero_of c)) (value_by_zero (apart_from_below falls) x)
          ∙ by_ring4 c.constant c.slope x (zero_of c) (λ a b x z. b ⊗ (x ⊖ z) ⊕ (number (pos 0) ⊖ b) ⊗ (x ⊖ z) ≐ number (pos 0)) refl))) holds)

  -- where it rises
  pub holds_after : zero_ℚ <ℚ c.slope → (x : ℚ) → zero_of c ≤ℚ x → Holds c x
  holds_after rises x after =
      le_by_product (le_of_lt rises) after
      (value_by_zero (apart_from_above rises) x
      ∙ by_ring4 c.constant c.slope x (zero_of c) (λ a b x z. b ⊗ (x ⊖ z) ≐ number (pos 0) ⊕ (b ⊖ number (pos 0)) ⊗ (x ⊖ z)) refl)

  pub after_zero : zero_ℚ <ℚ c.slope → (x : ℚ) → Holds c x → zero_of c ≤ℚ x
  after_zero rises x holds = at (lt_or_le x (zero_of c))
    where
      at : (x <ℚ zero_of c) ⊎ (zero_of c ≤ℚ x) → zero_of c ≤ℚ x
      at (inr le) = le
      at (inl short) =
          absurd (lt_not_le {x = value c x} {y = zero_ℚ}
          (lt_by_product rises short
          (sym (ap (λ v. v +ℚ (c.slope -ℚ zero_ℚ) *ℚ (zero_of c -ℚ x)) (value_by_zero (apart_from_above rises) x)
          ∙ by_ring4 c.constant c.slope x (zero_of c) (λ a b x z. b ⊗ (x ⊖ z) ⊕ (b ⊖ number (pos 0)) ⊗ (z ⊖ x) ≐ number (pos 0)) refl))) holds)

  -- where it doesn't fall, it holds from a number at which it does
  pub holds_on : zero_ℚ ≤ℚ c.slope → (from x : ℚ) → Holds c from → from ≤ℚ x → Holds c x
  holds_on grows from x holds forward =
      le_sum (le_by_product grows forward (by_ring2 c.slope (x -ℚ from) (λ b d. b ⊗ d ≐ number (pos 0) ⊕ (b ⊖ number (pos 0)) ⊗ d) refl)) holds
    where
      le_sum : zero_ℚ ≤ℚ c.slope *ℚ (x -ℚ from) → zero_ℚ ≤ℚ value c from → zero_ℚ ≤ℚ value c x
      le_sum more there =
          le_by_two more there
          (by_ring4 c.constant c.slope x from (λ a b x y. a ⊕ x ⊗ b ≐ number (pos 0) ⊕ ((b ⊗ (x ⊖ y) ⊖ number (pos 0)) ⊕ ((a ⊕ y ⊗ b) ⊖ number (pos 0)))) refl)

  -- it holds from there on up to the zero, if the function falls
  pub holds_between : (from x : ℚ) → Holds c from → from ≤ℚ x → (c.slope <ℚ zero_ℚ → x ≤ℚ zero_of c) → Holds c x
  holds_between from x holds forward before = at (lt_or_le c.slope zero_ℚ)
    where
      at : (c.slope <ℚ zero_ℚ) ⊎ (zero_ℚ ≤ℚ c.slope) → Holds c x
      at (inl falls) = holds_before falls x (before falls)
      at (inr grows) = holds_on grows from x holds forward

  -- where it holds somewhere, it holds just on the right side of its zero
  pub holds_by_sides : (from x : ℚ) → Holds c from → (zero_ℚ <ℚ c.slope → zero_of c ≤ℚ x) → (c.slope <ℚ zero_ℚ → x ≤ℚ zero_of c) → Holds c x
  holds_by_sides from x holds above below = at (lt_or_le c.slope zero_ℚ) (lt_or_le zero_ℚ c.slope) (lt_or_le x from)
    where
      at : (c.slope <ℚ zero_ℚ) ⊎ (zero_ℚ ≤ℚ c.slope) → (zero_ℚ <ℚ c.slope) ⊎ (c.slope ≤ℚ zero_ℚ) → (x <ℚ from) ⊎ (from ≤ℚ x) → Holds c x
      at (inl falls) _ _ = holds_before falls x (below falls)
      at (inr grows) (inl rises) _ = holds_after rises x (above rises)
      at (inr grows) (inr most) (inr forward) = holds_on grows from x holds forward
      at (inr grows) (inr most) (inl back) =
          le_by_two (le_by_product most (le_of_lt back)
          (by_ring2 c.slope (from -ℚ x) (λ b d. opposite b ⊗ d ≐ number (pos 0) ⊕ (number (pos 0) ⊖ b) ⊗ d) refl)) holds
          (by_ring4 c.constant c.slope x from
          (λ a b x y. a ⊕ x ⊗ b ≐ number (pos 0) ⊕ ((opposite b ⊗ (y ⊖ x) ⊖ number (pos 0)) ⊕ ((a ⊕ y ⊗ b) ⊖ number (pos 0)))) refl)

  -- a falling function that isn't 0 where the condition holds has its zero beyond
  pub zero_beyond : c.slope <ℚ zero_ℚ → (from : ℚ) → Holds c from → value c from ≢ zero_ℚ → from <ℚ zero_of c
  zero_beyond falls from holds apart = lt_from_le (before_zero falls from holds) (λ e. apart (ap (value c) e ∙ value_at_zero (apart_from_below falls)))

  -- the zero is the only number at which the function is 0
  pub zero_is : (x : ℚ) → EndsAt x c → zero_of c ≡ x
  zero_is x ends =
      let apart : c.slope ≢ zero_ℚ = apart_from_below ends.falls in
      div_is (neg_ℚ c.constant) c.slope x apart
      (same_by_one (neg_ℚ one_ℚ) ends.is_zero
      (by_ring3 c.constant c.slope x (λ a b x. opposite a ≐ x ⊗ b ⊕ opposite (number (pos 1)) ⊗ (a ⊕ x ⊗ b ⊖ number (pos 0))) refl))
