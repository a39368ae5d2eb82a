-- The bounds that prices and rates make.
use Rattle.std.proofs.Common.{◌≡◌, ◌≢◌, ℕ, ◌+◌, ◌⊎◌, inl, inr, List, pos, refl, sym, ap, ap₂, subst, subst₂, ◌∙◌, Bool, true, false, Option, Some, None, arith}
use Rattle.std.specs.Prelude.{◌↔◌, IfSome}
use Rattle.exact_values.specs.Rational.{ℚ, zero_ℚ, neg_ℚ, ◌+ℚ◌, ◌*ℚ◌, ◌/ℚ◌, ◌≤ℚ◌}
use Rattle.exact_values.proofs.Ring.{by_ring1, by_ring3, number, opposite, ◌⊕◌, ◌⊖◌, ◌⊗◌, ◌≐◌}
use Rattle.exact_values.proofs.Order.{le_by_one}
use Rattle.affine_laws.specs.Conditions.{Holds}
use Rattle.affine_laws.specs.Ends.{Meets, IsBetweenEnds}
use Rattle.affine_laws.specs.declared.tightening.Endpoint.{Endpoint}
use Rattle.affine_laws.specs.declared.tightening.Ends.{Ends}
use Rattle.sensitivity_laws.specs.Changes.{SidesHold, condition, condition_if}
use Rattle.lp_definitions.specs.LinearProgram.{LinearProgram, Vector, for_min}
use Rattle.lp_definitions.specs.declared.Sense.{Sense}
use Rattle.lp_definitions.specs.declared.Sense.TheVariants.{Min, Max}
use Rattle.lp_definitions.specs.declared.Status.{Status}
use Rattle.lp_laws.proofs.Values.{clash}
use Rattle.simplex_definitions.specs.Moves.{may_rise, may_fall}
use Rattle.ranging.specs.RowEnds.{rate_bound, sides_of, RatesStayTo, IsTightenedIf, IsEitherRate, IsWithRate, IsRateEnd, AreRowEnds}
use Rattle.basis_values.proofs.Skips.{and_next}

-- the conditions of a price from which y times a rate is taken, as bounds on y
below_is : (price rate y : ℚ) → (y *ℚ rate ≤ℚ price) ↔ (zero_ℚ ≤ℚ price +ℚ neg_ℚ y *ℚ rate)
below_is price rate y = (
  λ h. le_by_one h (by_ring3 price rate y (λ p r y. p ⊕ opposite y ⊗ r ≐ number (pos 0) ⊕ (p ⊖ y ⊗ r)) refl),
  λ h. le_by_one h (by_ring3 price rate y (λ p r y. p ≐ y ⊗ r ⊕ (p ⊕ opposite y ⊗ r ⊖ number (pos 0))) refl),
)

above_is : (price rate y : ℚ) → (price ≤ℚ y *ℚ rate) ↔ (zero_ℚ ≤ℚ neg_ℚ price +ℚ neg_ℚ y *ℚ neg_ℚ rate)
above_is price rate y = (
  λ h. le_by_one h (by_ring3 price rate y (λ p r y. opposite p ⊕ opposite y ⊗ opposite r ≐ number (pos 0) ⊕ (y ⊗ r ⊖ p)) refl),
  λ h. le_by_one h (by_ring3 price rate y (λ p r y. y ⊗ r ≐ p ⊕ (opposite p ⊕ opposite y ⊗ opposite r ⊖ number (pos 0))) refl),
)

twice_below : (price rate y : ℚ) → (y *ℚ rate ≤ℚ price) ↔ (zero_ℚ ≤ℚ neg_ℚ (neg_ℚ price) +ℚ neg_ℚ y *ℚ neg_ℚ (neg_ℚ rate))
twice_below price rate y = (
  λ h. le_by_one h (by_ring3 price rate y (λ p r y. opposite (opposite p) ⊕ opposite y ⊗ opposite (opposite r) ≐ number (pos 0) ⊕ (p ⊖ y ⊗ r)) refl),
  λ h. le_by_one h (by_ring3 price rate y (λ p r y. p ≐ y ⊗ r ⊕ (opposite (opposite p) ⊕ opposite y ⊗ opposite (opposite r) ⊖ number (pos 0))) refl),
)

pub rising_bound : (s : Sense) (price rate : ℚ) (j : ℕ) (y : ℚ) →
    Meets (rate_bound s true price rate j) y ↔ Holds (condition (for_min s price) (for_min s rate)) (neg_ℚ y)
rising_bound Min price rate j y = below_is price rate y
rising_bound Max price rate j y = above_is price rate y

pub falling_bound : (s : Sense) (price rate : ℚ) (j : ℕ) (y : ℚ) →
    Meets (rate_bound s false price rate j) y ↔ Holds (condition (neg_ℚ (for_min s price)) (neg_ℚ (for_min s rate))) (neg_ℚ y)
falling_bound Min price rate j y = above_is price rate y
falling_bound Max price rate j y = twice_below price rate y

-- a condition that is asked for holds where it is
if_asked : (may : Bool) (a b x : ℚ) (P : Type 0) → P ↔ Holds (condition a b) x → (may ≡ true → P) ↔ IfSome (condition_if may a b) (λ e. Holds e x)
if_asked true a b x P same = (λ h. same.0 (h refl), λ h _. same.1 h)
if_asked false a b x P same = (λ h. tt, λ h e. absurd (clash (sym e)))

-- without a rate nothing changes
flat : (a b x y : ℚ) → b ≡ zero_ℚ → Holds (condition a b) x → Holds (condition a b) y
flat a b x y none h =
    le_by_one h (ap (λ b. a +ℚ y *ℚ b) none ∙ by_ring3 a x y (λ a x y. a ⊕ y ⊗ number (pos 0) ≐ number (pos 0) ⊕ (a ⊕ x ⊗ number (pos 0) ⊖ number (pos 0))) refl
    ∙ ap (λ b. zero_ℚ +ℚ (a +ℚ x *ℚ b +ℚ neg_ℚ zero_ℚ)) (sym none))

neg_zero : (v : ℚ) → v ≡ zero_ℚ → neg_ℚ v ≡ zero_ℚ
neg_zero v e = ap neg_ℚ e ∙ by_ring1 v (λ v. opposite (number (pos 0)) ≐ number (pos 0)) refl

pub for_min_zero : (s : Sense) (v : ℚ) → v ≡ zero_ℚ → for_min s v ≡ zero_ℚ
for_min_zero Min v e = e
for_min_zero Max v e = neg_zero v e

flat_if : (may : Bool) (a b x y : ℚ) → b ≡ zero_ℚ → IfSome (condition_if may a b) (λ e. Holds e x) → IfSome (condition_if may a b) (λ e. Holds e y)
flat_if true a b x y none h = flat a b x y none h
flat_if false a b x y none h = tt

module _ (p : LinearProgram) (s : List Status) (price rate : ℚ) (j : ℕ) where
  pub no_rate : (ends : Ends) → rate ≡ zero_ℚ → SidesHold (sides_of p s price rate j) zero_ℚ → IsWithRate p s price rate j ends ends
  no_rate ends none holds = record { exact = λ y. (λ h. (h, stays y), λ h. h.0); low = inl refl; high = inl refl }
    where
      stays : (y : ℚ) → SidesHold (sides_of p s price rate j) (neg_ℚ y)
      stays y = (
        flat_if (may_rise p s j) (for_min p.sense price) (for_min p.sense rate) zero_ℚ (neg_ℚ y) (for_min_zero p.sense rate none) holds.0,
        flat_if (may_fall p s j) (neg_ℚ (for_min p.sense price)) (neg_ℚ (for_min p.sense rate)) zero_ℚ (neg_ℚ y)
            (neg_zero (for_min p.sense rate) (for_min_zero p.sense rate none)) holds.1,
      )

  either_then : (rate ≢ zero_ℚ) → (a b c : Option Endpoint) → (b ≡ a) ⊎ (b ≡ Some (record { value = price /ℚ rate; by = j; which = 0 })) →
      (c ≡ b) ⊎ (c ≡ Some (record { value = price /ℚ rate; by = j; which = 0 })) → IsEitherRate price rate j a c
  either_then apart a b c _ (inr new) = inr (apart, new)
  either_then apart a b c (inl same) (inl last) = inl (last ∙ same)
  either_then apart a b c (inr new) (inl last) = inr (apart, last ∙ new)

  pub both_bounds : (ends mid now : Ends) → rate ≢ zero_ℚ → IsTightenedIf (may_rise p s j) ends (rate_bound p.sense true price rate j) mid
      → IsTightenedIf (may_fall p s j) mid (rate_bound p.sense false price rate j) now → IsWithRate p s price rate j ends now
  both_bounds ends mid now apart first second = record {
    exact = λ y. (to y, back y);
    low = either_then apart ends.low mid.low now.low first.low second.low;
    high = either_then apart ends.high mid.high now.high first.high second.high;
  }
    where
      up : (y : ℚ) →
          (may_rise p s j ≡ true → Meets (rate_bound p.sense true price rate j) y) ↔ IfSome
          (condition_if (may_rise p s j) (for_min p.sense price) (for_min p.sense rate)) (λ e. Holds e (neg_ℚ y))
      up y =
          if_asked (may_rise p s j) (for_min p.sense price) (for_min p.sense rate) (neg_ℚ y) (Meets (rate_bound p.sense true price rate j) y)
          (rising_bound p.sense price rate j y)

      down : (y : ℚ) →
          (may_fall p s j ≡ true → Meets (rate_bound p.sense false price rate j) y) ↔ IfSome
          (condition_if (may_fall p s j) (neg_ℚ (for_min p.sense price)) (neg_ℚ (for_min p.sense rate))) (λ e. Holds e (neg_ℚ y))
      down y =
          if_asked (may_fall p s j) (neg_ℚ (for_min p.sense price)) (neg_ℚ (for_min p.sense rate)) (neg_ℚ y) (Meets (rate_bound p.sense false price rate j) y)
          (falling_bound p.sense price rate j y)

      to : (y : ℚ) → IsBetweenEnds now y → IsBetweenEnds ends y × SidesHold (sides_of p s price rate j) (neg_ℚ y)
      to y h =
          let two = (second.exact y).0 h in
          let one = (first.exact y).0 two.0 in
          (one.0, ((up y).0 one.1, (down y).0 two.1))

      back : (y : ℚ) → IsBetweenEnds ends y × SidesHold (sides_of p s price rate j) (neg_ℚ y) → IsBetweenEnds now y
      back y h = (second.exact y).1 ((first.exact y).1 (h.0, (up y).1 h.1.0), (down y).1 h.1.1)

-- ---- one variable more

module _ (p : LinearProgram) (s : List Status) (prices row : Vector) where
  pub no_ends : AreRowEnds p s prices row 0 (record { low = None; high = None })
  no_ends = record {
    exact = λ y. (λ h k low high. absurd (omega (arith, low, high)), λ h. (tt, tt));
    made = (tt, tt);
  }

  more_ends : (n : ℕ) (before now : Option Endpoint) → (price rate : ℚ) → prices (n + 1) ≡ price → row (n + 1) ≡ rate →
      IsEitherRate price rate (n + 1) before now → IfSome before (IsRateEnd prices row n) → IfSome now (IsRateEnd prices row (n + 1))
  more_ends n before now price rate price_is rate_is (inl same) made = subst (λ o. IfSome o (IsRateEnd prices row (n + 1))) (sym same) (at before made)
    where
      at : (o : Option Endpoint) → IfSome o (IsRateEnd prices row n) → IfSome o (IsRateEnd prices row (n + 1))
      at None h = tt
      at (Some e) h = record { low = h.low; high = omega (arith, h.high); moves = h.moves; is_quotient = h.is_quotient }
  more_ends n before now price rate price_is rate_is (inr new) made = subst (λ o. IfSome o (IsRateEnd prices row (n + 1))) (sym new.1) (record {
    low = omega arith;
    high = omega arith;
    moves = λ e. new.0 (sym rate_is ∙ e);
    is_quotient = ap₂ ◌/ℚ◌ (sym price_is) (sym rate_is);
  })

  pub next_ends : (n : ℕ) (ends now : Ends) (price rate : ℚ) → prices (n + 1) ≡ price → row (n + 1) ≡ rate → AreRowEnds p s prices row n ends
      → IsWithRate p s price rate (n + 1) ends now
      → AreRowEnds p s prices row (n + 1) now
  next_ends n ends now price rate price_is rate_is before with = record {
    exact = λ y. (to y, back y);
    made = (
      more_ends n ends.low now.low price rate price_is rate_is with.low before.made.0,
      more_ends n ends.high now.high price rate price_is rate_is with.high
          before.made.1,
    );
  }
    where
      own : (y : ℚ) → SidesHold (sides_of p s price rate (n + 1)) (neg_ℚ y) ↔ SidesHold (sides_of p s (prices (n + 1)) (row (n + 1)) (n + 1)) (neg_ℚ y)
      own y =
          subst₂ (λ a b. SidesHold (sides_of p s price rate (n + 1)) (neg_ℚ y) ↔ SidesHold (sides_of p s a b (n + 1)) (neg_ℚ y)) (sym price_is) (sym rate_is)
          (λ h. h, λ h. h)

      to : (y : ℚ) → IsBetweenEnds now y → RatesStayTo p s prices row (n + 1) (neg_ℚ y)
      to y h =
          let both = (with.exact y).0 h in
          and_next (λ k. SidesHold (sides_of p s (prices k) (row k) k) (neg_ℚ y)) n ((before.exact y).0 both.0) ((own y).0 both.1)

      back : (y : ℚ) → RatesStayTo p s prices row (n + 1) (neg_ℚ y) → IsBetweenEnds now y
      back y h = (with.exact y).1 ((before.exact y).1 (λ k low high. h k low (omega (arith, high))), (own y).1 (h (n + 1) (omega arith) (omega arith)))
