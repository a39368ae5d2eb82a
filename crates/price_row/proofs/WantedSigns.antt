-- Which rates are wanted, by the signs of their numbers over a denominator.
use Rattle.std.proofs.Common.{◌≡◌, ◌≢◌, ℕ, ◌+◌, ◌-◌, ◌<◌, ◌≤◌, ◌⊎◌, inl, inr, List, length, set, refl, sym, ◌∙◌, ap, ap₂, Bool, true, false, cond, subst, arith}
use Rattle.std.proofs.Common.{int_lt, ℤ, pos}
use mathlib.Core.Bool.{beq}
use Rattle.std.specs.Prelude.{eqb, not, ◌||◌, Some, None}
use Rattle.std.proofs.lemmas.Bool.Decides.{eqb_tells}
use Rattle.std.proofs.lemmas.List.{get_or-set_same}
use Rattle.exact_values.specs.Rational.{ℚ, zero_ℚ, neg_ℚ, inverse_ℚ, ◌/ℚ◌, ◌*ℚ◌, ◌<ℚ◌, ◌≤ℚ◌, sign_ℚ}
use Rattle.exact_values.specs.Tests.{lt_ℚ}
use Rattle.exact_values.proofs.Inverse.{inverse-neg}
use Rattle.exact_values.proofs.Order.{le_of_lt, same_or_not, lt_from_le, lt_or_le, le_by_product, lt_by_product, inverse-positive}
use Rattle.exact_values.proofs.Ring.{by_ring2, ◌⊕◌, ◌⊖◌, ◌⊗◌, ◌≐◌, number, opposite}
use Rattle.exact_values.proofs.Signs.{neg_above}
use Rattle.exact_values.proofs.TestsLaws.{test_from_lt, lt_fails_from_le, sign_from_above, sign_from_below, sign_from_zero}
use Rattle.lp_definitions.specs.LinearProgram.{size, Vector, IsVariable, value_at}
use Rattle.lp_definitions.specs.Basis.{is_in, row_basics}
use Rattle.lp_model.specs.RatesCalls.{IsRowOf}
use Rattle.lp_model.specs.Wanted.{is_wanted, turned, wanted_at, meets, NoneMeets, IsLeastWanted, IsFirstWanted}
use Rattle.lp_model.specs.declared.wanted.Wanted.{Wanted}
use Rattle.lp_model.specs.declared.wanted.Wanted.TheVariants.{Nothing, Below, Above, Apart}
use Rattle.eta_file.specs.Prefixes.{Passed, after}
use Rattle.eta_file.specs.Inverse.{Inverse}
use Rattle.price_row.specs.Known.{IsRateOf}
use Rattle.price_row.specs.RateNumbers.{up_over}
use Rattle.price_row.proofs.WantedSteps.{first_by_row, zero_unwanted, turned_zero}

-- ---- the sign of a quotient

module _ (y d : ℚ) (above : zero_ℚ <ℚ d) where
  below_over : lt_ℚ (y /ℚ d) zero_ℚ ≡ lt_ℚ y zero_ℚ
  below_over = at (lt_or_le y zero_ℚ)
    where
      at : (y <ℚ zero_ℚ) ⊎ (zero_ℚ ≤ℚ y) → lt_ℚ (y /ℚ d) zero_ℚ ≡ lt_ℚ y zero_ℚ
      at (inl below) =
          test_from_lt (y /ℚ d) zero_ℚ
          (lt_by_product below (inverse-positive above)
          (by_ring2 y (inverse_ℚ d) (λ y i. number (pos 0) ≐ y ⊗ i ⊕ (number (pos 0) ⊖ y) ⊗ (i ⊖ number (pos 0))) refl))
          ∙ sym (test_from_lt y zero_ℚ below)
      at (inr le) =
          lt_fails_from_le (y /ℚ d) zero_ℚ
          (le_by_product le (le_of_lt (inverse-positive above))
          (by_ring2 y (inverse_ℚ d) (λ y i. y ⊗ i ≐ number (pos 0) ⊕ (y ⊖ number (pos 0)) ⊗ (i ⊖ number (pos 0))) refl))
          ∙ sym (lt_fails_from_le y zero_ℚ le)

  above_over : lt_ℚ zero_ℚ (y /ℚ d) ≡ lt_ℚ zero_ℚ y
  above_over = at (lt_or_le zero_ℚ y)
    where
      at : (zero_ℚ <ℚ y) ⊎ (y ≤ℚ zero_ℚ) → lt_ℚ zero_ℚ (y /ℚ d) ≡ lt_ℚ zero_ℚ y
      at (inl more) =
          test_from_lt zero_ℚ (y /ℚ d)
          (lt_by_product more (inverse-positive above)
          (by_ring2 y (inverse_ℚ d) (λ y i. y ⊗ i ≐ number (pos 0) ⊕ (y ⊖ number (pos 0)) ⊗ (i ⊖ number (pos 0))) refl))
          ∙ sym (test_from_lt zero_ℚ y more)
      at (inr le) =
          lt_fails_from_le zero_ℚ (y /ℚ d)
          (le_by_product le (le_of_lt (inverse-positive above))
          (by_ring2 y (inverse_ℚ d) (λ y i. number (pos 0) ≐ y ⊗ i ⊕ (number (pos 0) ⊖ y) ⊗ (i ⊖ number (pos 0))) refl))
          ∙ sym (lt_fails_from_le zero_ℚ y le)

  wanted_over : (w : Wanted) → is_wanted w (y /ℚ d) ≡ is_wanted w y
  wanted_over Nothing = refl
  wanted_over Below = below_over
  wanted_over Above = above_over
  wanted_over Apart = ap₂ ◌||◌ below_over above_over

-- by a positive denominator the sign stays, and by a negative one it turns
module _ (w : Wanted) (x d : ℚ) where
  sign_stays : (up : Bool) → zero_ℚ <ℚ d → is_wanted w (turned up (x /ℚ d)) ≡ is_wanted w (turned up x)
  sign_stays true above = wanted_over x d above w
  sign_stays false above = ap (is_wanted w) (by_ring2 x (inverse_ℚ d) (λ x i. opposite (x ⊗ i) ≐ opposite x ⊗ i) refl) ∙ wanted_over (neg_ℚ x) d above w

  sign_turns : (up : Bool) → d ≢ zero_ℚ → d <ℚ zero_ℚ → is_wanted w (turned up (x /ℚ d)) ≡ is_wanted w (turned (not up) x)
  sign_turns true apart below =
      ap (is_wanted w) (by_ring2 x (inverse_ℚ d) (λ x i. x ⊗ i ≐ opposite x ⊗ opposite i) refl ∙ ap (λ i. neg_ℚ x *ℚ i) (sym (inverse-neg d apart)))
      ∙ wanted_over (neg_ℚ x) (neg_ℚ d) (neg_above d below) w
  sign_turns false apart below =
      ap (is_wanted w) (by_ring2 x (inverse_ℚ d) (λ x i. opposite (x ⊗ i) ≐ x ⊗ opposite i) refl ∙ ap (λ i. x *ℚ i) (sym (inverse-neg d apart)))
      ∙ wanted_over x (neg_ℚ d) (neg_above d below) w

  pub wanted_by_number : (up : Bool) → d ≢ zero_ℚ → is_wanted w (turned up (x /ℚ d)) ≡ is_wanted w (turned (up_over up d) x)
  wanted_by_number up apart = at (lt_or_le zero_ℚ d)
    where
      at : (zero_ℚ <ℚ d) ⊎ (d ≤ℚ zero_ℚ) → is_wanted w (turned up (x /ℚ d)) ≡ is_wanted w (turned (up_over up d) x)
      at (inl above) = sign_stays up above ∙ sym (ap (λ b. is_wanted w (turned (cond b up (not up)) x)) (test_from_lt zero_ℚ d above))
      at (inr le) = sign_turns up apart (lt_from_le le apart) ∙ sym (ap (λ b. is_wanted w (turned (cond b up (not up)) x)) (lt_fails_from_le zero_ℚ d le))

-- the test of the denominator's sign
pub up_over_is : (up : Bool) (d : ℚ) (s : ℤ) → s ≡ sign_ℚ d → beq up (int_lt (pos 0) s) ≡ up_over up d
up_over_is up d s is_sign = same_as up (int_lt (pos 0) s) ∙ ap (λ b. cond b up (not up)) (ap (int_lt (pos 0)) is_sign ∙ at (lt_or_le zero_ℚ d))
  where
    same_as : (a b : Bool) → beq a b ≡ cond b a (not a)
    same_as true true = refl
    same_as true false = refl
    same_as false true = refl
    same_as false false = refl

    at_most : d ≤ℚ zero_ℚ → (d ≡ zero_ℚ) ⊎ (d ≢ zero_ℚ) → int_lt (pos 0) (sign_ℚ d) ≡ false
    at_most le (inl none) = ap (int_lt (pos 0)) (sign_from_zero d none)
    at_most le (inr apart) = ap (int_lt (pos 0)) (sign_from_below d (lt_from_le le apart))

    at : (zero_ℚ <ℚ d) ⊎ (d ≤ℚ zero_ℚ) → int_lt (pos 0) (sign_ℚ d) ≡ lt_ℚ zero_ℚ d
    at (inl above) = ap (int_lt (pos 0)) (sign_from_above d above) ∙ sym (test_from_lt zero_ℚ d above)
    at (inr le) = at_most le (same_or_not d zero_ℚ) ∙ sym (lt_fails_from_le zero_ℚ d le)

-- ---- a place

module _ (f : Inverse) (r place : ℕ) (ws : List Wanted) (up : Bool) (within : place < size f.matrix) where
  abbrev sought : Wanted
  sought = wanted_at ws (place + 1)

  is : IsVariable f.matrix (place + 1)
  is = (omega arith, omega (arith, within))

  -- nothing is wanted there
  pub nothing_there : (rates : Vector) → sought ≡ Nothing → false ≡ meets ws up rates (place + 1)
  nothing_there rates none = sym (ap (λ w. is_wanted w (turned up (rates (place + 1)))) none)

  -- a basic's rate is 0
  pub basic_there : (rates : Vector) → is_in f.basics (place + 1) ≡ true → IsRowOf f.matrix f.basics r rates → false ≡ meets ws up rates (place + 1)
  basic_there rates basic h =
      sym (ap (λ (y : ℚ). is_wanted sought (turned up y)) (h.entries (place + 1) is ∙ ap (λ b. cond b zero_ℚ (h.rate r (place + 1))) basic)
      ∙ ap (is_wanted sought) (turned_zero up) ∙ zero_unwanted sought)

  -- a nonbasic's is its number over the denominator
  pub number_there : (rates : Vector) (n y d : ℚ) (turn met : Bool) → d ≢ zero_ℚ → IsRateOf f r (place + 1) (n /ℚ d) → turn ≡ up_over up d → y ≡ n
      → met ≡ is_wanted sought (turned turn y)
      → IsRowOf f.matrix f.basics r rates → met ≡ meets ws up rates (place + 1)
  number_there rates n y d turn met apart rate_is is_turn is_y test h =
      test ∙ ap₂ (λ (b : Bool) (x : ℚ). is_wanted sought (turned b x)) is_turn is_y ∙ sym (wanted_by_number sought n d up apart)
      ∙ ap (λ (x : ℚ). is_wanted sought (turned up x)) (rate_is.is_rate h.rate h.are_rates ∙ sym (h.entries (place + 1) is))

  -- and it is that rate itself
  pub rate_there : (rates : Vector) (v : ℚ) (met : Bool) → IsRateOf f r (place + 1) v → met ≡ is_wanted sought (turned up v) →
      IsRowOf f.matrix f.basics r rates → met ≡ meets ws up rates (place + 1)
  rate_there rates v met rate_is test h =
      test ∙ ap (λ (x : ℚ). is_wanted sought (turned up x)) (rate_is.is_rate h.rate h.are_rates ∙ sym (h.entries (place + 1) is))

-- ---- one place after another

module _ (ws : List Wanted) (up : Bool) (rates : Vector) (n : ℕ) (none : NoneMeets ws up rates n) where
  pub none_more : (met : Bool) → met ≡ meets ws up rates (n + 1) → met ≡ false → NoneMeets ws up rates (n + 1)
  none_more met here fails k low high = at (eqb_tells k (n + 1))
    where
      at : (((eqb k (n + 1) ≡ true) × (k ≡ n + 1)) ⊎ ((eqb k (n + 1) ≡ false) × (k ≢ n + 1))) → meets ws up rates k ≡ false
      at (inl same) = ap (meets ws up rates) same.1 ∙ sym here ∙ fails
      at (inr other) = let apart = other.1 in none k low (omega (arith, high, apart))

  pub least_here : (met : Bool) → met ≡ meets ws up rates (n + 1) → met ≡ true → n < length ws → IsLeastWanted ws up rates (Some (n + 1))
  least_here met here holds within = record {
    low = omega arith;
    high = omega (arith, within);
    met = sym here ∙ holds;
    before = λ k low less. none k low (omega (arith, less));
  }

  pub least_none : length ws ≤ n → IsLeastWanted ws up rates None
  least_none all k low high = none k low (omega (arith, high, all))

-- ---- the rate of the one that is found

pub first_found : (f : Inverse) (r : ℕ) (ws : List Wanted) (up : Bool) (xs : List ℚ) → f.basics ≡ after (row_basics f.matrix) f.etas
    → Passed f.matrix (row_basics f.matrix) f.etas → length ws ≡ size f.matrix
    → (q : ℕ) (v : ℚ) → IsVariable f.matrix q → length xs ≡ size f.matrix → IsRateOf f r (q - 1 + 1) v
    → ((rates : Vector) → IsRowOf f.matrix f.basics r rates → IsLeastWanted ws up rates (Some q))
    → IsFirstWanted f.matrix f.basics r ws up (value_at (set xs (q - 1) v)) (Some q)
first_found f r ws up xs are passed counted q v var places rate_is least =
    first_by_row f r ws up (value_at (set xs (q - 1) v)) are passed counted q var
    (subst (λ (x : ℚ). IsRateOf f r q x) (sym (get_or-set_same xs (q - 1) v zero_ℚ (omega (arith, var.0, var.1, places))))
    (subst (λ k. IsRateOf f r k v) (let e : q - 1 + 1 ≡ q = omega (arith, var.0) in e) rate_is))
    least

pub first_nowhere : (f : Inverse) (r : ℕ) (ws : List Wanted) (up : Bool) (xs : Vector) → IsRowOf f.matrix f.basics r xs →
    ((rates : Vector) → IsRowOf f.matrix f.basics r rates → IsLeastWanted ws up rates None) → IsFirstWanted f.matrix f.basics r ws up xs None
first_nowhere f r ws up xs row least = record { rates = xs; is_row = row; least = least xs row; given = λ k is given. refl }
