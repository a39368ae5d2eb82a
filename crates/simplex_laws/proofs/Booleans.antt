-- The tests of which the motion of a variable is made.
use Rattle.std.proofs.Common.{◌≡◌, Bool, true, false, refl, sym, ◌∙◌, ap₂, ◌⊎◌, inl, inr, Option, Some}
use Rattle.std.specs.Prelude.{◌&&◌, ◌||◌, not}
use Rattle.std.proofs.lemmas.Bool.{and_parts, or_parts, not-true}
use Rattle.exact_values.specs.Rational.{ℚ, zero_ℚ, ◌≤ℚ◌}
use Rattle.exact_values.specs.Tests.{lt_ℚ, eq_ℚ}
use Rattle.exact_values.proofs.Order.{le_of_eq}
use Rattle.exact_values.proofs.TestsLaws.{lt_fails_from_le, le_from_lt_fails, test_from_same}
use Rattle.lp_definitions.specs.Basis.{IsRightAt}
use Rattle.lp_definitions.specs.declared.Status.{Status}
use Rattle.lp_definitions.specs.declared.Status.TheVariants.{Bs, Ll, Ul, Fr}
use Rattle.lp_laws.proofs.Values.{clash}
use Rattle.simplex_definitions.specs.Moves.{on_limits, rises_from, falls_from}
use Rattle.simplex_laws.proofs.Ends.{and_false}

-- a variable with this rate improves the objective: it rises where the rate is negative, and falls where it is positive
abbrev pub improves : ℚ → Bool → Bool → Bool
improves r rises falls = (lt_ℚ r zero_ℚ && rises) || (lt_ℚ zero_ℚ r && falls)

-- a rate that isn't negative where the variable may rise, nor positive where it may fall, improves nothing
pub improves_not : (r : ℚ) (rises falls : Bool) → (rises ≡ true → zero_ℚ ≤ℚ r) → (falls ≡ true → r ≤ℚ zero_ℚ) → improves r rises falls ≡ false
improves_not r rises falls up down =
    ap₂ ◌||◌ (at (lt_ℚ r zero_ℚ) rises (λ e. lt_fails_from_le r zero_ℚ (up e))) (at (lt_ℚ zero_ℚ r) falls (λ e. lt_fails_from_le zero_ℚ r (down e)))
  where
    at : (test may : Bool) → (may ≡ true → test ≡ false) → (test && may) ≡ false
    at true true h = h refl
    at true false h = refl
    at false may h = refl

-- and the other way round
pub rises_right : (r : ℚ) (rises falls : Bool) → improves r rises falls ≡ false → rises ≡ true → zero_ℚ ≤ℚ r
rises_right r rises falls e may = le_from_lt_fails r zero_ℚ (and_false (lt_ℚ r zero_ℚ) rises (or_parts _ _ e).0 may)

pub falls_right : (r : ℚ) (rises falls : Bool) → improves r rises falls ≡ false → falls ≡ true → r ≤ℚ zero_ℚ
falls_right r rises falls e may = le_from_lt_fails zero_ℚ r (and_false (lt_ℚ zero_ℚ r) falls (or_parts _ _ e).1 may)

-- a variable that is fixed, or whose rate is right, improves nothing
pub fixed_is : (low high : Option ℚ) (v : ℚ) → low ≡ Some v → high ≡ Some v → on_limits eq_ℚ low high ≡ true
fixed_is low high v at_low at_high = rw (at_low, at_high) (test_from_same v v refl)

pub right_improves_not : (st : Status) (low high : Option ℚ) (r : ℚ) → ((v : ℚ) × (low ≡ Some v) × (high ≡ Some v)) ⊎ IsRightAt st r
    → improves r (rises_from st && not (on_limits eq_ℚ low high)) (falls_from st && not (on_limits eq_ℚ low high)) ≡ false
right_improves_not st low high r (inl fixed) =
    improves_not r _ _
    (λ e. absurd (clash (sym (fixed_is low high fixed.0 fixed.1 fixed.2) ∙ not-true _ (and_parts _ _ e).1)))
    (λ e. absurd (clash (sym (fixed_is low high fixed.0 fixed.1 fixed.2) ∙ not-true _ (and_parts _ _ e).1)))
right_improves_not st low high r (inr right) = improves_not r _ _ (λ e. up st right (and_parts _ _ e).0) (λ e. down st right (and_parts _ _ e).0)
  where
    up : (st : Status) → IsRightAt st r → rises_from st ≡ true → zero_ℚ ≤ℚ r
    up Bs right e = absurd (clash (sym e))
    up Ll right e = right
    up Ul right e = absurd (clash (sym e))
    up Fr right e = le_of_eq (sym right)

    down : (st : Status) → IsRightAt st r → falls_from st ≡ true → r ≤ℚ zero_ℚ
    down Bs right e = absurd (clash (sym e))
    down Ll right e = absurd (clash (sym e))
    down Ul right e = right
    down Fr right e = le_of_eq right

-- a variable that may move in fewer ways improves nothing either
pub fewer_ways : (r : ℚ) (up down fixed other : Bool) → (fixed ≡ true → other ≡ true)
    → improves r (up && not fixed) (down && not fixed) ≡ false → improves r (up && not other) (down && not other) ≡ false
fewer_ways r up down fixed other more none =
    improves_not r _ _
    (λ e. let both = and_parts up (not other) e in rises_right r _ _ none (ap₂ ◌&&◌ both.0 (free fixed (not-true other both.1) more)))
    (λ e. let both = and_parts down (not other) e in falls_right r _ _ none (ap₂ ◌&&◌ both.0 (free fixed (not-true other both.1) more)))
  where
    free : (fixed : Bool) → other ≡ false → (fixed ≡ true → other ≡ true) → not fixed ≡ true
    free true out more = absurd (clash (sym (more refl) ∙ out))
    free false out more = refl
