-- What the status of a nonbasic tells of its motion: one that may not move stands at the limit ahead, and one that may doesn't.
use Rattle.std.proofs.Common.{◌≡◌, ◌≢◌, ◌⊎◌, inl, inr, Bool, true, false, pos, refl, sym, ap, subst, ◌∙◌}
use Rattle.std.specs.Prelude.{Option, Some, None, not, ◌&&◌, ◌||◌, option_map, if◌then◌else◌}
use Rattle.std.proofs.lemmas.Bool.{or_cases}
use Rattle.std.proofs.lemmas.Option.{same_Some}
use Rattle.exact_values.specs.Rational.{ℚ, zero_ℚ, ◌-ℚ◌, ◌*ℚ◌, ◌/ℚ◌, ◌≤ℚ◌, ◌<ℚ◌}
use Rattle.exact_values.specs.Tests.{lt_ℚ, eq_ℚ}
use Rattle.exact_values.proofs.Ring.{by_ring2, by_ring3, ◌⊕◌, ◌⊖◌, ◌⊗◌, ◌≐◌, number}
use Rattle.exact_values.proofs.RingLaws.{zero-mul}
use Rattle.exact_values.proofs.TestsLaws.{apart_from_eq_fails, lt_from_test, le_from_lt_fails}
use Rattle.exact_values.proofs.Inverse.{div-mul_cancel, div_is}
use Rattle.exact_values.proofs.Order.{le_of_lt, lt_irrefl, lt_not_le, lt_by_product, le_antisymm, apart_from_above, apart_from_below}
use Rattle.lp_definitions.specs.Basis.{is_basic, IsAllowed, StandsAt, IsRightAt}
use Rattle.lp_definitions.specs.declared.Status.{Status}
use Rattle.lp_definitions.specs.declared.Status.TheVariants.{Bs, Ll, Ul, Fr}
use Rattle.lp_laws.proofs.Values.{same_from_difference}
use Rattle.simplex_definitions.specs.Moves.{on_limits, rises_from, falls_from}
use Rattle.simplex_laws.proofs.Rays.{Breaks, breaks_lower, breaks_upper}
use Rattle.termination_laws.proofs.Numbers.{Against}

-- the variable stands at the limit towards which it would lower the quantity
pub record StopsAt (low high : Option ℚ) (z w : ℚ) : Type 0 where
  pub rising : w <ℚ zero_ℚ → high ≡ Some z
  pub falling : zero_ℚ <ℚ w → low ≡ Some z

pub idle_stops : (st : Status) (low high : Option ℚ) (z w : ℚ) → is_basic st ≡ false → IsAllowed st low high → StandsAt st low high z →
    (((v : ℚ) × (low ≡ Some v) × (high ≡ Some v)) ⊎ IsRightAt st w) → StopsAt low high z w
idle_stops Bs low high z w out allowed stands idle = cc
idle_stops Ll low high z w out allowed stands (inl (v, is_low, is_high)) =
    let same : v ≡ z = (let both = sym is_low ∙ stands in cc) in record { rising = λ h. is_high ∙ ap (λ v. Some v) same; falling = λ h. stands }
idle_stops Ll low high z w out allowed stands (inr idle) = record { rising = λ h. absurd (lt_not_le h idle); falling = λ h. stands }
idle_stops Ul low high z w out allowed stands (inl (v, is_low, is_high)) =
    let same : v ≡ z = (let both = sym is_high ∙ stands in cc) in record { rising = λ h. stands; falling = λ h. is_low ∙ ap (λ v. Some v) same }
idle_stops Ul low high z w out allowed stands (inr idle) = record { rising = λ h. stands; falling = λ h. absurd (lt_not_le h idle) }
idle_stops Fr low high z w out allowed stands (inl (v, is_low, is_high)) = let none = sym is_low ∙ allowed.0 in cc
idle_stops Fr low high z w out allowed stands (inr idle) = record {
  rising = λ h. absurd (lt_irrefl (subst (λ x. x <ℚ zero_ℚ) idle h));
  falling = λ h. absurd (lt_irrefl (subst (λ x. zero_ℚ <ℚ x) idle h));
}

-- ---- what may move

pub data Moving (st : Status) (fixed : Bool) (w : ℚ) : Type 0 where
  rising_from : w <ℚ zero_ℚ → rises_from st ≡ true → fixed ≡ false → Moving st fixed w
  falling_from : zero_ℚ <ℚ w → falls_from st ≡ true → fixed ≡ false → Moving st fixed w

all_true : (a b c : Bool) → (a && (b && not c)) ≡ true → (a ≡ true) × (b ≡ true) × (c ≡ false)
all_true true true false e = (refl, refl, refl)
all_true true true true e = cc
all_true true false c e = cc
all_true false b c e = cc

pub moving : (st : Status) (fixed : Bool) (w : ℚ) →
    ((lt_ℚ w zero_ℚ && (rises_from st && not fixed)) || (lt_ℚ zero_ℚ w && (falls_from st && not fixed))) ≡ true → Moving st fixed w
moving st fixed w e = by_way (or_cases _ _ e)
  where
    by_way : (((lt_ℚ w zero_ℚ && (rises_from st && not fixed)) ≡ true) ⊎ ((lt_ℚ zero_ℚ w && (falls_from st && not fixed)) ≡ true)) → Moving st fixed w
    by_way (inl h) = let parts = all_true _ _ _ h in rising_from (lt_from_test w zero_ℚ parts.0) parts.1 parts.2
    by_way (inr h) = let parts = all_true _ _ _ h in falling_from (lt_from_test zero_ℚ w parts.0) parts.1 parts.2

-- ---- motions of no length

-- the limit ahead
abbrev pub ahead : Option ℚ → Option ℚ → ℚ → Option ℚ
ahead low high d = if lt_ℚ zero_ℚ d then high else (if lt_ℚ d zero_ℚ then low else None)

abbrev pub room_to : Option ℚ → ℚ → ℚ → Option ℚ
room_to limit z d = option_map (λ l. (l -ℚ z) /ℚ d) limit

step_length_none : (limit : Option ℚ) (z d : ℚ) → d ≢ zero_ℚ → room_to limit z d ≡ Some zero_ℚ → limit ≡ Some z
step_length_none None z d apart e = cc
step_length_none (Some l) z d apart e =
    ap (λ v. Some v) (same_from_difference l z (sym (div-mul_cancel (l -ℚ z) d apart) ∙ ap (λ x. x *ℚ d) (same_Some _ _ e) ∙ zero-mul d))

none_step_length : (limit : Option ℚ) (z d : ℚ) → d ≢ zero_ℚ → limit ≡ Some z → room_to limit z d ≡ Some zero_ℚ
none_step_length None z d apart e = cc
none_step_length (Some l) z d apart e =
    ap (λ v. Some v) (div_is (l -ℚ z) d zero_ℚ apart (ap (λ x. x -ℚ z) (same_Some _ _ e) ∙ by_ring2 z d (λ z d. z ⊖ z ≐ number (pos 0) ⊗ d) refl))

-- where it stands at the limit ahead, its step length is 0
pub no_step_length : (low high : Option ℚ) (z d : ℚ) → (zero_ℚ <ℚ d → high ≡ Some z) → (d <ℚ zero_ℚ → low ≡ Some z) → d ≢ zero_ℚ →
    room_to (ahead low high d) z d ≡ Some zero_ℚ
no_step_length low high z d upper lower apart = none_step_length (ahead low high d) z d apart (by_tests (lt_ℚ zero_ℚ d) refl (lt_ℚ d zero_ℚ) refl)
  where
    by_tests : (up : Bool) → lt_ℚ zero_ℚ d ≡ up → (down : Bool) → lt_ℚ d zero_ℚ ≡ down → (if up then high else (if down then low else None)) ≡ Some z
    by_tests true up down down_is = upper (lt_from_test zero_ℚ d up)
    by_tests false up true down_is = lower (lt_from_test d zero_ℚ down_is)
    by_tests false up false down_is = absurd (apart (le_antisymm (le_from_lt_fails zero_ℚ d up) (le_from_lt_fails d zero_ℚ down_is)))

-- a nonbasic that may rise, and isn't fixed, doesn't stand at its upper limit
no_rise : (st : Status) (low high : Option ℚ) (z : ℚ) → rises_from st ≡ true → IsAllowed st low high → StandsAt st low high z → high ≡ Some z →
    on_limits eq_ℚ low high ≡ false → ⊥
no_rise Bs low high z up allowed stands limit free = cc
no_rise Ll low high z up allowed stands limit free = let both : eq_ℚ z z ≡ false = rw (stands, limit) at free in apart_from_eq_fails z z both refl
no_rise Ul low high z up allowed stands limit free = cc
no_rise Fr low high z up allowed stands limit free = let none = sym limit ∙ allowed.1 in cc

no_fall : (st : Status) (low high : Option ℚ) (z : ℚ) → falls_from st ≡ true → IsAllowed st low high → StandsAt st low high z → low ≡ Some z →
    on_limits eq_ℚ low high ≡ false → ⊥
no_fall Bs low high z down allowed stands limit free = cc
no_fall Ll low high z down allowed stands limit free = cc
no_fall Ul low high z down allowed stands limit free = let both : eq_ℚ z z ≡ false = rw (limit, stands) at free in apart_from_eq_fails z z both refl
no_fall Fr low high z down allowed stands limit free = let none = sym limit ∙ allowed.0 in cc

-- what may move, and is stopped at once by a motion, is moved the other way by it
pub blocked : (st : Status) (low high : Option ℚ) (z w d : ℚ) → IsAllowed st low high → StandsAt st low high z → Moving st (on_limits eq_ℚ low high) w →
    room_to (ahead low high d) z d ≡ Some zero_ℚ → Against w d
blocked st low high z w d allowed stands (rising_from h up free) step_length =
    record { rising = λ g. by_test (lt_ℚ zero_ℚ d) refl step_length; falling = λ g. absurd (lt_not_le h (le_of_lt g)) }
  where
    by_test : (above : Bool) → lt_ℚ zero_ℚ d ≡ above → room_to (if above then high else (if lt_ℚ d zero_ℚ then low else None)) z d ≡ Some zero_ℚ → d ≤ℚ zero_ℚ
    by_test false is e = le_from_lt_fails zero_ℚ d is
    by_test true is e = absurd (no_rise st low high z up allowed stands (step_length_none high z d (apart_from_above (lt_from_test zero_ℚ d is)) e) free)
blocked st low high z w d allowed stands (falling_from h down free) step_length =
    record { rising = λ g. absurd (lt_not_le h (le_of_lt g)); falling = λ g. by_tests (lt_ℚ zero_ℚ d) refl (lt_ℚ d zero_ℚ) refl step_length }
  where
    by_tests : (above : Bool) → lt_ℚ zero_ℚ d ≡ above → (below : Bool) → lt_ℚ d zero_ℚ ≡ below →
        room_to (if above then high else (if below then low else None)) z d ≡ Some zero_ℚ → zero_ℚ ≤ℚ d
    by_tests true is below below_is e = le_of_lt (lt_from_test zero_ℚ d is)
    by_tests false is true below_is e =
        absurd (no_fall st low high z down allowed stands (step_length_none low z d (apart_from_below (lt_from_test d zero_ℚ below_is)) e) free)
    by_tests false is false below_is e = le_from_lt_fails d zero_ℚ below_is

-- ---- what left outside its limits

-- t may move at the limit to which it was brought; it was outside it before, so that there it lowers the quantity
pub comes_back : (st : Status) (fixed : Bool) (low high : Option ℚ) (z y e : ℚ) (below : Bool) → st ≡ (if below then Ll else Ul) → StandsAt st low high z →
    Moving st fixed e → Breaks low high y below → zero_ℚ <ℚ (y -ℚ z) *ℚ e
comes_back st fixed low high z y e below is stands moving (breaks_lower l at_low limit broken) = lower st (is ∙ rw at_low refl) stands moving
  where
    lower : (st : Status) → st ≡ Ll → StandsAt st low high z → Moving st fixed e → zero_ℚ <ℚ (y -ℚ z) *ℚ e
    lower Ll same at_z (rising_from h up free) =
        let l_is : l ≡ z = same_Some _ _ (sym limit ∙ at_z) in
        lt_by_product (subst (λ x. y <ℚ x) l_is broken) h (by_ring3 y z e (λ y z e. (y ⊖ z) ⊗ e ≐ number (pos 0) ⊕ (z ⊖ y) ⊗ (number (pos 0) ⊖ e)) refl)
    lower Ll same at_z (falling_from h down free) = cc
    lower Bs same at_z moves = cc
    lower Ul same at_z moves = cc
    lower Fr same at_z moves = cc
comes_back st fixed low high z y e below is stands moving (breaks_upper u at_high limit broken) = upper st (is ∙ rw at_high refl) stands moving
  where
    upper : (st : Status) → st ≡ Ul → StandsAt st low high z → Moving st fixed e → zero_ℚ <ℚ (y -ℚ z) *ℚ e
    upper Ul same at_z (falling_from h down free) =
        let u_is : u ≡ z = same_Some _ _ (sym limit ∙ at_z) in
        lt_by_product (subst (λ x. x <ℚ y) u_is broken) h (by_ring3 y z e (λ y z e. (y ⊖ z) ⊗ e ≐ number (pos 0) ⊕ (y ⊖ z) ⊗ (e ⊖ number (pos 0))) refl)
    upper Ul same at_z (rising_from h up free) = cc
    upper Bs same at_z moves = cc
    upper Ll same at_z moves = cc
    upper Fr same at_z moves = cc
