-- The values at which combined rates are 0, and how far conditions on them hold.
use Rattle.std.proofs.Common.{◌≡◌, ◌≢◌, ℕ, ◌+◌, List, arith, cond, pos, refl, sym, ap, ◌∙◌, subst, subst₂, ◌⊎◌, inl, inr, Bool, true, false}
use Rattle.std.specs.Prelude.{◌↔◌, IfSome, not, ◌&&◌, ◌||◌}
use Rattle.std.proofs.lemmas.Bool.{not-true}
use Rattle.exact_values.specs.Rational.{ℚ, zero_ℚ, one_ℚ, neg_ℚ, ◌+ℚ◌, ◌-ℚ◌, ◌*ℚ◌, ◌/ℚ◌, ◌≤ℚ◌, ◌<ℚ◌}
use Rattle.exact_values.specs.Tests.{lt_ℚ}
use Rattle.exact_values.proofs.Inverse.{div-mul_cancel}
use Rattle.exact_values.proofs.Order.{le_by_one, le_of_lt, le_trans, le_refl, lt_from_le}
use Rattle.exact_values.proofs.Ring.{by_ring3, same_by_one, number, opposite, ◌⊕◌, ◌⊖◌, ◌⊗◌, ◌≐◌}
use Rattle.exact_values.proofs.TestsLaws.{lt_from_test, test_from_lt, le_from_lt_fails, lt_fails_from_le}
use Rattle.exact_values.proofs.Signs.{neg_below, neg_not_below}
use Rattle.affine_laws.specs.Conditions.{Holds}
use Rattle.affine_laws.proofs.Single.{before_zero, holds_before, holds_on, zero_is}
use Rattle.sensitivity_laws.specs.Changes.{SidesHold, condition, condition_if, sign_sides}
use Rattle.lp_definitions.specs.LinearProgram.{LinearProgram, Vector, for_min}
use Rattle.lp_definitions.specs.declared.Sense.{Sense}
use Rattle.lp_definitions.specs.declared.Sense.TheVariants.{Min, Max}
use Rattle.lp_definitions.specs.declared.Status.{Status}
use Rattle.lp_laws.proofs.Values.{clash}
use Rattle.simplex_definitions.specs.Moves.{may_rise, may_fall}
use Rattle.ranging.specs.RowEnds.{sides_of, RatesStayTo}
use Rattle.ranging.proofs.RateBounds.{for_min_zero}
use Rattle.para_objective.specs.Reach.{zero_at, meets, IsLeast, IsWithRate, IsReachOf, IsReachAbove}
use Rattle.bounded_primal.proofs.Still.{and_next}

pub at_zero : (price rate : ℚ) → rate ≢ zero_ℚ → price +ℚ zero_at price rate *ℚ rate ≡ zero_ℚ
at_zero price rate apart =
    same_by_one (neg_ℚ one_ℚ) (div-mul_cancel price rate apart)
    (by_ring3 price rate (price /ℚ rate) (λ a r q. a ⊕ opposite q ⊗ r ≐ number (pos 0) ⊕ opposite (number (pos 1)) ⊗ (q ⊗ r ⊖ a)) refl)

opposite_zero : (w v z : ℚ) → w +ℚ z *ℚ v ≡ zero_ℚ → neg_ℚ w +ℚ z *ℚ neg_ℚ v ≡ zero_ℚ
opposite_zero w v z e =
    same_by_one (neg_ℚ one_ℚ) e
    (by_ring3 w v z (λ w v z. opposite w ⊕ z ⊗ opposite v ≐ number (pos 0) ⊕ opposite (number (pos 1)) ⊗ (w ⊕ z ⊗ v ⊖ number (pos 0))) refl)

pub for_sense : (s : Sense) (w v z : ℚ) → w +ℚ z *ℚ v ≡ zero_ℚ → for_min s w +ℚ z *ℚ for_min s v ≡ zero_ℚ
for_sense Min w v z e = e
for_sense Max w v z e = opposite_zero w v z e

-- a falling function that is 0 at z
falling_to : (w v z : ℚ) → w +ℚ z *ℚ v ≡ zero_ℚ → v <ℚ zero_ℚ → (x : ℚ) → Holds (condition w v) x ↔ (x ≤ℚ z)
falling_to w v z zero falls x =
    let is = zero_is (condition w v) z (record { falls = falls; is_zero = zero }) in (
      λ h. subst (λ (u : ℚ). x ≤ℚ u) is (before_zero (condition w v) falls x h),
      λ h. holds_before (condition w v) falls x
          (subst (λ (u : ℚ). x ≤ℚ u) (sym is) h),
    )

pub rate_falls : (w v z : ℚ) → w +ℚ z *ℚ v ≡ zero_ℚ → lt_ℚ v zero_ℚ ≡ true → (x : ℚ) → Holds (condition w v) x ↔ (x ≤ℚ z)
rate_falls w v z zero test = falling_to w v z zero (lt_from_test v zero_ℚ test)

pub rate_rises : (w v z : ℚ) → w +ℚ z *ℚ v ≡ zero_ℚ → lt_ℚ zero_ℚ v ≡ true → (x : ℚ) → Holds (condition (neg_ℚ w) (neg_ℚ v)) x ↔ (x ≤ℚ z)
rate_rises w v z zero test = falling_to (neg_ℚ w) (neg_ℚ v) z (opposite_zero w v z zero) (neg_below v (lt_from_test zero_ℚ v test))

-- ---- the conditions of one variable

on_if : (may : Bool) (a b from x : ℚ) → (may ≡ true → zero_ℚ ≤ℚ b) → from ≤ℚ x → IfSome (condition_if may a b) (λ e. Holds e from) →
    IfSome (condition_if may a b) (λ e. Holds e x)
on_if true a b from x grows forward h = holds_on (condition a b) (grows refl) from x h forward
on_if false a b from x grows forward h = tt

if_there : (may : Bool) (a b x : ℚ) → may ≡ true → IfSome (condition_if may a b) (λ e. Holds e x) ↔ Holds (condition a b) x
if_there true a b x e = (λ h. h, λ h. h)
if_there false a b x e = absurd (clash (sym e))

-- neither condition ends
up_grows : (a b c d : Bool) → ((a && c) || (b && d)) ≡ false → c ≡ true → a ≡ false
up_grows true b true d e is = absurd (clash e)
up_grows true b false d e is = absurd (clash (sym is))
up_grows false b c d e is = refl

down_grows : (a b c d : Bool) → ((a && c) || (b && d)) ≡ false → d ≡ true → b ≡ false
down_grows a false c d e is = refl
down_grows a true c false e is = absurd (clash (sym is))
down_grows true true true true e is = absurd (clash e)
down_grows true true false true e is = absurd (clash e)
down_grows false true c true e is = absurd (clash e)

one_ends : (a b c d : Bool) → ((a && c) || (b && d)) ≡ true → ((a ≡ true) × (c ≡ true)) ⊎ ((b ≡ true) × (d ≡ true))
one_ends true b true d e = inl (refl, refl)
one_ends true true false true e = inr (refl, refl)
one_ends true false false d e = absurd (clash (sym e))
one_ends true true false false e = absurd (clash (sym e))
one_ends false true c true e = inr (refl, refl)
one_ends false true c false e = absurd (clash (sym e))
one_ends false false c d e = absurd (clash (sym e))

module _ (up down : Bool) (w v : ℚ) where
  pub goes_on : ((lt_ℚ v zero_ℚ && up) || (lt_ℚ zero_ℚ v && down)) ≡ false → (from x : ℚ) → SidesHold (sign_sides up down w v) from → from ≤ℚ x →
      SidesHold (sign_sides up down w v) x
  goes_on none from x h forward = (
    on_if up w v from x (λ may. le_from_lt_fails v zero_ℚ (up_grows (lt_ℚ v zero_ℚ) (lt_ℚ zero_ℚ v) up down none may)) forward h.0,
    on_if down (neg_ℚ w) (neg_ℚ v) from x
        (λ may. neg_not_below v (le_from_lt_fails zero_ℚ v (down_grows (lt_ℚ v zero_ℚ) (lt_ℚ zero_ℚ v) up down none may))) forward h.1,
  )

  pub goes_to : (z : ℚ) → w +ℚ z *ℚ v ≡ zero_ℚ → ((lt_ℚ v zero_ℚ && up) || (lt_ℚ zero_ℚ v && down)) ≡ true → (from x : ℚ) →
      SidesHold (sign_sides up down w v) from → from ≤ℚ x → SidesHold (sign_sides up down w v) x ↔ (x ≤ℚ z)
  goes_to z zero one from x h forward = at (one_ends (lt_ℚ v zero_ℚ) (lt_ℚ zero_ℚ v) up down one)
    where
      at : ((lt_ℚ v zero_ℚ ≡ true) × (up ≡ true)) ⊎ ((lt_ℚ zero_ℚ v ≡ true) × (down ≡ true)) → SidesHold (sign_sides up down w v) x ↔ (x ≤ℚ z)
      at (inl is) = (
        λ k. (rate_falls w v z zero is.0 x).0 ((if_there up w v x is.1).0 k.0),
        λ le. (
          (if_there up w v x is.1).1 ((rate_falls w v z zero is.0 x).1 le),
          on_if down (neg_ℚ w) (neg_ℚ v) from x (λ _. neg_not_below v (le_of_lt (lt_from_test v zero_ℚ is.0))) forward h.1,
        ),
      )
      at (inr is) = (
        λ k. (rate_rises w v z zero is.0 x).0 ((if_there down (neg_ℚ w) (neg_ℚ v) x is.1).0 k.1),
        λ le. (
          on_if up w v from x (λ _. le_of_lt (lt_from_test zero_ℚ v is.0)) forward h.0,
          (if_there down (neg_ℚ w) (neg_ℚ v) x is.1).1 ((rate_rises w v z zero is.0 x).1 le),
        ),
      )

-- ---- a product that shows that a theta isn't past the zero

pub meets_zero : (best price rate product : ℚ) → rate ≢ zero_ℚ → product ≡ best *ℚ rate → meets product price rate ≡ true → best ≤ℚ zero_at price rate
meets_zero best price rate product apart is h = at (lt_ℚ rate zero_ℚ) refl h
  where
    zero : price +ℚ zero_at price rate *ℚ rate ≡ zero_ℚ
    zero = at_zero price rate apart

    above : neg_ℚ price ≤ℚ product → zero_ℚ ≤ℚ price +ℚ best *ℚ rate
    above le =
        le_by_one (subst (λ (u : ℚ). neg_ℚ price ≤ℚ u) is le) (by_ring3 price rate best (λ a r x. a ⊕ x ⊗ r ≐ number (pos 0) ⊕ (x ⊗ r ⊖ opposite a)) refl)

    below : product ≤ℚ neg_ℚ price → zero_ℚ ≤ℚ neg_ℚ price +ℚ best *ℚ neg_ℚ rate
    below le =
        le_by_one (subst (λ (u : ℚ). u ≤ℚ neg_ℚ price) is le)
        (by_ring3 price rate best (λ a r x. opposite a ⊕ x ⊗ opposite r ≐ number (pos 0) ⊕ (opposite a ⊖ x ⊗ r)) refl)

    at : (test : Bool) → lt_ℚ rate zero_ℚ ≡ test → cond test (not (lt_ℚ product (neg_ℚ price))) (not (lt_ℚ (neg_ℚ price) product)) ≡ true →
        best ≤ℚ zero_at price rate
    at true e k =
        (rate_falls price rate (zero_at price rate) zero e best).0 (above (le_from_lt_fails product (neg_ℚ price) (not-true (lt_ℚ product (neg_ℚ price)) k)))
    at false e k =
        let rises : zero_ℚ <ℚ rate = lt_from_le (le_from_lt_fails rate zero_ℚ e) (λ z. apart (sym z)) in
        (rate_rises price rate (zero_at price rate) zero (test_from_lt zero_ℚ rate rises) best).0
        (below (le_from_lt_fails (neg_ℚ price) product (not-true (lt_ℚ (neg_ℚ price) product) k)))

-- the combined rate itself shows it
pub meets_combined : (best price rate combined : ℚ) → rate ≢ zero_ℚ → combined ≡ price +ℚ best *ℚ rate → meets combined zero_ℚ rate ≡ true →
    best ≤ℚ zero_at price rate
meets_combined best price rate combined apart is h =
    meets_zero best price rate (best *ℚ rate) apart refl (at (lt_ℚ rate zero_ℚ) h)
  where
    at : (test : Bool) → cond test (not (lt_ℚ combined (neg_ℚ zero_ℚ))) (not (lt_ℚ (neg_ℚ zero_ℚ) combined)) ≡ true →
        cond test (not (lt_ℚ (best *ℚ rate) (neg_ℚ price))) (not (lt_ℚ (neg_ℚ price) (best *ℚ rate))) ≡ true
    at true k =
        ap not (lt_fails_from_le (best *ℚ rate) (neg_ℚ price) (le_by_one (le_from_lt_fails combined (neg_ℚ zero_ℚ) (not-true (lt_ℚ combined (neg_ℚ zero_ℚ)) k))
        (by_ring3 price rate best (λ a r x. x ⊗ r ≐ opposite a ⊕ (a ⊕ x ⊗ r ⊖ opposite (number (pos 0)))) refl
        ∙ ap (λ u. neg_ℚ price +ℚ (u -ℚ neg_ℚ zero_ℚ)) (sym is))))
    at false k =
        ap not (lt_fails_from_le (neg_ℚ price) (best *ℚ rate) (le_by_one (le_from_lt_fails (neg_ℚ zero_ℚ) combined (not-true (lt_ℚ (neg_ℚ zero_ℚ) combined) k))
        (by_ring3 price rate best (λ a r x. opposite a ≐ x ⊗ r ⊕ (opposite (number (pos 0)) ⊖ (a ⊕ x ⊗ r))) refl
        ∙ ap (λ u. best *ℚ rate +ℚ (neg_ℚ zero_ℚ -ℚ u)) (sym is))))

-- ---- the lesser of two values

pub other_less : (best other : ℚ) → lt_ℚ other best ≡ true → IsLeast best other other
other_less best other test x = (λ h. (le_trans h (le_of_lt (lt_from_test other best test)), h), λ h. h.1)

pub best_less : (best other : ℚ) → best ≤ℚ other → IsLeast best other best
best_less best other le x = (λ h. (h, le_trans h le), λ h. h.0)

-- ---- one variable more

none_of : (a b up down : Bool) → a ≡ false → b ≡ false → ((a && up) || (b && down)) ≡ false
none_of true b up down e f = absurd (clash e)
none_of false true up down e f = absurd (clash f)
none_of false false up down e f = refl

module _ (p : LinearProgram) (s : List Status) (price rate : ℚ) (k : ℕ) where
  abbrev test : ℚ → Bool
  test v = (lt_ℚ v zero_ℚ && may_rise p s k) || (lt_ℚ zero_ℚ v && may_fall p s k)

  pub not_lowered : (best v : ℚ) → v ≡ for_min p.sense rate → test v ≡ false → IsWithRate p s price rate k best best
  not_lowered best v is none from h x forward =
      let same : test (for_min p.sense rate) ≡ false = subst (λ (v : ℚ). test v ≡ false) is none in
      (λ le. (le, goes_on (may_rise p s k) (may_fall p s k) (for_min p.sense price) (for_min p.sense rate) same from x h forward), λ both. both.0)

  pub without_rate : (best : ℚ) → rate ≡ zero_ℚ → IsWithRate p s price rate k best best
  without_rate best zero =
      let is : for_min p.sense rate ≡ zero_ℚ = for_min_zero p.sense rate zero in
      let equal : lt_ℚ zero_ℚ zero_ℚ ≡ false = lt_fails_from_le zero_ℚ zero_ℚ (le_refl zero_ℚ) in
      not_lowered best zero_ℚ (sym is) (none_of (lt_ℚ zero_ℚ zero_ℚ) (lt_ℚ zero_ℚ zero_ℚ) (may_rise p s k) (may_fall p s k) equal equal)

  pub lowered : (best now v : ℚ) → rate ≢ zero_ℚ → v ≡ for_min p.sense rate → test v ≡ true → IsLeast best (zero_at price rate) now →
      IsWithRate p s price rate k best now
  lowered best now v apart is one least from h x forward =
      let same : test (for_min p.sense rate) ≡ true = subst (λ (v : ℚ). test v ≡ true) is one in
      let zero = for_sense p.sense price rate (zero_at price rate) (at_zero price rate apart) in
      let ends = goes_to (may_rise p s k) (may_fall p s k) (for_min p.sense price) (for_min p.sense rate) (zero_at price rate) zero same from x h forward in
      (λ le. let both = (least x).0 le in (both.0, ends.1 both.1), λ both. (least x).1 (both.0, ends.0 both.1))

module _ (p : LinearProgram) (s : List Status) (prices change : Vector) (max : ℚ) where
  pub no_reach : IsReachOf p s prices change 0 max max
  no_reach from all x forward = (λ le. (le, λ k low high. absurd (omega (arith, low, high))), λ both. both.0)

  first : (n : ℕ) (y : ℚ) → RatesStayTo p s prices change (n + 1) y → RatesStayTo p s prices change n y
  first n y h k low high = h k low (omega (arith, high))

  module _ (n : ℕ) (best now price rate : ℚ) (price_is : prices (n + 1) ≡ price) (rate_is : change (n + 1) ≡ rate)
      (with : IsWithRate p s price rate (n + 1) best now) where
    own : (y : ℚ) → SidesHold (sides_of p s price rate (n + 1)) y ↔ SidesHold (sides_of p s (prices (n + 1)) (change (n + 1)) (n + 1)) y
    own y = subst₂ (λ a b. SidesHold (sides_of p s price rate (n + 1)) y ↔ SidesHold (sides_of p s a b (n + 1)) y) (sym price_is) (sym rate_is) (λ h. h, λ h. h)

    last : (y : ℚ) → RatesStayTo p s prices change (n + 1) y → SidesHold (sides_of p s price rate (n + 1)) y
    last y h = (own y).1 (h (n + 1) (omega arith) (omega arith))

    pub next_reach : IsReachOf p s prices change n max best → IsReachOf p s prices change (n + 1) max now
    next_reach before from all x forward = (to, back)
      where
        to : x ≤ℚ now → (x ≤ℚ max) × RatesStayTo p s prices change (n + 1) x
        to le =
            let two = (with from (last from all) x forward).0 le in
            let one = (before from (first n from all) x forward).0 two.0 in
            (one.0, and_next (λ k. SidesHold (sides_of p s (prices k) (change k) k) x) n one.1 ((own x).0 two.1))

        back : (x ≤ℚ max) × RatesStayTo p s prices change (n + 1) x → x ≤ℚ now
        back h = (with from (last from all) x forward).1 ((before from (first n from all) x forward).1 (h.0, first n x h.1), last x h.1)

    pub next_above : IsReachAbove p s prices change n max best → IsReachAbove p s prices change (n + 1) max now
    next_above before from all x forward = (
      λ le. (before from (first n from all) x forward).0 ((with from (last from all) x forward).0 le).0,
      λ h. (with from (last from all) x forward).1 ((before from (first n from all) x forward).1 (h.0, first n x h.1), last x h.1),
    )

  -- a search that leaves out some ends
  pub none_above : IsReachAbove p s prices change 0 max max
  none_above from all x forward = (λ le. le, λ h. h.0)

  pub skipped_above : (n : ℕ) (best : ℚ) → IsReachAbove p s prices change n max best → IsReachAbove p s prices change (n + 1) max best
  skipped_above n best before from all x forward = (
    (before from (first n from all) x forward).0,
    λ h. (before from (first n from all) x forward).1 (h.0, first n x h.1),
  )

  -- the reach from there is that from max
  pub reach_within : (n : ℕ) (best to : ℚ) → IsReachAbove p s prices change n max best → IsReachOf p s prices change n best to →
      IsReachOf p s prices change n max to
  reach_within n best to above reach from all x forward = (
    λ le. let both = (reach from all x forward).0 le in ((above from all x forward).0 both.0, both.1),
    λ h. (reach from all x forward).1 ((above from all x forward).1 h, h.1),
  )
