-- Where a variable stands after a length, against the limit ahead of it.
use Rattle.std.proofs.Common.{◌≡◌, ◌≢◌, ℕ, ◌+◌, ◌<◌, ◌≤◌, Bool, true, false, cond, refl, sym, ◌∙◌, ap, ap₂, subst, arith, add-one}
use Rattle.std.specs.Prelude.{Option, Some, None, IfSome, IsTrue, not, option_map}
use Rattle.exact_values.specs.Rational.{ℚ, zero_ℚ, neg_ℚ, ◌+ℚ◌, ◌-ℚ◌, ◌*ℚ◌, ◌/ℚ◌, ◌≤ℚ◌, ◌<ℚ◌}
use Rattle.exact_values.specs.Tests.{lt_ℚ, le_ℚ}
use Rattle.exact_values.proofs.Inverse.{same_quotients, div-mul_cancel}
use Rattle.exact_values.proofs.Order.{le_by_one, le_of_lt, lt_from_le, lt_of_not-le, lt_not_le, le-div, mul-le-mul_left, apart_from_above}
use Rattle.exact_values.proofs.Ring.{by_ring3, by_ring4, ◌⊖◌, ◌⊗◌, ◌⊕◌, ◌≐◌, opposite}
use Rattle.exact_values.proofs.RingLaws.{mul_comm}
use Rattle.exact_values.proofs.TestsLaws.{le_fails_from_lt, lt_from_test, le_from_lt_fails, test_from_le}
use Rattle.exact_values.proofs.Signs.{neg_above}
use Rattle.lp_definitions.specs.LinearProgram.{LinearProgram, Vector}
use Rattle.simplex_definitions.specs.Moves.{step_length, signed, is_no_later}
use Rattle.basis_values.specs.Motions.{motion}
use Rattle.basis_values.specs.Reach.{IsAhead, IsFirst, Reaches, Yields, reach_of, sooner}
use Rattle.basis_values.specs.declared.reach.Ahead.{Ahead}
use Rattle.basis_values.specs.declared.reach.Reach.{Reach}
use Rattle.basis_values.proofs.Lengths.{ahead_at, no_length}
use Rattle.basis_values.proofs.Nearest.{up_to}

fails : (b : Bool) → IsTrue (not b) → b ≡ false
fails true h = cc
fails false h = refl

-- what moves counts upward in its own direction
forward : (v : ℚ) → v ≢ zero_ℚ → zero_ℚ <ℚ signed (lt_ℚ zero_ℚ v) v
forward v moves = at (lt_ℚ zero_ℚ v) refl
  where
    at : (b : Bool) → lt_ℚ zero_ℚ v ≡ b → zero_ℚ <ℚ signed b v
    at true is = lt_from_test zero_ℚ v is
    at false is = neg_above v (lt_from_le (le_from_lt_fails zero_ℚ v is) moves)

turned_place : (rises : Bool) (z l v : ℚ) → signed rises (z +ℚ l *ℚ v) ≡ signed rises z +ℚ l *ℚ signed rises v
turned_place true z l v = refl
turned_place false z l v = by_ring3 z l v (λ z l v. opposite (z ⊕ l ⊗ v) ≐ opposite z ⊕ l ⊗ opposite v) refl

turned_quotient : (rises : Bool) (a b v : ℚ) → v ≢ zero_ℚ → zero_ℚ <ℚ signed rises v → (a -ℚ b) /ℚ v ≡ (signed rises a -ℚ signed rises b) /ℚ signed rises v
turned_quotient true a b v moves up = refl
turned_quotient false a b v moves up =
    same_quotients (a -ℚ b) v (neg_ℚ a -ℚ neg_ℚ b) (neg_ℚ v) moves (apart_from_above up)
    (by_ring3 a b v (λ a b v. (a ⊖ b) ⊗ opposite v ≐ (opposite a ⊖ opposite b) ⊗ v) refl)

-- what moves upward and hasn't passed the limit takes at least so long to reach it
no_sooner : (z limit v l : ℚ) → zero_ℚ <ℚ v → z +ℚ l *ℚ v ≤ℚ limit → l ≤ℚ (limit -ℚ z) /ℚ v
no_sooner z limit v l up h = le-div up (le_by_one h (by_ring4 z limit v l (λ z a v l. a ⊖ z ≐ l ⊗ v ⊕ (a ⊖ (z ⊕ l ⊗ v))) refl))

-- and longer where it hasn't reached it
later : (z limit v l : ℚ) → zero_ℚ <ℚ v → z +ℚ l *ℚ v <ℚ limit → l <ℚ (limit -ℚ z) /ℚ v
later z limit v l up h = lt_of_not-le reached
  where
    reached : (limit -ℚ z) /ℚ v ≤ℚ l → ⊥
    reached e =
        let distance : v *ℚ ((limit -ℚ z) /ℚ v) ≡ limit -ℚ z = mul_comm v ((limit -ℚ z) /ℚ v) ∙ div-mul_cancel (limit -ℚ z) v (apart_from_above up) in
        lt_not_le h (le_by_one (subst (λ x. x ≤ℚ v *ℚ l) distance (mul-le-mul_left (le_of_lt up) e))
        (by_ring4 z limit v l (λ z a v l. z ⊕ l ⊗ v ≐ a ⊕ (v ⊗ l ⊖ (a ⊖ z))) refl))

module _ (p : LinearProgram) (z d : Vector) (up : Bool) (k : ℕ) (r : Reach) (speed : ℚ) (speed_is : speed ≡ motion d up k) where
  by_step_length : (o : Option ℚ) → step_length p z (motion d up) k ≡ o → is_no_later (Some r.length) o ≡ true →
      (k < r.p → is_no_later o (Some r.length) ≡ false) → Yields (step_length p z (motion d up)) r k
  by_step_length o is first second = (ap (is_no_later (Some r.length)) is ∙ first, λ below. ap (λ x. is_no_later x (Some r.length)) is ∙ second below)

  -- what has no limit ahead
  pub none_yields : IsAhead p (λ _. speed) k None → Yields (step_length p z (motion d up)) r k
  none_yields h = by_step_length None (sym (no_length p z (motion d up) k (ahead_at p (motion d up) k speed None speed_is h))) refl (λ _. refl)

  module _ (a : Ahead) (value place : ℚ) (rises : Bool) (ahead : IsAhead p (λ _. speed) k (Some a)) (value_is : value ≡ z k)
      (place_is : place ≡ value +ℚ r.length *ℚ speed) (rises_is : rises ≡ lt_ℚ zero_ℚ speed) where
    toward : zero_ℚ <ℚ signed rises speed
    toward = subst (λ (b : Bool). zero_ℚ <ℚ signed b speed) (sym rises_is) (forward speed ahead.3)

    found : step_length p z (motion d up) k ≡ Some ((signed rises a.limit -ℚ signed rises value) /ℚ signed rises speed)
    found =
        ap (option_map (λ l. (l -ℚ z k) /ℚ motion d up k)) (ahead_at p (motion d up) k speed (Some a) speed_is ahead).0
        ∙ ap₂ (λ x y. Some ((a.limit -ℚ x) /ℚ y)) (sym value_is) (sym speed_is)
        ∙ ap Some (turned_quotient rises a.limit value speed ahead.3 toward)

    stands : signed rises place ≡ signed rises value +ℚ r.length *ℚ signed rises speed
    stands = ap (signed rises) place_is ∙ turned_place rises value r.length speed

    -- it hasn't reached the limit
    pub before_yields : (b : Bool) → b ≡ lt_ℚ (signed rises place) (signed rises a.limit) → IsTrue b → Yields (step_length p z (motion d up)) r k
    before_yields b is holds =
        let less =
        later (signed rises value) (signed rises a.limit) (signed rises speed) r.length toward
        (subst (λ x. x <ℚ signed rises a.limit) stands (lt_from_test (signed rises place) (signed rises a.limit) (sym is ∙ holds))) in
        by_step_length _ found (test_from_le _ _ (le_of_lt less)) (λ _. le_fails_from_lt _ _ less)

    -- it hasn't passed the limit, and its number is not the smaller one
    pub within_yields : r.p ≤ k → (b : Bool) → b ≡ lt_ℚ (signed rises a.limit) (signed rises place) → IsTrue (not b) →
        Yields (step_length p z (motion d up)) r k
    within_yields not_smaller b is holds =
        let least =
        no_sooner (signed rises value) (signed rises a.limit) (signed rises speed) r.length toward
        (subst (λ x. x ≤ℚ signed rises a.limit) stands (le_from_lt_fails (signed rises a.limit) (signed rises place) (sym is ∙ fails b holds))) in
        by_step_length _ found (test_from_le _ _ least) (λ below. absurd (omega (arith, not_smaller, below)))

-- ---- what all others yield to is the first

module _ (f : ℕ → Option ℚ) (n : ℕ) where
  pub sooner_reaches : (k : ℕ) (nearest : Option Reach) (length : Option ℚ) → 1 ≤ k → k ≤ n → length ≡ f k → IfSome nearest (Reaches f n) →
      IfSome (sooner nearest length k) (Reaches f n)
  sooner_reaches k None None low high is h = tt
  sooner_reaches k (Some r) None low high is h = h
  sooner_reaches k None (Some l) low high is h = (low, high, sym is)
  sooner_reaches k (Some r) (Some l) low high is h = at (le_ℚ r.length l)
    where
      at : (b : Bool) → IfSome (cond b (Some r) (Some (reach_of k l))) (Reaches f n)
      at true = h
      at false = (low, high, sym is)

  pub all_yield : (r : Reach) → Reaches f n r → ((i : ℕ) → 1 ≤ i → i ≤ n → Yields f r i) → IsFirst f n r
  all_yield r h all = record {
    low = h.0;
    high = h.1;
    reaches = h.2;
    first = λ i low high. ap (λ o. is_no_later o (f i)) h.2 ∙ (all i low high).0;
    later = λ j low below. ap (is_no_later (f j)) h.2 ∙ (all j low (omega (arith, below, h.1))).1 below;
  }

  pub yields_more : (r : Reach) → ((i : ℕ) → 1 ≤ i → i ≤ n → Yields f r i) → Yields f r (n + 1) → (i : ℕ) → 1 ≤ i → i ≤ n + 1 → Yields f r i
  yields_more r before here i low high = up_to (Yields f r) n before (subst (Yields f r) (add-one n) here) i low (omega (arith, high))
