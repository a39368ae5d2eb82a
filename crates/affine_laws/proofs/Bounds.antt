-- Bounds and the ends that they make.
use Rattle.std.proofs.Common.{◌≡◌, ◌≢◌, refl, sym, subst, subst₂, ◌⊎◌, inl, inr, Bool, true, false, Option, Some, None, ◌∙◌}
use Rattle.std.specs.Prelude.{◌↔◌, not, cond}
use Rattle.std.proofs.lemmas.Bool.{both_ways}
use Rattle.exact_values.specs.Rational.{ℚ, zero_ℚ, neg_ℚ, ◌*ℚ◌, ◌/ℚ◌, ◌≤ℚ◌, ◌<ℚ◌}
use Rattle.exact_values.specs.Tests.{lt_ℚ}
use Rattle.exact_values.proofs.Inverse.{div-mul_cancel}
use Rattle.exact_values.proofs.Order.{le_trans, lt_from_le, lt_or_le, le_by_one, le_of_lt, le_of_mul-le-mul_left, mul-le-mul_left}
use Rattle.exact_values.proofs.Ring.{by_ring3, number, opposite, ◌⊕◌, ◌⊖◌, ◌⊗◌, ◌≐◌}
use Rattle.exact_values.proofs.RingLaws.{mul_comm}
use Rattle.exact_values.proofs.TestsLaws.{lt_from_test, le_from_lt_fails}
use Rattle.exact_values.proofs.Signs.{neg_above}
use Rattle.affine_laws.specs.Ends.{MeetsBy, Meets, is_high, end_of, IsOnSide, IsBefore, IsNearer, IsTightened}
use Rattle.affine_laws.specs.declared.tightening.ProductBound.{ProductBound}
use Rattle.affine_laws.specs.declared.tightening.Endpoint.{Endpoint}
use Rattle.affine_laws.specs.declared.tightening.Ends.{Ends}

-- ---- products and factors

-- by a positive slope products are as their factors
up_to : (b x q : ℚ) → zero_ℚ <ℚ b → (x *ℚ b ≤ℚ q *ℚ b) ↔ (x ≤ℚ q)
up_to b x q positive = (
  λ h. le_of_mul-le-mul_left positive (subst₂ ◌≤ℚ◌ (mul_comm x b) (mul_comm q b) h),
  λ h. subst₂ ◌≤ℚ◌ (mul_comm b x) (mul_comm b q) (mul-le-mul_left (le_of_lt positive) h),
)

-- by a negative one the other way round
down_to : (b x q : ℚ) → b <ℚ zero_ℚ → (x *ℚ b ≤ℚ q *ℚ b) ↔ (q ≤ℚ x)
down_to b x q negative = (
  λ h. (up_to (neg_ℚ b) q x (neg_above b negative)).0 (le_by_product_of h),
  λ h. from_product ((up_to (neg_ℚ b) q x (neg_above b negative)).1 h),
)
  where
    le_by_product_of : x *ℚ b ≤ℚ q *ℚ b → q *ℚ neg_ℚ b ≤ℚ x *ℚ neg_ℚ b
    le_by_product_of h = le_by_one h (by_ring3 b x q (λ b x q. x ⊗ opposite b ≐ q ⊗ opposite b ⊕ (q ⊗ b ⊖ x ⊗ b)) refl)

    from_product : q *ℚ neg_ℚ b ≤ℚ x *ℚ neg_ℚ b → x *ℚ b ≤ℚ q *ℚ b
    from_product h = le_by_one h (by_ring3 b x q (λ b x q. q ⊗ b ≐ x ⊗ b ⊕ (x ⊗ opposite b ⊖ q ⊗ opposite b)) refl)

-- a bound is met on one side of its end
meets_side : (b : ProductBound) → b.slope ≢ zero_ℚ → (x : ℚ) → Meets b x ↔ IsOnSide (is_high b) (b.number /ℚ b.slope) x
meets_side b apart x =
    subst (λ n. MeetsBy b.at_most (x *ℚ b.slope) n ↔ IsOnSide (is_high b) (b.number /ℚ b.slope) x) (div-mul_cancel b.number b.slope apart)
    (at (lt_ℚ zero_ℚ b.slope) refl b.at_most)
  where
    negative : lt_ℚ zero_ℚ b.slope ≡ false → b.slope <ℚ zero_ℚ
    negative e = lt_from_le (le_from_lt_fails zero_ℚ b.slope e) apart

    at : (rises : Bool) → lt_ℚ zero_ℚ b.slope ≡ rises → (most : Bool)
        → MeetsBy most (x *ℚ b.slope) (b.number /ℚ b.slope *ℚ b.slope) ↔ IsOnSide (cond rises most (not most)) (b.number /ℚ b.slope) x
    at true e true = up_to b.slope x (b.number /ℚ b.slope) (lt_from_test zero_ℚ b.slope e)
    at true e false = up_to b.slope (b.number /ℚ b.slope) x (lt_from_test zero_ℚ b.slope e)
    at false e true = down_to b.slope x (b.number /ℚ b.slope) (negative e)
    at false e false = down_to b.slope (b.number /ℚ b.slope) x (negative e)

-- ---- the nearer of two ends

side_trans : (high : Bool) (p q x : ℚ) → IsOnSide high q p → IsOnSide high p x → IsOnSide high q x
side_trans true p q x h k = le_trans k h
side_trans false p q x h k = le_trans h k

side_total : (high : Bool) (p q : ℚ) → (IsOnSide high q p → ⊥) → IsOnSide high p q
side_total true p q h = at (lt_or_le p q)
  where
    at : (p <ℚ q) ⊎ (q ≤ℚ p) → q ≤ℚ p
    at (inl lt) = absurd (h (le_of_lt lt))
    at (inr le) = le
side_total false p q h = at (lt_or_le q p)
  where
    at : (q <ℚ p) ⊎ (p ≤ℚ q) → p ≤ℚ q
    at (inl lt) = absurd (h (le_of_lt lt))
    at (inr le) = le

module _ (high : Bool) (b : ProductBound) (apart : b.slope ≢ zero_ℚ) (side : high ≡ is_high b) where
  meets_here : (x : ℚ) → Meets b x ↔ IsOnSide high (b.number /ℚ b.slope) x
  meets_here x = subst (λ h. Meets b x ↔ IsOnSide h (b.number /ℚ b.slope) x) (sym side) (meets_side b apart x)

  first_there : (x : ℚ) → IsOnSide high (b.number /ℚ b.slope) x ↔ (IsBefore high None x × Meets b x)
  first_there x = (λ h. (tt, (meets_here x).1 h), λ h. (meets_here x).0 h.1)

  pub first_end : (kept : Option Endpoint) → kept ≡ None → (made : Endpoint) → made ≡ end_of b → IsNearer high b kept (Some made)
  first_end kept none made is = subst₂ (λ k m. IsNearer high b k (Some m)) (sym none) (sym is) (record { exact = first_there; either = inr refl })

  -- the earlier end is on the side of the bound's
  kept_there : (present : Endpoint) → IsOnSide high (b.number /ℚ b.slope) present.value → IsNearer high b (Some present) (Some present)
  kept_there present within = record {
    exact = λ x. (λ h. (h, (meets_here x).1 (side_trans high present.value (b.number /ℚ b.slope) x within h)), λ h. h.0);
    either = inl refl;
  }

  pub kept_end : (kept : Option Endpoint) (present : Endpoint) → kept ≡ Some present → Meets b present.value → IsNearer high b kept (Some present)
  kept_end kept present is meets = subst (λ k. IsNearer high b k (Some present)) (sym is) (kept_there present ((meets_here present.value).0 meets))

  pub kept_before : (kept : Option Endpoint) (present : Endpoint) → kept ≡ Some present → (made : Endpoint) → made ≡ end_of b →
      IsOnSide high made.value present.value → IsNearer high b kept (Some present)
  kept_before kept present is made made_is within =
      subst (λ k. IsNearer high b k (Some present)) (sym is) (kept_there present (subst (λ (m : Endpoint). IsOnSide high m.value present.value) made_is within))

  made_there : (present : Endpoint) → IsOnSide high present.value (b.number /ℚ b.slope) → IsNearer high b (Some present) (Some (end_of b))
  made_there present within = record {
    exact = λ x. (λ h. (side_trans high (b.number /ℚ b.slope) present.value x within h, (meets_here x).1 h), λ h. (meets_here x).0 h.1);
    either = inr refl;
  }

  pub made_end : (kept : Option Endpoint) (present : Endpoint) → kept ≡ Some present → (made : Endpoint) → made ≡ end_of b → (test : Bool) → test ≡ false →
      (IsOnSide high made.value present.value → test ≡ true) → IsNearer high b kept (Some made)
  made_end kept present is made made_is test fails reported =
      subst₂ (λ k m. IsNearer high b k (Some m)) (sym is) (sym made_is)
      (made_there present
      (subst (λ (m : Endpoint). IsOnSide high present.value m.value) made_is
      (side_total high present.value made.value (λ h. both_ways _ fails (reported h)))))

-- ---- an interval

pub high_tightened : (ends : Ends) (b : ProductBound) (high : Option Endpoint) → IsNearer true b ends.high high →
    IsTightened ends b (record { low = ends.low; high = high })
high_tightened ends b high near = record {
  exact = λ x. (λ h. let k = (near.exact x).0 h.1 in ((h.0, k.0), k.1), λ h. (h.0.0, (near.exact x).1 (h.0.1, h.1)));
  low = inl refl;
  high = near.either;
}

pub low_tightened : (ends : Ends) (b : ProductBound) (low : Option Endpoint) → IsNearer false b ends.low low →
    IsTightened ends b (record { low = low; high = ends.high })
low_tightened ends b low near = record {
  exact = λ x. (λ h. let k = (near.exact x).0 h.0 in ((k.0, h.1), k.1), λ h. ((near.exact x).1 (h.0.0, h.1), h.0.1));
  low = near.either;
  high = inl refl;
}
