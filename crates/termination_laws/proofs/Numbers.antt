-- Searches over the numbers, and the signs of products and sums.
use Rattle.std.proofs.Common.{◌≡◌, ◌≢◌, ℕ, zero, suc, ◌<◌, ◌≤◌, ◌⊎◌, inl, inr, Bool, true, false, pos, refl, sym, ap, ◌∙◌, arith, cond}
use Rattle.std.specs.Prelude.{Some, find, eqb}
use Rattle.std.proofs.lemmas.Bool.Decides.{eqb_tells}
use Rattle.exact_values.specs.Rational.{ℚ, zero_ℚ, neg_ℚ, ◌*ℚ◌, ◌≤ℚ◌, ◌<ℚ◌}
use Rattle.exact_values.specs.Sums.{sum_to}
use Rattle.exact_values.proofs.Ring.{by_ring2, ◌⊕◌, ◌⊖◌, ◌⊗◌, ◌≐◌, number, opposite}
use Rattle.exact_values.proofs.RingLaws.{zero-mul, mul-zero}
use Rattle.exact_values.proofs.Order.{le_of_eq, le_total, lt_from_le, le_by_product, same_or_not}
use Rattle.exact_values.proofs.Sums.{sum_to-same, sum_to-neg}
use Rattle.lp_definitions.specs.LinearProgram.{numbers_from, for_min}
use Rattle.lp_definitions.specs.declared.Sense.{Sense}
use Rattle.lp_definitions.specs.declared.Sense.TheVariants.{Min, Max}
use Rattle.simplex_definitions.specs.Moves.{signed}

module _ (test : ℕ → Bool) where
  -- no number before the one that is found passes
  pub find_before : (n first k : ℕ) → find test (numbers_from first n) ≡ Some k → (j : ℕ) → first ≤ j → j < k → test j ≡ false
  find_before zero first k e j low high = cc
  find_before (suc n) first k e j low high = by_test (test first) refl e (find_before n (suc first) k)
    where
      Rest : Type 0
      Rest = find test (numbers_from (suc first) n) ≡ Some k → (j : ℕ) → suc first ≤ j → j < k → test j ≡ false

      by_test : (b : Bool) → test first ≡ b → cond b (Some first) (find test (numbers_from (suc first) n)) ≡ Some k → Rest → test j ≡ false
      by_test true is e rest = let same : first ≡ k = cc in absurd (omega (arith, same, low, high))
      by_test false is e rest = at (eqb_tells j first)
        where
          at : (((eqb j first ≡ true) × (j ≡ first)) ⊎ ((eqb j first ≡ false) × (j ≢ first))) → test j ≡ false
          at (inl same) = ap test same.1 ∙ is
          at (inr other) = rest e j (omega (arith, other.1, low)) high

-- a variable that moves at the speed d doesn't lower a quantity that has the rate w there
pub record Against (w d : ℚ) : Type 0 where
  pub rising : w <ℚ zero_ℚ → d ≤ℚ zero_ℚ
  pub falling : zero_ℚ <ℚ w → zero_ℚ ≤ℚ d

pub against_product : (w d : ℚ) → Against w d → zero_ℚ ≤ℚ d *ℚ w
against_product w d h = by_zero (same_or_not w zero_ℚ)
  where
    by_order : w ≢ zero_ℚ → ((w ≤ℚ zero_ℚ) ⊎ (zero_ℚ ≤ℚ w)) → zero_ℚ ≤ℚ d *ℚ w
    by_order apart (inl low) =
        le_by_product low (h.rising (lt_from_le low apart)) (by_ring2 w d (λ w d. d ⊗ w ≐ number (pos 0) ⊕ (number (pos 0) ⊖ w) ⊗ (number (pos 0) ⊖ d)) refl)
    by_order apart (inr high) =
        le_by_product high (h.falling (lt_from_le high (λ e. apart (sym e))))
        (by_ring2 w d (λ w d. d ⊗ w ≐ number (pos 0) ⊕ (w ⊖ number (pos 0)) ⊗ (d ⊖ number (pos 0))) refl)

    by_zero : ((w ≡ zero_ℚ) ⊎ (w ≢ zero_ℚ)) → zero_ℚ ≤ℚ d *ℚ w
    by_zero (inl same) = le_of_eq (sym (ap (λ x. d *ℚ x) same ∙ mul-zero d))
    by_zero (inr apart) = by_order apart (le_total w zero_ℚ)

pub still_product : (w d : ℚ) → d ≡ zero_ℚ → zero_ℚ ≤ℚ d *ℚ w
still_product w d e = le_of_eq (sym (ap (λ x. x *ℚ w) e ∙ zero-mul w))

-- a basic counts for nothing
pub weighed : (mark : Bool) (d w : ℚ) → (mark ≡ false → zero_ℚ ≤ℚ d *ℚ w) → zero_ℚ ≤ℚ cond mark zero_ℚ d *ℚ w
weighed true d w h = le_of_eq (sym (zero-mul w))
weighed false d w h = h refl

-- signs of sums of products
pub signed_sum : (up : Bool) (n : ℕ) (x f : ℕ → ℚ) → signed up (sum_to n (λ k. x k *ℚ f k)) ≡ sum_to n (λ k. x k *ℚ signed up (f k))
signed_sum true n x f = refl
signed_sum false n x f =
    sym (sum_to-neg n (λ k. x k *ℚ f k))
    ∙ sum_to-same n (λ k. neg_ℚ (x k *ℚ f k)) (λ k. x k *ℚ neg_ℚ (f k)) (λ k below. by_ring2 (x k) (f k) (λ x f. opposite (x ⊗ f) ≐ x ⊗ opposite f) refl)

pub for_min_sum : (sense : Sense) (n : ℕ) (x f : ℕ → ℚ) → for_min sense (sum_to n (λ k. x k *ℚ f k)) ≡ sum_to n (λ k. x k *ℚ for_min sense (f k))
for_min_sum Min n x f = refl
for_min_sum Max n x f = signed_sum false n x f
