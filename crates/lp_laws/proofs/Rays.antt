-- The multipliers of a basic's row are a ray where its variable is outside its limits and no nonbasic can bring it back.
use Rattle.std.proofs.Common.{◌≡◌, ◌≢◌, ℕ, zero, suc, ◌<◌, pos, refl, sym, ◌∙◌, ap, subst, Some, Bool, true, false, cond, ◌⊎◌, inl, inr, arith}
use Rattle.std.specs.Prelude.{IsSome, unwrap_or}
use native.Mathlib.Decide.{ℕ_discrete}
use Rattle.exact_values.specs.Rational.{ℚ, zero_ℚ, ◌+ℚ◌, ◌*ℚ◌, ◌<ℚ◌, ◌≤ℚ◌}
use Rattle.exact_values.specs.Tests.{lt_ℚ}
use Rattle.exact_values.specs.Sums.{sum_to, without}
use Rattle.exact_values.proofs.Ring.{by_ring3, number, ◌⊕◌, ◌⊖◌, ◌⊗◌, ◌≐◌}
use Rattle.exact_values.proofs.RingLaws.{zero-mul}
use Rattle.exact_values.proofs.Order.{lt_or_le, le_antisymm, lt_irrefl, lt_by_one, lt_by_product, le_of_lt, lt_of_lt_of_le, mul-lt-mul_left}
use Rattle.exact_values.proofs.Sums.{sum_to-same, sum_to-without, without_same, without_other}
use Rattle.lp_definitions.specs.LinearProgram.{LinearProgram, Vector, size, lower_of, upper_of, IsColumn, IsVariable, KeepsEquations}
use Rattle.lp_definitions.specs.Solutions.{IsRay, limit_against}
use Rattle.lp_laws.specs.Vectors.{column_value}
use Rattle.lp_laws.proofs.Duality.{vanishes_by_columns, test_of_below, below_of_test}

lt_trans : {x y z : ℚ} → x <ℚ y → y <ℚ z → x <ℚ z
lt_trans first second = lt_of_lt_of_le first (le_of_lt second)

-- the limit that a multiplier meets, by its sign
pub limit_of_positive : (p : LinearProgram) (w : Vector) (k : ℕ) → zero_ℚ <ℚ w k → limit_against p w k ≡ upper_of p k
limit_of_positive p w k positive = ap (λ t. cond t (upper_of p k) (lower_of p k)) (test_of_below positive)

pub limit_of_negative : (p : LinearProgram) (w : Vector) (k : ℕ) → w k <ℚ zero_ℚ → limit_against p w k ≡ lower_of p k
limit_of_negative p w k negative = at (lt_ℚ zero_ℚ (w k)) refl
  where
    at : (test : Bool) → lt_ℚ zero_ℚ (w k) ≡ test → cond test (upper_of p k) (lower_of p k) ≡ lower_of p k
    at true is = absurd (lt_irrefl (lt_trans negative (below_of_test is)))
    at false is = refl

module _ (p : LinearProgram) (w z : Vector) (r : ℕ) (is_r : IsVariable p.matrix r)
    (vanishes : (j : ℕ) → IsColumn p.matrix j → column_value p.matrix w j ≡ zero_ℚ) (keeps : KeepsEquations p.matrix z)
    (at_upper : (k : ℕ) → IsVariable p.matrix k → k ≢ r → zero_ℚ <ℚ w k → upper_of p k ≡ Some (z k))
    (at_lower : (k : ℕ) → IsVariable p.matrix k → k ≢ r → w k <ℚ zero_ℚ → lower_of p k ≡ Some (z k)) where
  -- a multiplier times its limit is, at each variable but r, the multiplier times the value there
  met_is : (k : ℕ) → IsVariable p.matrix k → k ≢ r → w k *ℚ unwrap_or (limit_against p w k) zero_ℚ ≡ w k *ℚ z k
  met_is k is other = at (lt_or_le zero_ℚ (w k)) (lt_or_le (w k) zero_ℚ)
    where
      at : (zero_ℚ <ℚ w k) ⊎ (w k ≤ℚ zero_ℚ) → (w k <ℚ zero_ℚ) ⊎ (zero_ℚ ≤ℚ w k) → w k *ℚ unwrap_or (limit_against p w k) zero_ℚ ≡ w k *ℚ z k
      at (inl positive) _ = ap (λ o. w k *ℚ unwrap_or o zero_ℚ) (limit_of_positive p w k positive ∙ at_upper k is other positive)
      at _ (inl negative) = ap (λ o. w k *ℚ unwrap_or o zero_ℚ) (limit_of_negative p w k negative ∙ at_lower k is other negative)
      at (inr none) (inr some) =
          let nothing : w k ≡ zero_ℚ = le_antisymm none some in
          ap (λ x. x *ℚ unwrap_or (limit_against p w k) zero_ℚ) nothing ∙ zero-mul (unwrap_or (limit_against p w k) zero_ℚ) ∙ sym (zero-mul (z k))
          ∙ ap (λ x. x *ℚ z k) (sym nothing)

  -- so the sum of the limits is below that of the values, which is 0, if it is below at r
  negative_sum : w r *ℚ unwrap_or (limit_against p w r) zero_ℚ <ℚ w r *ℚ z r →
      sum_to (size p.matrix) (λ k. w (suc k) *ℚ unwrap_or (limit_against p w (suc k)) zero_ℚ) <ℚ zero_ℚ
  negative_sum below = at r refl
    where
      at : (n : ℕ) → n ≡ r → sum_to (size p.matrix) (λ k. w (suc k) *ℚ unwrap_or (limit_against p w (suc k)) zero_ℚ) <ℚ zero_ℚ
      at zero is = absurd (omega (arith, is, is_r.0))
      at (suc n) is =
          let within : n < size p.matrix = omega (arith, is, is_r.1) in
          let limits : ℕ → ℚ = λ k. w (suc k) *ℚ unwrap_or (limit_against p w (suc k)) zero_ℚ in
          let values : ℕ → ℚ = λ k. w (suc k) *ℚ z (suc k) in
          let rest : sum_to (size p.matrix) (without n limits) ≡ sum_to (size p.matrix) (without n values) =
          sum_to-same (size p.matrix) (without n limits) (without n values) (λ k less. elsewhere n is k less (ℕ_discrete k n)) in
          let total : w r *ℚ z r +ℚ sum_to (size p.matrix) (without n values) ≡ zero_ℚ =
          ap (λ i. w i *ℚ z i +ℚ sum_to (size p.matrix) (without n values)) (sym is) ∙ sym (sum_to-without (size p.matrix) n values within)
          ∙ vanishes_by_columns p.matrix w vanishes z keeps in
          let here : sum_to (size p.matrix) limits ≡ w r *ℚ unwrap_or (limit_against p w r) zero_ℚ +ℚ sum_to (size p.matrix) (without n values) =
          sum_to-without (size p.matrix) n limits within ∙ ap (λ s. limits n +ℚ s) rest
          ∙ ap (λ i. w i *ℚ unwrap_or (limit_against p w i) zero_ℚ +ℚ sum_to (size p.matrix) (without n values)) is in
          subst (λ s. s <ℚ zero_ℚ) (sym here)
          (subst (λ s. w r *ℚ unwrap_or (limit_against p w r) zero_ℚ +ℚ sum_to (size p.matrix) (without n values) <ℚ s) total
          (lt_by_one below
          (by_ring3 (w r *ℚ unwrap_or (limit_against p w r) zero_ℚ) (w r *ℚ z r) (sum_to (size p.matrix) (without n values))
          (λ l v s. v ⊕ s ≐ l ⊕ s ⊕ (v ⊖ l)) refl)))
        where
          elsewhere : (n : ℕ) → suc n ≡ r → (k : ℕ) → k < size p.matrix → Dec (k ≡ n)
              → without n (λ k. w (suc k) *ℚ unwrap_or (limit_against p w (suc k)) zero_ℚ) k ≡ without n (λ k. w (suc k) *ℚ z (suc k)) k
          elsewhere n is k less (yes same) =
              without_same n k (λ k. w (suc k) *ℚ unwrap_or (limit_against p w (suc k)) zero_ℚ) same ∙ sym (without_same n k (λ k. w (suc k) *ℚ z (suc k)) same)
          elsewhere n is k less (no other) =
              without_other n k (λ k. w (suc k) *ℚ unwrap_or (limit_against p w (suc k)) zero_ℚ) other
              ∙ met_is (suc k) (omega arith, omega (arith, less)) (λ e. other (omega (arith, e, is)))
              ∙ sym (without_other n k (λ k. w (suc k) *ℚ z (suc k)) other)

  -- above its upper limit
  pub ray_above : (u : ℚ) → zero_ℚ <ℚ w r → upper_of p r ≡ Some u → u <ℚ z r → IsRay p w
  ray_above u positive limit above = record {
    vanishes = vanishes;
    meets_upper = λ k is sign. at_r_or_else k is sign (ℕ_discrete k r);
    meets_lower = λ k is sign. not_r k is sign (ℕ_discrete k r);
    negative =
        negative_sum (subst (λ o. w r *ℚ unwrap_or o zero_ℚ <ℚ w r *ℚ z r) (sym (limit_of_positive p w r positive ∙ limit)) (mul-lt-mul_left positive above));
  }
    where
      at_r_or_else : (k : ℕ) → IsVariable p.matrix k → zero_ℚ <ℚ w k → Dec (k ≡ r) → IsSome (upper_of p k)
      at_r_or_else k is sign (yes same) = rw (same, limit) refl
      at_r_or_else k is sign (no other) = rw (at_upper k is other sign) refl

      not_r : (k : ℕ) → IsVariable p.matrix k → w k <ℚ zero_ℚ → Dec (k ≡ r) → IsSome (lower_of p k)
      not_r k is sign (yes same) = absurd (lt_irrefl (lt_trans positive (subst (λ i. w i <ℚ zero_ℚ) same sign)))
      not_r k is sign (no other) = rw (at_lower k is other sign) refl

  -- below its lower limit
  pub ray_below : (l : ℚ) → w r <ℚ zero_ℚ → lower_of p r ≡ Some l → z r <ℚ l → IsRay p w
  ray_below l negative limit below = record {
    vanishes = vanishes;
    meets_upper = λ k is sign. not_r k is sign (ℕ_discrete k r);
    meets_lower = λ k is sign. at_r_or_else k is sign (ℕ_discrete k r);
    negative = negative_sum (subst (λ o. w r *ℚ unwrap_or o zero_ℚ <ℚ w r *ℚ z r) (sym (limit_of_negative p w r negative ∙ limit))
        (lt_by_product negative below (by_ring3 (w r) (z r) l (λ w z l. w ⊗ z ≐ w ⊗ l ⊕ (number (pos 0) ⊖ w) ⊗ (l ⊖ z)) refl)));
  }
    where
      at_r_or_else : (k : ℕ) → IsVariable p.matrix k → w k <ℚ zero_ℚ → Dec (k ≡ r) → IsSome (lower_of p k)
      at_r_or_else k is sign (yes same) = rw (same, limit) refl
      at_r_or_else k is sign (no other) = rw (at_lower k is other sign) refl

      not_r : (k : ℕ) → IsVariable p.matrix k → zero_ℚ <ℚ w k → Dec (k ≡ r) → IsSome (upper_of p k)
      not_r k is sign (yes same) = absurd (lt_irrefl (lt_trans negative (subst (λ i. zero_ℚ <ℚ w i) same sign)))
      not_r k is sign (no other) = rw (at_upper k is other sign) refl
