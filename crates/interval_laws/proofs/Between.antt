-- What is best and proved at both ends of an interval is so between them, in every family whose limits and costs are linear in the
-- parameter.
use Rattle.std.proofs.Common.{◌≡◌, ◌+◌, ℕ, suc, List, refl, sym, ap, subst, ◌∙◌}
use Rattle.std.specs.Prelude.{Option, Some, IfSome}
use Rattle.exact_values.specs.Rational.{ℚ, zero_ℚ, ◌+ℚ◌, ◌-ℚ◌, ◌*ℚ◌, ◌≤ℚ◌, ◌<ℚ◌}
use Rattle.exact_values.specs.Sums.{sum_to, sum_up_to}
use Rattle.exact_values.proofs.Ring.{by_ring2, by_ring4, by_ring5, ◌⊕◌, ◌⊖◌, ◌⊗◌, ◌≐◌}
use Rattle.exact_values.proofs.Sums.{sum_to-same, sum_to-add, sum_to-mul_left}
use Rattle.lp_definitions.specs.LinearProgram.{Matrix, LinearProgram, Vector, IsVariable, IsColumn, IsLinearProgram, KeepsEquations, entry, cost, lower_of}
use Rattle.lp_definitions.specs.LinearProgram.{upper_of, for_min}
use Rattle.lp_definitions.specs.Solutions.{IsFeasible, IsDualCertificate}
use Rattle.lp_definitions.specs.declared.Change.{Change}
use Rattle.lp_laws.specs.Vectors.{along}
use Rattle.lp_laws.proofs.Duality.{best_by_prices}
use Rattle.sensitivity_laws.proofs.MovedLimits.{moved}
use Rattle.sensitivity_laws.proofs.Signs.{for_min-add}
use Rattle.parametric_laws.specs.Truth.{IsBestBy}
use Rattle.interval_laws.specs.Laws.{StandAtBoth}
use Rattle.interval_laws.proofs.Affine.{same_between, positive_at, negative_at}
use Rattle.interval_laws.proofs.Limits.{above_between, below_between, stands_between}

-- the sum of multiples of a vector that is linear in theta
sum_along : (n : ℕ) (e v r : ℕ → ℚ) (theta : ℚ) →
    sum_up_to n (λ j. e j *ℚ (v j +ℚ theta *ℚ r j)) ≡ sum_up_to n (λ j. e j *ℚ v j) +ℚ theta *ℚ sum_up_to n (λ j. e j *ℚ r j)
sum_along n e v r theta =
    sum_to-same n (λ k. e (suc k) *ℚ (v (suc k) +ℚ theta *ℚ r (suc k))) (λ k. e (suc k) *ℚ v (suc k) +ℚ theta *ℚ (e (suc k) *ℚ r (suc k)))
    (λ k _. by_ring4 (e (suc k)) (v (suc k)) theta (r (suc k)) (λ e v t r. e ⊗ (v ⊕ t ⊗ r) ≐ e ⊗ v ⊕ t ⊗ (e ⊗ r)) refl)
    ∙ sum_to-add n (λ k. e (suc k) *ℚ v (suc k)) (λ k. theta *ℚ (e (suc k) *ℚ r (suc k)))
    ∙ ap (λ s. sum_to n (λ k. e (suc k) *ℚ v (suc k)) +ℚ s) (sum_to-mul_left n theta (λ k. e (suc k) *ℚ r (suc k)))

keeps_between : (a : Matrix) (v r : Vector) (from x to : ℚ) → from ≤ℚ x → x ≤ℚ to →
    KeepsEquations a (along v from r) → KeepsEquations a (along v to r) → KeepsEquations a (along v x r)
keeps_between a v r from x to after before first last i is =
    same_between from x to after before (v i) (r i) (row v) (row r) (first i is ∙ sums from) (last i is ∙ sums to) ∙ sym (sums x)
  where
    row : Vector → ℚ
    row z = sum_up_to a.cols (λ j. entry a i j *ℚ z (a.rows + j))

    sums : (theta : ℚ) → sum_up_to a.cols (λ j. entry a i j *ℚ along v theta r (a.rows + j)) ≡ row v +ℚ theta *ℚ row r
    sums theta = sum_along a.cols (λ j. entry a i j) (λ j. v (a.rows + j)) (λ j. r (a.rows + j)) theta

-- ---- families

-- p with other limits and another change row
abbrev pub member : LinearProgram → (ℚ → List (Option ℚ)) → (ℚ → List (Option ℚ)) → (ℚ → Option Change) → ℚ → LinearProgram
member p lows highs change theta = record p { lower = lows theta; upper = highs theta; change = change theta }

-- each limit moves by theta times its slope, and each cost grows by theta times its growth
pub record IsLinearIn (p : LinearProgram) (family : ℚ → LinearProgram) (slope base growth : Vector) : Type 0 where
  pub low : (theta : ℚ) (k : ℕ) → IsVariable p.matrix k → lower_of (family theta) k ≡ moved theta (slope k) (lower_of p k)
  pub high : (theta : ℚ) (k : ℕ) → IsVariable p.matrix k → upper_of (family theta) k ≡ moved theta (slope k) (upper_of p k)
  pub costs : (theta : ℚ) (j : ℕ) → cost (family theta) j ≡ base j +ℚ theta *ℚ growth j

module _ (p : LinearProgram) (lows highs : ℚ → List (Option ℚ)) (change : ℚ → Option Change) (slope base growth : Vector) where
  abbrev family : ℚ → LinearProgram
  family theta = member p lows highs change theta

  module _ (linear : IsLinearIn p (member p lows highs change) slope base growth) (v r q w : Vector) where
    -- the cost of a column less the prices times its numbers
    reduced_at : (j : ℕ) (theta : ℚ) →
        cost (family theta) j -ℚ sum_up_to p.rows (λ i. along q theta w i *ℚ entry p.matrix i j)
        ≡ (base j -ℚ sum_up_to p.rows (λ i. entry p.matrix i j *ℚ q i)) +ℚ theta *ℚ (growth j -ℚ sum_up_to p.rows (λ i. entry p.matrix i j *ℚ w i))
    reduced_at j theta =
        ap (λ c. c -ℚ sum_up_to p.rows (λ i. along q theta w i *ℚ entry p.matrix i j)) (linear.costs theta j)
        ∙ ap (λ s. (base j +ℚ theta *ℚ growth j) -ℚ s)
        (sum_to-same p.rows (λ k. along q theta w (suc k) *ℚ entry p.matrix (suc k) j) (λ k. entry p.matrix (suc k) j *ℚ along q theta w (suc k))
        (λ k _. by_ring2 (along q theta w (suc k)) (entry p.matrix (suc k) j) (λ m e. m ⊗ e ≐ e ⊗ m) refl)
        ∙ sum_along p.rows (λ i. entry p.matrix i j) q w theta)
        ∙ by_ring5 (base j) (growth j) (sum_up_to p.rows (λ i. entry p.matrix i j *ℚ q i)) (sum_up_to p.rows (λ i. entry p.matrix i j *ℚ w i)) theta
        (λ c g s t x. (c ⊕ x ⊗ g) ⊖ (s ⊕ x ⊗ t) ≐ (c ⊖ s) ⊕ x ⊗ (g ⊖ t)) refl

    module _ (from x to : ℚ) (after : from ≤ℚ x) (before : x ≤ℚ to)
        (first : IsBestBy (family from) (along v from r) (along q from w)) (last : IsBestBy (family to) (along v to r) (along q to w))
        (first_prices : StandAtBoth (family from) (family to) (along v from r) (along v to r) (along q from w))
        (last_prices : StandAtBoth (family from) (family to) (along v from r) (along v to r) (along q to w)) where
      above : (theta : ℚ) → IsFeasible (family theta) (along v theta r) → (k : ℕ) → IsVariable p.matrix k →
          IfSome (moved theta (slope k) (lower_of p k)) (λ l. l ≤ℚ along v theta r k)
      above theta feasible k is = subst (λ low. IfSome low (λ l. l ≤ℚ along v theta r k)) (linear.low theta k is) (feasible.within k is).0

      below : (theta : ℚ) → IsFeasible (family theta) (along v theta r) → (k : ℕ) → IsVariable p.matrix k →
          IfSome (moved theta (slope k) (upper_of p k)) (λ u. along v theta r k ≤ℚ u)
      below theta feasible k is = subst (λ high. IfSome high (λ u. along v theta r k ≤ℚ u)) (linear.high theta k is) (feasible.within k is).1

      feasible : IsFeasible (family x) (along v x r)
      feasible = record {
        keeps = keeps_between p.matrix v r from x to after before first.best.feasible.keeps last.best.feasible.keeps;
        within = λ k is. (
          subst (λ low. IfSome low (λ l. l ≤ℚ along v x r k)) (sym (linear.low x k is))
              (above_between from x to after before (v k) (r k) (slope k) (lower_of p k) (above from first.best.feasible k is)
              (above to last.best.feasible k is)),
          subst (λ high. IfSome high (λ u. along v x r k ≤ℚ u)) (sym (linear.high x k is))
              (below_between from x to after before (v k) (r k) (slope k) (upper_of p k) (below from first.best.feasible k is)
              (below to last.best.feasible k is)),
        );
      }

      reduced : (j : ℕ) → IsColumn p.matrix j → along q x w (p.rows + j) ≡ cost (family x) j -ℚ sum_up_to p.rows (λ i. along q x w i *ℚ entry p.matrix i j)
      reduced j is =
          same_between from x to after before (q (p.rows + j)) (w (p.rows + j))
          (base j -ℚ sum_up_to p.rows (λ i. entry p.matrix i j *ℚ q i)) (growth j -ℚ sum_up_to p.rows (λ i. entry p.matrix i j *ℚ w i))
          (first.certificate.reduced j is ∙ reduced_at j from) (last.certificate.reduced j is ∙ reduced_at j to)
          ∙ sym (reduced_at j x)

      at_lower : (k : ℕ) → IsVariable p.matrix k → zero_ℚ <ℚ for_min p.sense (along q x w k) → lower_of (family x) k ≡ Some (along v x r k)
      at_lower k is positive =
          let stood = positive_at from x to after before (for_min p.sense (q k)) (for_min p.sense (w k))
          (λ h. first_prices.lower k is (subst (λ y. zero_ℚ <ℚ y) (sym (for_min-add p.sense (q k) from (w k))) h))
          (λ h. last_prices.lower k is (subst (λ y. zero_ℚ <ℚ y) (sym (for_min-add p.sense (q k) to (w k))) h))
          (subst (λ y. zero_ℚ <ℚ y) (for_min-add p.sense (q k) x (w k)) positive) in
          linear.low x k is
          ∙ stands_between from x to after before (v k) (r k) (slope k) (lower_of p k) (sym (linear.low from k is) ∙ stood.0)
          (sym (linear.low to k is) ∙ stood.1)

      at_upper : (k : ℕ) → IsVariable p.matrix k → for_min p.sense (along q x w k) <ℚ zero_ℚ → upper_of (family x) k ≡ Some (along v x r k)
      at_upper k is negative =
          let stood = negative_at from x to after before (for_min p.sense (q k)) (for_min p.sense (w k))
          (λ h. first_prices.upper k is (subst (λ y. y <ℚ zero_ℚ) (sym (for_min-add p.sense (q k) from (w k))) h))
          (λ h. last_prices.upper k is (subst (λ y. y <ℚ zero_ℚ) (sym (for_min-add p.sense (q k) to (w k))) h))
          (subst (λ y. y <ℚ zero_ℚ) (for_min-add p.sense (q k) x (w k)) negative) in
          linear.high x k is
          ∙ stands_between from x to after before (v k) (r k) (slope k) (upper_of p k) (sym (linear.high from k is) ∙ stood.0)
          (sym (linear.high to k is) ∙ stood.1)

      certificate : IsDualCertificate (family x) (along v x r) (along q x w)
      certificate = record { reduced = reduced; at_lower = at_lower; at_upper = at_upper }

      pub solved_between : IsLinearProgram (family x) → IsBestBy (family x) (along v x r) (along q x w)
      solved_between lawful = record { best = best_by_prices (family x) lawful (along v x r) (along q x w) feasible certificate; certificate = certificate }
