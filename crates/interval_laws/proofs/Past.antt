-- What closes a run at a value of the parameter holds past it.
use Rattle.std.proofs.Common.{◌≡◌, ◌+◌, ◌<◌, ℕ, suc, pos, Bool, true, false, List, refl, sym, ap, subst, ◌∙◌, ◌⊎◌, inl, inr, arith}
use Rattle.std.specs.Prelude.{Option, Some, None, IsSome, unwrap_or, cond, nat_le}
use Rattle.exact_values.specs.Rational.{ℚ, zero_ℚ, ◌+ℚ◌, ◌*ℚ◌, ◌≤ℚ◌, ◌<ℚ◌}
use Rattle.exact_values.specs.Tests.{lt_ℚ}
use Rattle.exact_values.specs.Sums.{sum_to, sum_up_to}
use Rattle.exact_values.proofs.Ring.{by_ring1, by_ring2, by_ring4, number, ◌⊕◌, ◌⊖◌, ◌⊗◌, ◌≐◌}
use Rattle.exact_values.proofs.Order.{lt_by_product, lt_of_lt_of_le, lt_or_le, le_antisymm}
use Rattle.exact_values.proofs.Sums.{sum_to-same, sum_to-add, sum_to-mul_left, sum_to-append, sum_to-zero}
use Rattle.lp_definitions.specs.LinearProgram.{LinearProgram, Vector, size, value_at, IsVariable, lower_of, upper_of, for_min}
use Rattle.lp_definitions.specs.Solutions.{IsRay, limit_against, ProvesUnbounded}
use Rattle.lp_laws.proofs.Duality.{infeasible_by_ray, unbounded_by_direction}
use Rattle.lp_laws.proofs.Rays.{limit_of_positive, limit_of_negative}
use Rattle.simplex_definitions.specs.ObjectiveRun.{objective_family}
use Rattle.simplex_definitions.specs.RhsRun.{shift_of, rhs_family}
use Rattle.sensitivity_laws.proofs.MovedLimits.{moved, lower_is, upper_is}
use Rattle.sensitivity_laws.proofs.Signs.{for_min-add}
use Rattle.parametric_laws.specs.Truth.{IsUnboundedBy, IsRefutedBy}
use Rattle.interval_laws.specs.Laws.{ClosesUnbounded, ClosesInfeasible, PastLaws}

-- what isn't positive at t and falls is negative past t
negative_past : (a b t theta : ℚ) → t <ℚ theta → a +ℚ t *ℚ b ≤ℚ zero_ℚ → b <ℚ zero_ℚ → a +ℚ theta *ℚ b <ℚ zero_ℚ
negative_past a b t theta past at_t falls =
    lt_of_lt_of_le (lt_by_product past falls (by_ring4 a b t theta (λ a b t x. a ⊕ t ⊗ b ≐ a ⊕ x ⊗ b ⊕ (x ⊖ t) ⊗ (number (pos 0) ⊖ b)) refl)) at_t

unbounded_past : (p : LinearProgram) (h : ℕ) (t theta : ℚ) (z d : Vector) → ClosesUnbounded p h t z d → t <ℚ theta →
    IsUnboundedBy (objective_family p h theta) z d
unbounded_past p h t theta z d closes past = record { proof = proof; unbounded = unbounded_by_direction (objective_family p h theta) z d proof }
  where
    proof : ProvesUnbounded (objective_family p h theta) z d
    proof = record {
      feasible = record { keeps = closes.feasible.keeps; within = closes.feasible.within };
      keeps = closes.keeps;
      falls = closes.falls;
      rises = closes.rises;
      improves = subst (λ x. x <ℚ zero_ℚ) (sym (for_min-add p.sense (d p.objective) theta (d h)))
          (negative_past (for_min p.sense (d p.objective)) (for_min p.sense (d h)) t theta past
          (subst (λ x. x ≤ℚ zero_ℚ) (for_min-add p.sense (d p.objective) t (d h)) closes.not_worse) closes.improves);
    }

-- ---- limits that are met

-- a multiplier times a limit at theta
met : (w slope theta : ℚ) (limit : Option ℚ) → (w ≡ zero_ℚ) ⊎ IsSome limit →
    w *ℚ unwrap_or (moved theta slope limit) zero_ℚ ≡ w *ℚ unwrap_or limit zero_ℚ +ℚ theta *ℚ (w *ℚ slope)
met w slope theta (Some l) is = by_ring4 w slope theta l (λ w s x l. w ⊗ (l ⊕ x ⊗ s) ≐ w ⊗ l ⊕ x ⊗ (w ⊗ s)) refl
met w slope theta None (inl e) =
    ap (λ y. y *ℚ zero_ℚ) e ∙ by_ring2 slope theta (λ s x. number (pos 0) ⊗ number (pos 0) ≐ number (pos 0) ⊗ number (pos 0) ⊕ x ⊗ (number (pos 0) ⊗ s)) refl
    ∙ ap (λ y. y *ℚ zero_ℚ +ℚ theta *ℚ (y *ℚ slope)) (sym e)
met w slope theta None (inr e) = cc

-- a limit is there at one value just where it is at another
there : (slope theta : ℚ) (limit : Option ℚ) → IsSome (moved theta slope limit) → IsSome limit
there slope theta None is = cc
there slope theta (Some l) is = refl

still_there : (slope theta : ℚ) (limit : Option ℚ) → IsSome limit → IsSome (moved theta slope limit)
still_there slope theta None is = cc
still_there slope theta (Some l) is = refl

module _ (p : LinearProgram) (shift : List ℚ) (w : Vector) where
  -- which limit a multiplier meets doesn't depend on theta
  against_is : (theta : ℚ) (k : ℕ) → IsVariable p.matrix k →
      limit_against (rhs_family p shift theta) w k ≡ moved theta (shift_of p.matrix shift k) (limit_against p w k)
  against_is theta k is = by (lt_ℚ zero_ℚ (w k))
    where
      by : (test : Bool) →
          cond test (upper_of (rhs_family p shift theta) k) (lower_of (rhs_family p shift theta) k) ≡ moved theta (shift_of p.matrix shift k)
          (cond test (upper_of p k) (lower_of p k))
      by true = upper_is p shift theta k is
      by false = lower_is p shift theta k is

  -- the sum of the multipliers times the limits that they meet
  abbrev limit_sum : ℚ → ℚ
  limit_sum theta = sum_up_to (size p.matrix) (λ k. w k *ℚ unwrap_or (limit_against (rhs_family p shift theta) w k) zero_ℚ)

  -- columns have no shift
  of_rows : sum_up_to (size p.matrix) (λ k. w k *ℚ shift_of p.matrix shift k) ≡ sum_up_to p.rows (λ i. w i *ℚ value_at shift i)
  of_rows =
      sum_to-append p.rows p.cols (λ k. w (suc k) *ℚ shift_of p.matrix shift (suc k))
      ∙ ap (λ s. sum_to p.rows (λ k. w (suc k) *ℚ shift_of p.matrix shift (suc k)) +ℚ s)
      (sum_to-zero p.cols (λ k. w (suc (p.rows + k)) *ℚ shift_of p.matrix shift (suc (p.rows + k)))
      (λ k _. ap (λ b. w (suc (p.rows + k)) *ℚ cond b (value_at shift (suc (p.rows + k))) zero_ℚ) (after k)
      ∙ by_ring1 (w (suc (p.rows + k))) (λ w. w ⊗ number (pos 0) ≐ number (pos 0)) refl))
      ∙ by_ring1 (sum_to p.rows (λ k. w (suc k) *ℚ shift_of p.matrix shift (suc k))) (λ s. s ⊕ number (pos 0) ≐ s) refl
      ∙ sum_to-same p.rows (λ k. w (suc k) *ℚ shift_of p.matrix shift (suc k)) (λ k. w (suc k) *ℚ value_at shift (suc k))
      (λ k is. ap (λ b. w (suc k) *ℚ cond b (value_at shift (suc k)) zero_ℚ) (among k is))
    where
      after : (k : ℕ) → nat_le (suc (p.rows + k)) p.rows ≡ false
      after k = grind arith

      among : (k : ℕ) → k < p.rows → nat_le (suc k) p.rows ≡ true
      among k is = grind (arith, is)

  module _ (meets : (k : ℕ) → IsVariable p.matrix k → (w k ≡ zero_ℚ) ⊎ IsSome (limit_against p w k)) where
    sum_is : (theta : ℚ) →
        limit_sum theta ≡ sum_up_to (size p.matrix) (λ k. w k *ℚ unwrap_or (limit_against p w k) zero_ℚ) +ℚ theta *ℚ sum_up_to p.rows
        (λ i. w i *ℚ value_at shift i)
    sum_is theta =
        sum_to-same (size p.matrix) (λ k. w (suc k) *ℚ unwrap_or (limit_against (rhs_family p shift theta) w (suc k)) zero_ℚ)
        (λ k. w (suc k) *ℚ unwrap_or (limit_against p w (suc k)) zero_ℚ +ℚ theta *ℚ (w (suc k) *ℚ shift_of p.matrix shift (suc k)))
        (λ k below. ap (λ limit. w (suc k) *ℚ unwrap_or limit zero_ℚ) (against_is theta (suc k) (variable k below))
        ∙ met (w (suc k)) (shift_of p.matrix shift (suc k)) theta (limit_against p w (suc k)) (meets (suc k) (variable k below)))
        ∙ sum_to-add (size p.matrix) (λ k. w (suc k) *ℚ unwrap_or (limit_against p w (suc k)) zero_ℚ)
        (λ k. theta *ℚ (w (suc k) *ℚ shift_of p.matrix shift (suc k)))
        ∙ ap (λ s. sum_to (size p.matrix) (λ k. w (suc k) *ℚ unwrap_or (limit_against p w (suc k)) zero_ℚ) +ℚ s)
        (sum_to-mul_left (size p.matrix) theta (λ k. w (suc k) *ℚ shift_of p.matrix shift (suc k)) ∙ ap (λ s. theta *ℚ s) of_rows)
      where
        variable : (k : ℕ) → k < size p.matrix → IsVariable p.matrix (suc k)
        variable k below = (omega arith, omega (arith, below))

-- each multiplier is 0 or meets a limit
meets : (p : LinearProgram) (shift : List ℚ) (t : ℚ) (w : Vector) → ClosesInfeasible p shift t w → (k : ℕ) → IsVariable p.matrix k →
    (w k ≡ zero_ℚ) ⊎ IsSome (limit_against p w k)
meets p shift t w closes k is = by (lt_or_le zero_ℚ (w k)) (lt_or_le (w k) zero_ℚ)
  where
    by : (zero_ℚ <ℚ w k) ⊎ (w k ≤ℚ zero_ℚ) → (w k <ℚ zero_ℚ) ⊎ (zero_ℚ ≤ℚ w k) → (w k ≡ zero_ℚ) ⊎ IsSome (limit_against p w k)
    by (inl positive) _ =
        inr (subst IsSome (sym (limit_of_positive p w k positive))
        (there (shift_of p.matrix shift k) t (upper_of p k) (subst IsSome (upper_is p shift t k is) (closes.meets_upper k is positive))))
    by (inr not_positive) (inl negative) =
        inr (subst IsSome (sym (limit_of_negative p w k negative))
        (there (shift_of p.matrix shift k) t (lower_of p k) (subst IsSome (lower_is p shift t k is) (closes.meets_lower k is negative))))
    by (inr not_positive) (inr not_negative) = inl (le_antisymm not_positive not_negative)

refuted_past : (p : LinearProgram) (shift : List ℚ) (t theta : ℚ) (w : Vector) → ClosesInfeasible p shift t w → t <ℚ theta →
    IsRefutedBy (rhs_family p shift theta) w
refuted_past p shift t theta w closes past = record { ray = ray; infeasible = infeasible_by_ray (rhs_family p shift theta) w ray }
  where
    met_is : (x : ℚ) →
        limit_sum p shift w x ≡ sum_up_to (size p.matrix) (λ k. w k *ℚ unwrap_or (limit_against p w k) zero_ℚ) +ℚ x *ℚ sum_up_to p.rows
        (λ i. w i *ℚ value_at shift i)
    met_is x = sum_is p shift w (meets p shift t w closes) x

    ray : IsRay (rhs_family p shift theta) w
    ray = record {
      vanishes = closes.vanishes;
      meets_upper = λ k is positive. subst IsSome (sym (upper_is p shift theta k is))
          (still_there (shift_of p.matrix shift k) theta (upper_of p k)
          (there (shift_of p.matrix shift k) t (upper_of p k) (subst IsSome (upper_is p shift t k is) (closes.meets_upper k is positive))));
      meets_lower = λ k is negative. subst IsSome (sym (lower_is p shift theta k is))
          (still_there (shift_of p.matrix shift k) theta (lower_of p k)
          (there (shift_of p.matrix shift k) t (lower_of p k) (subst IsSome (lower_is p shift t k is) (closes.meets_lower k is negative))));
      negative = subst (λ s. s <ℚ zero_ℚ) (sym (met_is theta))
          (negative_past (sum_up_to (size p.matrix) (λ k. w k *ℚ unwrap_or (limit_against p w k) zero_ℚ))
          (sum_up_to p.rows (λ i. w i *ℚ value_at shift i)) t theta past
          (subst (λ s. s ≤ℚ zero_ℚ) (met_is t) closes.not_positive) closes.falls);
    }

pub past_laws : PastLaws
past_laws = record { unbounded = unbounded_past; infeasible = refuted_past }
