-- The test of how a parametric run closes never fails: at its last end there is a best point, so what is negative past it is 0 there, and
-- falls.
use Rattle.std.proofs.Common.{◌≡◌, ℕ, suc, ◌+◌, ◌<◌, pos, Bool, true, false, List, [], ◌∷◌, map, Option, Some, None, refl, sym, ap, ap₂, subst, ◌∙◌, ◌⊎◌, inl}
use Rattle.std.proofs.Common.{inr, arith}
use Rattle.std.specs.Prelude.{IsSome, unwrap_or, cond, nat_le}
use Rattle.exact_values.specs.Rational.{ℚ, zero_ℚ, one_ℚ, neg_ℚ, ◌+ℚ◌, ◌*ℚ◌, ◌/ℚ◌, ◌≤ℚ◌, ◌<ℚ◌}
use Rattle.exact_values.specs.Sums.{sum_to, sum_up_to}
use Rattle.exact_values.specs.Tests.{le_ℚ, lt_ℚ}
use Rattle.exact_values.proofs.Inverse.{div-mul_cancel}
use Rattle.exact_values.proofs.Ring.{by_ring1, by_ring2, by_ring3, by_ring4, same_by_one, number, opposite, ◌⊕◌, ◌⊖◌, ◌⊗◌, ◌≐◌}
use Rattle.exact_values.proofs.Order.{lt_or_le, lt_irrefl, lt_not_le, lt_by_one, zero_below_one, add-le-add, mul-positive, inverse-positive, apart_from_above}
use Rattle.exact_values.proofs.Order.{le_antisymm}
use Rattle.exact_values.proofs.Signs.{neg_above}
use Rattle.exact_values.proofs.Sums.{sum_to-same, sum_to-add, sum_to-mul_left, sum_to-append, sum_to-zero}
use Rattle.exact_values.proofs.TestsLaws.{test_from_le, test_from_lt}
use Rattle.lp_definitions.specs.LinearProgram.{LinearProgram, Vector, value_at, size, IsRow, IsVariable, IsLinearProgram, lower_of, upper_of, for_min}
use Rattle.lp_definitions.specs.LinearProgram.{numbers_from}
use Rattle.lp_definitions.specs.Solutions.{IsFeasible, IsBest, IsRay, limit_against, ProvesUnbounded}
use Rattle.lp_laws.proofs.Duality.{infeasible_by_ray, unbounded_by_direction}
use Rattle.lp_laws.proofs.Equations.{KeepsEquations-same}
use Rattle.lp_laws.proofs.Rays.{limit_of_positive, limit_of_negative}
use Rattle.check_definitions.specs.declared.Verdict.{Verdict}
use Rattle.check_definitions.specs.Steps.{in_turn, sum_steps, sum_of}
use Rattle.check_definitions.specs.Checks.{feasible_point, equations, free_direction, ray_columns, ray_limits, multiplied, limit_product}
use Rattle.certificate_laws.proofs.Truth.{sum_holds, point_holds, equations_hold, free_holds, columns_hold, limits_met_hold}
use Rattle.certificate_laws.proofs.Meaning.{sum_of_met}
use Rattle.certificate_laws.proofs.Products.{sum_of-all}
use Rattle.sensitivity_laws.proofs.MovedLimits.{moved, lower_is, upper_is}
use Rattle.sensitivity_laws.proofs.Signs.{for_min-add}
use Rattle.simplex_definitions.specs.Path.{listed}
use Rattle.simplex_definitions.specs.ObjectiveRun.{objective_family}
use Rattle.simplex_definitions.specs.RhsRun.{shift_of, rhs_family}
use Rattle.simplex_laws.proofs.Ends.{value_at-listed, IsFeasible-same}
use Rattle.simplex_laws.proofs.Rays.{IsRay-same}
use Rattle.parametric_laws.specs.Truth.{IsUnboundedBy, IsRefutedBy}
use Rattle.problem_definitions.specs.Names.{Name}
use Rattle.problem_definitions.specs.Problem.{Problem}
use Rattle.question_definitions.specs.Answers.{Sheet, Changing, Set}
use Rattle.answer_definitions.specs.ParametricRuns.{shifts_of}
use Rattle.walk_definitions.specs.Checkers.{Checker}
use Rattle.walk_definitions.specs.Tests.{asked, says, making_steps, unbounded_past, shift_products, infeasible_past}
use Rattle.own_listing_laws.proofs.Tests.{Passes, pass_none, pass_then, pass_steps, passes_asked}
use Rattle.own_listing_laws.proofs.Openings.{making_holds}

-- ---- numbers

-- what is negative past t and not negative at t is 0 there at most, and falls
pub past_zero : (a b t : ℚ) → ((x : ℚ) → t <ℚ x → a +ℚ x *ℚ b <ℚ zero_ℚ) → (a +ℚ t *ℚ b <ℚ zero_ℚ → ⊥) → (a +ℚ t *ℚ b ≤ℚ zero_ℚ) × (b <ℚ zero_ℚ)
past_zero a b t past at_t = (not_above (lt_or_le zero_ℚ (a +ℚ t *ℚ b)), falls)
  where
    one_past : t <ℚ t +ℚ one_ℚ
    one_past = lt_by_one zero_below_one (by_ring1 t (λ t. t ⊕ number (pos 1) ≐ t ⊕ (number (pos 1) ⊖ number (pos 0))) refl)

    no_less : zero_ℚ ≤ℚ a +ℚ t *ℚ b
    no_less = by (lt_or_le (a +ℚ t *ℚ b) zero_ℚ)
      where
        by : (a +ℚ t *ℚ b <ℚ zero_ℚ) ⊎ (zero_ℚ ≤ℚ a +ℚ t *ℚ b) → zero_ℚ ≤ℚ a +ℚ t *ℚ b
        by (inl below) = absurd (at_t below)
        by (inr above) = above

    falls : b <ℚ zero_ℚ
    falls = by (lt_or_le b zero_ℚ)
      where
        by : (b <ℚ zero_ℚ) ⊎ (zero_ℚ ≤ℚ b) → b <ℚ zero_ℚ
        by (inl below) = below
        by (inr above) =
            let both : zero_ℚ +ℚ zero_ℚ ≤ℚ (a +ℚ t *ℚ b) +ℚ b = add-le-add no_less above in
            let none : zero_ℚ +ℚ zero_ℚ ≡ zero_ℚ = by_ring1 a (λ a. number (pos 0) ⊕ number (pos 0) ≐ number (pos 0)) refl in
            let next : (a +ℚ t *ℚ b) +ℚ b ≡ a +ℚ (t +ℚ one_ℚ) *ℚ b = by_ring3 a b t (λ a b t. a ⊕ t ⊗ b ⊕ b ≐ a ⊕ (t ⊕ number (pos 1)) ⊗ b) refl in
            absurd (lt_not_le (past (t +ℚ one_ℚ) one_past)
            (subst (λ (x : ℚ). x ≤ℚ a +ℚ (t +ℚ one_ℚ) *ℚ b) none (subst (λ (x : ℚ). zero_ℚ +ℚ zero_ℚ ≤ℚ x) next both)))

    not_above : (zero_ℚ <ℚ a +ℚ t *ℚ b) ⊎ (a +ℚ t *ℚ b ≤ℚ zero_ℚ) → a +ℚ t *ℚ b ≤ℚ zero_ℚ
    not_above (inr below) = below
    not_above (inl above) =
        let c = neg_ℚ b in
        let positive : zero_ℚ <ℚ c = neg_above b falls in
        let q = (a +ℚ t *ℚ b) /ℚ c in
        let q_positive : zero_ℚ <ℚ q = mul-positive above (inverse-positive positive) in
        let later : t <ℚ t +ℚ q = lt_by_one q_positive (by_ring2 t q (λ t q. t ⊕ q ≐ t ⊕ (q ⊖ number (pos 0))) refl) in
        let back : q *ℚ c ≡ a +ℚ t *ℚ b = div-mul_cancel (a +ℚ t *ℚ b) c (apart_from_above positive) in
        let zero : a +ℚ (t +ℚ q) *ℚ b ≡ zero_ℚ =
        same_by_one (neg_ℚ one_ℚ) back
        (by_ring4 a b t q (λ a b t q. a ⊕ (t ⊕ q) ⊗ b ≐ number (pos 0) ⊕ opposite (number (pos 1)) ⊗ (q ⊗ opposite b ⊖ (a ⊕ t ⊗ b))) refl) in
        absurd (lt_irrefl (subst (λ (x : ℚ). x <ℚ zero_ℚ) zero (past (t +ℚ q) later)))

-- ---- a direction

module _ (p : LinearProgram) (h : ℕ) (lawful : IsLinearProgram p) (row : IsRow p.matrix h) (t : ℚ) (point direction : List ℚ) (v : Vector)
    (best : IsBest (objective_family p h t) v)
    (unbounded_end : (theta : ℚ) → t <ℚ theta → IsUnboundedBy (objective_family p h theta) (value_at point) (value_at direction)) where
  -- as they are printed
  abbrev pub printed_point : Vector
  printed_point = value_at (listed p.matrix (value_at point))

  abbrev pub printed_direction : Vector
  printed_direction = value_at (listed p.matrix (value_at direction))

  next_value : t <ℚ t +ℚ one_ℚ
  next_value = lt_by_one zero_below_one (by_ring1 t (λ t. t ⊕ number (pos 1) ≐ t ⊕ (number (pos 1) ⊖ number (pos 0))) refl)

  proof : ProvesUnbounded (objective_family p h (t +ℚ one_ℚ)) (value_at point) (value_at direction)
  proof = (unbounded_end (t +ℚ one_ℚ) next_value).proof

  abbrev own : ℚ
  own = for_min p.sense (value_at direction p.objective)

  abbrev changing : ℚ
  changing = for_min p.sense (value_at direction h)

  negative : (x : ℚ) → t <ℚ x → own +ℚ x *ℚ changing <ℚ zero_ℚ
  negative x past =
      subst (λ (y : ℚ). y <ℚ zero_ℚ) (for_min-add p.sense (value_at direction p.objective) x (value_at direction h)) (unbounded_end x past).proof.improves

  -- there is a best point at t
  not_at_end : own +ℚ t *ℚ changing <ℚ zero_ℚ → ⊥
  not_at_end below =
      let proves : ProvesUnbounded (objective_family p h t) (value_at point) (value_at direction) = record {
        feasible = record { keeps = proof.feasible.keeps; within = proof.feasible.within };
        keeps = proof.keeps;
        falls = proof.falls;
        rises = proof.rises;
        improves = subst (λ (y : ℚ). y <ℚ zero_ℚ) (sym (for_min-add p.sense (value_at direction p.objective) t (value_at direction h))) below;
      } in
      let improve = (unbounded_by_direction (objective_family p h t) (value_at point) (value_at direction) proves).improved v best.feasible in
      lt_not_le improve.1.improve (best.unimproved improve.0 improve.1.feasible)

  at_end : (own +ℚ t *ℚ changing ≤ℚ zero_ℚ) × (changing <ℚ zero_ℚ)
  at_end = past_zero own changing t negative not_at_end

  same : (xs : List ℚ) (k : ℕ) → IsVariable p.matrix k → value_at (listed p.matrix (value_at xs)) k ≡ value_at xs k
  same xs k is = value_at-listed p.matrix (value_at xs) k is

  objective_is : printed_direction p.objective ≡ value_at direction p.objective
  objective_is = same direction p.objective (lawful.objective_row.0, omega (arith, lawful.objective_row.1))

  change_is : printed_direction h ≡ value_at direction h
  change_is = same direction h (row.0, omega (arith, row.1))

  not_worse : for_min p.sense (printed_direction p.objective +ℚ t *ℚ printed_direction h) ≤ℚ zero_ℚ
  not_worse =
      subst (λ (y : ℚ). y ≤ℚ zero_ℚ)
      (sym (ap₂ (λ (a b : ℚ). for_min p.sense (a +ℚ t *ℚ b)) objective_is change_is
      ∙ for_min-add p.sense (value_at direction p.objective) t (value_at direction h))) at_end.0

  improves : for_min p.sense (printed_direction h) <ℚ zero_ℚ
  improves = subst (λ (y : ℚ). y <ℚ zero_ℚ) (sym (ap (for_min p.sense) change_is)) at_end.1

  pub unbounded_passes : (C : Checker) (problem : Problem ℕ) (changed : Changing) →
      Passes C (unbounded_past C (record { problem = problem; lp = p }) changed h t printed_point printed_direction)
  unbounded_passes C problem changed =
      (pass_steps C (feasible_point p printed_point) _ (point_holds p printed_point
      (IsFeasible-same p (value_at point) printed_point (λ k is. sym (same point k is))
      (record { keeps = proof.feasible.keeps; within = proof.feasible.within })))
      (pass_steps C (equations p 3 printed_direction) _
      (equations_hold p 3 printed_direction
      (KeepsEquations-same p.matrix (value_at direction) printed_direction (λ k is. sym (same direction k is)) proof.keeps))
      (pass_steps C (free_direction p printed_direction) _ (free_holds p printed_direction (record {
        falls = λ k is below. proof.falls k is (subst (λ (y : ℚ). y <ℚ zero_ℚ) (same direction k is) below);
        rises = λ k is above. proof.rises k is (subst (λ (y : ℚ). zero_ℚ <ℚ y) (same direction k is) above);
      }))
      (pass_steps C (sum_steps (printed_direction p.objective) (record { left = t; right = printed_direction h } ∷ [])) _
      (sum_holds (printed_direction p.objective) (record { left = t; right = printed_direction h } ∷ []))
      (pass_then C (asked (le_ℚ (for_min p.sense (printed_direction p.objective +ℚ t *ℚ printed_direction h)) zero_ℚ)) _
      (passes_asked C _ (test_from_le _ _ not_worse))
      (pass_then C (asked (lt_ℚ (for_min p.sense (printed_direction h)) zero_ℚ)) [] (passes_asked C _ (test_from_lt _ _ improves)) (pass_none C))))))).passes

-- ---- a ray

-- a multiplier times a limit at a value
met : (w slope theta : ℚ) (limit : Option ℚ) → (w ≡ zero_ℚ) ⊎ IsSome limit →
    w *ℚ unwrap_or (moved theta slope limit) zero_ℚ ≡ w *ℚ unwrap_or limit zero_ℚ +ℚ theta *ℚ (w *ℚ slope)
met w slope theta (Some l) is = by_ring4 w slope theta l (λ w s x l. w ⊗ (l ⊕ x ⊗ s) ≐ w ⊗ l ⊕ x ⊗ (w ⊗ s)) refl
met w slope theta None (inl e) =
    ap (λ y. y *ℚ zero_ℚ) e ∙ by_ring2 slope theta (λ s x. number (pos 0) ⊗ number (pos 0) ≐ number (pos 0) ⊗ number (pos 0) ⊕ x ⊗ (number (pos 0) ⊗ s)) refl
    ∙ ap (λ y. y *ℚ zero_ℚ +ℚ theta *ℚ (y *ℚ slope)) (sym e)
met w slope theta None (inr e) = cc

-- a limit is there at one value just where it is at another
there : (slope theta : ℚ) (limit : Option ℚ) → IsSome (moved theta slope limit) → IsSome limit
there slope theta None is = cc
there slope theta (Some l) is = refl

still_there : (slope theta : ℚ) (limit : Option ℚ) → IsSome limit → IsSome (moved theta slope limit)
still_there slope theta None is = cc
still_there slope theta (Some l) is = refl

module _ (p : LinearProgram) (shift : List ℚ) (w : Vector) where
  -- which limit a multiplier meets doesn't depend on the value
  against_is : (theta : ℚ) (k : ℕ) → IsVariable p.matrix k →
      limit_against (rhs_family p shift theta) w k ≡ moved theta (shift_of p.matrix shift k) (limit_against p w k)
  against_is theta k is = by (lt_ℚ zero_ℚ (w k))
    where
      by : (test : Bool) →
          cond test (upper_of (rhs_family p shift theta) k) (lower_of (rhs_family p shift theta) k) ≡ moved theta (shift_of p.matrix shift k)
          (cond test (upper_of p k) (lower_of p k))
      by true = upper_is p shift theta k is
      by false = lower_is p shift theta k is

  -- the sum of the multipliers times the limits that they meet
  abbrev limit_sum : ℚ → ℚ
  limit_sum theta = sum_up_to (size p.matrix) (λ k. w k *ℚ unwrap_or (limit_against (rhs_family p shift theta) w k) zero_ℚ)

  abbrev base : ℚ
  base = sum_up_to (size p.matrix) (λ k. w k *ℚ unwrap_or (limit_against p w k) zero_ℚ)

  abbrev growth : ℚ
  growth = sum_up_to p.rows (λ i. w i *ℚ value_at shift i)

  -- columns have no shift
  of_rows : sum_up_to (size p.matrix) (λ k. w k *ℚ shift_of p.matrix shift k) ≡ growth
  of_rows =
      sum_to-append p.rows p.cols (λ k. w (suc k) *ℚ shift_of p.matrix shift (suc k))
      ∙ ap (λ s. sum_to p.rows (λ k. w (suc k) *ℚ shift_of p.matrix shift (suc k)) +ℚ s)
      (sum_to-zero p.cols (λ k. w (suc (p.rows + k)) *ℚ shift_of p.matrix shift (suc (p.rows + k)))
      (λ k _. ap (λ b. w (suc (p.rows + k)) *ℚ cond b (value_at shift (suc (p.rows + k))) zero_ℚ) (after k)
      ∙ by_ring1 (w (suc (p.rows + k))) (λ w. w ⊗ number (pos 0) ≐ number (pos 0)) refl))
      ∙ by_ring1 (sum_to p.rows (λ k. w (suc k) *ℚ shift_of p.matrix shift (suc k))) (λ s. s ⊕ number (pos 0) ≐ s) refl
      ∙ sum_to-same p.rows (λ k. w (suc k) *ℚ shift_of p.matrix shift (suc k)) (λ k. w (suc k) *ℚ value_at shift (suc k))
      (λ k is. ap (λ b. w (suc k) *ℚ cond b (value_at shift (suc k)) zero_ℚ) (among k is))
    where
      after : (k : ℕ) → nat_le (suc (p.rows + k)) p.rows ≡ false
      after k = grind arith

      among : (k : ℕ) → k < p.rows → nat_le (suc k) p.rows ≡ true
      among k is = grind (arith, is)

  module _ (meets : (k : ℕ) → IsVariable p.matrix k → (w k ≡ zero_ℚ) ⊎ IsSome (limit_against p w k)) where
    sum_is : (theta : ℚ) → limit_sum theta ≡ base +ℚ theta *ℚ growth
    sum_is theta =
        sum_to-same (size p.matrix) (λ k. w (suc k) *ℚ unwrap_or (limit_against (rhs_family p shift theta) w (suc k)) zero_ℚ)
        (λ k. w (suc k) *ℚ unwrap_or (limit_against p w (suc k)) zero_ℚ +ℚ theta *ℚ (w (suc k) *ℚ shift_of p.matrix shift (suc k)))
        (λ k below. ap (λ limit. w (suc k) *ℚ unwrap_or limit zero_ℚ) (against_is theta (suc k) (variable k below))
        ∙ met (w (suc k)) (shift_of p.matrix shift (suc k)) theta (limit_against p w (suc k)) (meets (suc k) (variable k below)))
        ∙ sum_to-add (size p.matrix) (λ k. w (suc k) *ℚ unwrap_or (limit_against p w (suc k)) zero_ℚ)
        (λ k. theta *ℚ (w (suc k) *ℚ shift_of p.matrix shift (suc k)))
        ∙ ap (λ s. sum_to (size p.matrix) (λ k. w (suc k) *ℚ unwrap_or (limit_against p w (suc k)) zero_ℚ) +ℚ s)
        (sum_to-mul_left (size p.matrix) theta (λ k. w (suc k) *ℚ shift_of p.matrix shift (suc k)) ∙ ap (λ s. theta *ℚ s) of_rows)
      where
        variable : (k : ℕ) → k < size p.matrix → IsVariable p.matrix (suc k)
        variable k below = (omega arith, omega (arith, below))

module _ (p : LinearProgram) (shift : List ℚ) (lawful : (theta : ℚ) → IsLinearProgram (rhs_family p shift theta)) (t : ℚ) (ray : List ℚ) (v : Vector)
    (feasible : IsFeasible (rhs_family p shift t) v)
    (refuted : (theta : ℚ) → t <ℚ theta → IsRefutedBy (rhs_family p shift theta) (value_at ray)) where
  -- as it is printed
  abbrev pub printed_ray : Vector
  printed_ray = value_at (listed p.matrix (value_at ray))

  ray_at : (theta : ℚ) → t <ℚ theta → IsRay (rhs_family p shift theta) printed_ray
  ray_at theta past =
      IsRay-same (rhs_family p shift theta) (value_at ray) printed_ray (λ k is. sym (value_at-listed p.matrix (value_at ray) k is)) (refuted theta past).ray

  one_past : t <ℚ t +ℚ one_ℚ
  one_past = lt_by_one zero_below_one (by_ring1 t (λ t. t ⊕ number (pos 1) ≐ t ⊕ (number (pos 1) ⊖ number (pos 0))) refl)

  later : IsRay (rhs_family p shift (t +ℚ one_ℚ)) printed_ray
  later = ray_at (t +ℚ one_ℚ) one_past

  has_upper : (k : ℕ) → IsVariable p.matrix k → zero_ℚ <ℚ printed_ray k → IsSome (upper_of p k)
  has_upper k is positive =
      there (shift_of p.matrix shift k) (t +ℚ one_ℚ) (upper_of p k) (subst IsSome (upper_is p shift (t +ℚ one_ℚ) k is) (later.meets_upper k is positive))

  has_lower : (k : ℕ) → IsVariable p.matrix k → printed_ray k <ℚ zero_ℚ → IsSome (lower_of p k)
  has_lower k is below =
      there (shift_of p.matrix shift k) (t +ℚ one_ℚ) (lower_of p k) (subst IsSome (lower_is p shift (t +ℚ one_ℚ) k is) (later.meets_lower k is below))

  -- each multiplier is 0 or meets a limit
  meets : (k : ℕ) → IsVariable p.matrix k → (printed_ray k ≡ zero_ℚ) ⊎ IsSome (limit_against p printed_ray k)
  meets k is = by (lt_or_le zero_ℚ (printed_ray k)) (lt_or_le (printed_ray k) zero_ℚ)
    where
      by : (zero_ℚ <ℚ printed_ray k) ⊎ (printed_ray k ≤ℚ zero_ℚ) → (printed_ray k <ℚ zero_ℚ) ⊎ (zero_ℚ ≤ℚ printed_ray k) →
          (printed_ray k ≡ zero_ℚ) ⊎ IsSome (limit_against p printed_ray k)
      by (inl positive) _ = inr (subst IsSome (sym (limit_of_positive p printed_ray k positive)) (has_upper k is positive))
      by (inr not_positive) (inl below) = inr (subst IsSome (sym (limit_of_negative p printed_ray k below)) (has_lower k is below))
      by (inr not_positive) (inr not_negative) = inl (le_antisymm not_positive not_negative)

  upper_here : (k : ℕ) → IsVariable p.matrix k → zero_ℚ <ℚ printed_ray k → IsSome (upper_of (rhs_family p shift t) k)
  upper_here k is positive = subst IsSome (sym (upper_is p shift t k is)) (still_there (shift_of p.matrix shift k) t (upper_of p k) (has_upper k is positive))

  lower_here : (k : ℕ) → IsVariable p.matrix k → printed_ray k <ℚ zero_ℚ → IsSome (lower_of (rhs_family p shift t) k)
  lower_here k is below = subst IsSome (sym (lower_is p shift t k is)) (still_there (shift_of p.matrix shift k) t (lower_of p k) (has_lower k is below))

  abbrev limits : ℚ
  limits = base p shift printed_ray

  abbrev shifts : ℚ
  shifts = growth p shift printed_ray

  sums : (theta : ℚ) → limit_sum p shift printed_ray theta ≡ limits +ℚ theta *ℚ shifts
  sums theta = sum_is p shift printed_ray meets theta

  -- there is a feasible point at t
  at_end_too : (limits +ℚ t *ℚ shifts ≤ℚ zero_ℚ) × (shifts <ℚ zero_ℚ)
  at_end_too = past_zero limits shifts t (λ x past. subst (λ (y : ℚ). y <ℚ zero_ℚ) (sums x) (ray_at x past).negative)
      (λ below. infeasible_by_ray (rhs_family p shift t) printed_ray (record {
        vanishes = later.vanishes;
        meets_upper = upper_here;
        meets_lower = lower_here;
        negative = subst (λ (y : ℚ). y <ℚ zero_ℚ) (sym (sums t)) below;
      }) v feasible)

  met_sum : sum_of zero_ℚ (map (limit_product (rhs_family p shift t) printed_ray) (multiplied (rhs_family p shift t) printed_ray)) ≤ℚ zero_ℚ
  met_sum = subst (λ (y : ℚ). y ≤ℚ zero_ℚ) (sym (sum_of_met (rhs_family p shift t) printed_ray ∙ sums t)) at_end_too.0

  shift_sum : sum_of zero_ℚ (map (λ i. record { left = printed_ray i; right = value_at shift i }) (numbers_from 1 p.rows)) <ℚ zero_ℚ
  shift_sum = subst (λ (y : ℚ). y <ℚ zero_ℚ) (sym (sum_of-all (λ i. record { left = printed_ray i; right = value_at shift i }) p.rows)) at_end_too.1

  pub infeasible_passes : (C : Checker) (problem : Problem ℕ) (name : Name) → shifts_of problem name ≡ shift →
      Passes C (infeasible_past C (record { problem = problem; lp = p }) (Set name) shift t printed_ray)
  infeasible_passes C problem name is = subst (λ (own : LinearProgram). Passes C (test_at own)) (ap (λ (own : List ℚ). rhs_family p own t) (sym is))
      (pass_steps C (making_steps sheet (Set name) t) _ (making_holds sheet (Set name) t)
      (pass_steps C (ray_columns here printed_ray) _ (columns_hold here (lawful t).is_matrix printed_ray later.vanishes)
      (pass_steps C (ray_limits here printed_ray zero_ℚ (multiplied here printed_ray)) _
      (limits_met_hold here printed_ray (record { meets_upper = upper_here; meets_lower = lower_here }))
      (pass_then C (asked _) _ (passes_asked C _ (test_from_le _ _ met_sum))
      (pass_steps C (sum_steps zero_ℚ (shift_products sheet (Set name) shift printed_ray)) _
      (sum_holds zero_ℚ (shift_products sheet (Set name) shift printed_ray))
      (pass_then C (asked _) [] (passes_asked C _ (test_from_lt _ _ shift_sum)) (pass_none C))))))).passes
    where
      sheet : Sheet
      sheet = record { problem = problem; lp = p }

      here : LinearProgram
      here = rhs_family p shift t

      test_at : LinearProgram → Verdict
      test_at own = in_turn (
          says C (making_steps sheet (Set name) t) ∷ says C (ray_columns own printed_ray) ∷ says C
          (ray_limits own printed_ray zero_ℚ (multiplied own printed_ray)) ∷
          asked (le_ℚ (sum_of zero_ℚ (map (limit_product own printed_ray) (multiplied own printed_ray))) zero_ℚ) ∷
          says C (sum_steps zero_ℚ (shift_products sheet (Set name) shift printed_ray)) ∷ asked
          (lt_ℚ (sum_of zero_ℚ (shift_products sheet (Set name) shift printed_ray)) zero_ℚ) ∷ [])
