-- What the parts of a check say where their comparisons hold, whatever operations an arithmetic refuses.
use Rattle.std.proofs.Common.{◌≡◌, ℕ, zero, suc, ◌+◌, ◌<◌, ◌≤◌, ◌≢◌, List, [], ◌∷◌, ◌++◌, map, refl, sym, ap, ◌∙◌, arith, Bool, true, false, not, Option, Some}
use Rattle.std.proofs.Common.{None, subst, cond}
use Rattle.std.specs.Prelude.{is_some, is_none, IfSome, filter, unwrap_or}
use Rattle.std.specs.declared.cmp.Ordering.{Ordering}
use Rattle.std.specs.declared.cmp.Ordering.TheVariants.{Less, Equal, Greater}
use Rattle.std.proofs.lemmas.Bool.{and_parts, not-false}
use native.Mathlib.Decide.{ℕ_discrete}
use Rattle.exact_values.proofs.RingLaws.{zero-add, zero-mul}
use Rattle.exact_values.specs.Rational.{ℚ, zero_ℚ, ◌+ℚ◌, ◌-ℚ◌, ◌*ℚ◌, ◌≤ℚ◌, ◌<ℚ◌, compare_ℚ}
use Rattle.exact_values.specs.Sums.{sum_up_to}
use Rattle.exact_values.specs.Tests.{eq_ℚ}
use Rattle.exact_values.proofs.Compare.{lt_from_compare, same_from_compare, compare_from_lt}
use Rattle.exact_values.proofs.TestsLaws.{same_from_test, le_from_test}
use Rattle.exact_values.proofs.Order.{lt_not_le, le_of_lt, apart_from_above, apart_from_below}
use Rattle.lp_definitions.specs.LinearProgram.{LinearProgram, Vector, IsMatrix, IsColumn, IsVariable, KeepsEquations, numbers_from, variables, column, entry}
use Rattle.lp_definitions.specs.LinearProgram.{lower_of, upper_of, cost, for_min, size}
use Rattle.lp_definitions.specs.Solutions.{IsWithinLimits, IsFeasible, IsDualCertificate, IsCrossed, IsRay, ProvesUnbounded, limit_against}
use Rattle.lp_definitions.proofs.Lawful.{none as no_limit}
use Rattle.check_definitions.specs.Steps.{Step, comparison, AllHold, product_of, sum_steps, sum_of}
use Rattle.check_definitions.specs.Checks.{is_not_below, is_not_above, is_at, is_crossed, by_sign, row_products, equation, equations, within_limit}
use Rattle.check_definitions.specs.Checks.{within_limits, feasible_point, column_products, combined_steps, reduced_cost, reduced_costs, standing_price}
use Rattle.check_definitions.specs.Checks.{standing_prices, ray_column, ray_columns, multiplied, limit_product, ray_limits, ray_sum, free_to_move}
use Rattle.check_definitions.specs.Checks.{free_direction, improving, optimal_steps, crossed_steps, infeasible_steps, unbounded_steps}
use Rattle.check_definitions.proofs.Holding.{hold-append, last_holds, each_hold}
use Rattle.lp_laws.proofs.Entries.{sum_of_entries}
use Rattle.lp_laws.proofs.Duality.{below_of_test}
use Rattle.lp_laws.proofs.Rays.{limit_of_positive, limit_of_negative}
use Rattle.certificate_laws.specs.Parts.{AreReducedCosts, VanishesOnColumns, MeetsLimits, IsFreeDirection}
use Rattle.certificate_laws.proofs.Products.{sum_of-all, sum_of-filtered, sum_of-entries}

-- ---- tests

above_lower : (low : Option ℚ) (v : ℚ) → is_not_below low v ≡ true → IfSome low (λ l. l ≤ℚ v)
above_lower None v h = tt
above_lower (Some l) v h = le_from_test l v h

below_upper : (high : Option ℚ) (v : ℚ) → is_not_above high v ≡ true → IfSome high (λ u. v ≤ℚ u)
below_upper None v h = tt
below_upper (Some u) v h = le_from_test v u h

at_limit : (limit : Option ℚ) (v : ℚ) → is_at limit v ≡ true → limit ≡ Some v
at_limit None v h = cc
at_limit (Some l) v h = ap Some (same_from_test l v h)

-- what is asked by sign holds of a negative and of a positive number
asked_negative : (x : ℚ) (negative positive : Bool) → by_sign (compare_ℚ x zero_ℚ) negative positive ≡ true → x <ℚ zero_ℚ → negative ≡ true
asked_negative x negative positive h below = at (compare_ℚ x zero_ℚ) h (compare_from_lt below)
  where
    at : (o : Ordering) → by_sign o negative positive ≡ true → o ≡ Less → negative ≡ true
    at Less h e = h
    at Equal h e = cc
    at Greater h e = cc

asked_positive : (x : ℚ) (negative positive : Bool) → by_sign (compare_ℚ x zero_ℚ) negative positive ≡ true → zero_ℚ <ℚ x → positive ≡ true
asked_positive x negative positive h above =
    at (compare_ℚ x zero_ℚ) h (λ less. lt_not_le above (le_of_lt (lt_from_compare less))) (λ equal. apart_from_above above (same_from_compare equal))
  where
    at : (o : Ordering) → by_sign o negative positive ≡ true → (o ≡ Less → ⊥) → (o ≡ Equal → ⊥) → positive ≡ true
    at Less h less equal = absurd (less refl)
    at Equal h less equal = absurd (equal refl)
    at Greater h less equal = h

-- ---- parts

module _ (p : LinearProgram) where
  pub keeps_if_held : (part : ℕ) (z : Vector) → AllHold (equations p part z) → KeepsEquations p.matrix z
  keeps_if_held part z e i row =
      let here = each_hold (equation p part z) 1 p.rows i e row.0 (omega (arith, row.1)) in
      let holds = last_holds (sum_steps zero_ℚ (row_products p z i)) part i _ here in
      sym (same_from_test _ _ holds) ∙ sum_of-all (λ j. record { left = entry p.matrix i j; right = z (p.rows + j) }) p.cols

  pub within_if_held : (z : Vector) → AllHold (within_limits p z) → IsWithinLimits p z
  within_if_held z e k is =
      let here = each_hold (within_limit p z) 1 (size p.matrix) k e is.0 (omega (arith, is.1)) in
      let both = and_parts (is_not_below (lower_of p k) (z k)) (is_not_above (upper_of p k) (z k)) here.0 in
      (above_lower (lower_of p k) (z k) both.0, below_upper (upper_of p k) (z k) both.1)

  pub feasible_if_held : (z : Vector) → AllHold (feasible_point p z) → IsFeasible p z
  feasible_if_held z e =
      let both = hold-append (equations p 1 z) (within_limits p z) e in
      record { keeps = keeps_if_held 1 z both.0; within = within_if_held z both.1 }

  -- ---- columns

  module _ (matrix : IsMatrix p.matrix) where
    pub products_of_column : (y : Vector) (start : ℚ) (j : ℕ) → IsColumn p.matrix j →
        sum_of start (column_products p y j) ≡ start +ℚ sum_up_to p.rows (λ i. y i *ℚ entry p.matrix i j)
    products_of_column y start j is = sum_of-entries start y (column p.matrix j) ∙ sum_of_entries p.matrix matrix y start j is

    pub reduced_if_held : (y : Vector) → AllHold (reduced_costs p y) → AreReducedCosts p y
    reduced_if_held y e j is =
        let here = each_hold (reduced_cost p y) 1 p.cols j e is.0 (omega (arith, is.1)) in
        let priced = hold-append (combined_steps p (λ i. entry p.matrix i j)) _ here in
        let summed = hold-append (sum_steps zero_ℚ (column_products p y j)) _ priced.1 in
        sym (same_from_test _ _ summed.1.0)
        ∙ ap (λ s. cost p j -ℚ s) (products_of_column y zero_ℚ j is ∙ zero-add (sum_up_to p.rows (λ i. y i *ℚ entry p.matrix i j)))

    pub vanishes_if_held : (w : Vector) → AllHold (ray_columns p w) → VanishesOnColumns p w
    vanishes_if_held w e j is =
        let here = each_hold (ray_column p w) 1 p.cols j e is.0 (omega (arith, is.1)) in
        let holds = last_holds (sum_steps (w (p.rows + j)) (column_products p w j)) 1 (p.rows + j) _ here in
        sym (products_of_column w (w (p.rows + j)) j is) ∙ same_from_test _ _ holds

  -- ---- signs

  stands : (z y : Vector) → AllHold (standing_prices p z y) → (k : ℕ) → IsVariable p.matrix k
      → by_sign (compare_ℚ (for_min p.sense (y k)) zero_ℚ) (is_at (upper_of p k) (z k)) (is_at (lower_of p k) (z k)) ≡ true
  stands z y e k is = (each_hold (standing_price p z y) 1 (size p.matrix) k e is.0 (omega (arith, is.1))).0

  moves : (d : Vector) → AllHold (free_direction p d) → (k : ℕ) → IsVariable p.matrix k
      → by_sign (compare_ℚ (d k) zero_ℚ) (is_none (lower_of p k)) (is_none (upper_of p k)) ≡ true
  moves d e k is = (each_hold (free_to_move p d) 1 (size p.matrix) k e is.0 (omega (arith, is.1))).0

  pub free_if_held : (d : Vector) → AllHold (free_direction p d) → IsFreeDirection p d
  free_if_held d e = record {
    falls = λ k is below. no_limit (lower_of p k) (asked_negative _ _ _ (moves d e k is) below);
    rises = λ k is above. no_limit (upper_of p k) (asked_positive _ _ _ (moves d e k is) above);
  }

  -- ---- limits of a ray

  -- the numbers from first on, so many, with a multiplier other than 0
  abbrev pub multiplied_from : Vector → ℕ → ℕ → List ℕ
  multiplied_from w first n = filter (λ k. not (eq_ℚ (w k) zero_ℚ)) (numbers_from first n)

  -- the steps for the numbers after first
  abbrev later_limits : Vector → ℚ → ℕ → ℕ → List Step
  later_limits w sum first n = ray_limits p w (sum +ℚ product_of (limit_product p w first)) (multiplied_from w (suc first) n)

  -- each of these multipliers meets a limit
  met_if_held : (w : Vector) (first n k : ℕ) (sum : ℚ) → AllHold (ray_limits p w sum (multiplied_from w first n))
      → first ≤ k → k < first + n → w k ≢ zero_ℚ → is_some (limit_against p w k) ≡ true
  met_if_held w first zero k sum e low high apart = absurd (omega arith)
  met_if_held w first (suc n) k sum e low high apart =
      by_test (not (eq_ℚ (w first) zero_ℚ)) refl e (ℕ_discrete first k) (λ next e'. met_if_held w (suc first) n k next e')
    where
      by_test : (b : Bool) → not (eq_ℚ (w first) zero_ℚ) ≡ b
          → AllHold (ray_limits p w sum (cond b (first ∷ multiplied_from w (suc first) n) (multiplied_from w (suc first) n)))
          → Dec (first ≡ k)
          → ((next : ℚ) → AllHold (ray_limits p w next (multiplied_from w (suc first) n)) → suc first ≤ k → k < suc first + n → w k ≢ zero_ℚ
          → is_some (limit_against p w k) ≡ true)
          → is_some (limit_against p w k) ≡ true
      by_test true is e (yes same) later =
          ap (λ i. is_some (limit_against p w i)) (sym same)
          ∙ (hold-append (comparison 2 first (is_some (limit_against p w first)) ∷ [])
          (sum_steps sum (limit_product p w first ∷ []) ++ later_limits w sum first n) e).0.0
      by_test true is e (no other) later =
          later (sum +ℚ product_of (limit_product p w first))
          (hold-append (comparison 2 first (is_some (limit_against p w first)) ∷ sum_steps sum (limit_product p w first ∷ []))
          (later_limits w sum first n) e).1 (omega arith) (omega arith) apart
      by_test false is e (yes same) later = absurd (apart (ap w (sym same) ∙ same_from_test (w first) zero_ℚ (not-false (eq_ℚ (w first) zero_ℚ) is)))
      by_test false is e (no other) later = later sum e (omega arith) (omega arith) apart

  pub meets_if_held : (w : Vector) → AllHold (ray_limits p w zero_ℚ (multiplied p w)) → MeetsLimits p w
  meets_if_held w e =
      let met = λ (k : ℕ) (is : IsVariable p.matrix k). met_if_held w 1 (size p.matrix) k zero_ℚ e is.0 (omega (arith, is.1)) in
      record {
        meets_upper = λ k is above. ap is_some (sym (limit_of_positive p w k above)) ∙ met k is (apart_from_above above);
        meets_lower = λ k is below. ap is_some (sym (limit_of_negative p w k below)) ∙ met k is (apart_from_below below);
      }

  -- the products of the multipliers that are not 0 add up to those of all
  pub sum_of_met : (w : Vector) →
      sum_of zero_ℚ (map (limit_product p w) (multiplied p w)) ≡ sum_up_to (size p.matrix) (λ k. w k *ℚ unwrap_or (limit_against p w k) zero_ℚ)
  sum_of_met w =
      sum_of-filtered (λ k. not (eq_ℚ (w k) zero_ℚ)) (limit_product p w)
      (λ k none. ap (λ s. s *ℚ unwrap_or (limit_against p w k) zero_ℚ) (same_from_test (w k) zero_ℚ (not-false (eq_ℚ (w k) zero_ℚ) none))
      ∙ zero-mul (unwrap_or (limit_against p w k) zero_ℚ)) zero_ℚ (variables p.matrix)
      ∙ sum_of-all (limit_product p w) (size p.matrix)

  negative_if_held : (w : Vector) → AllHold (ray_sum p w) → sum_up_to (size p.matrix) (λ k. w k *ℚ unwrap_or (limit_against p w k) zero_ℚ) <ℚ zero_ℚ
  negative_if_held w e = subst (λ (s : ℚ). s <ℚ zero_ℚ) (sum_of_met w) (below_of_test e.0)

  -- ---- the checks

  pub infeasible_ray_if_held : IsMatrix p.matrix → (w : Vector) → AllHold (infeasible_steps p w) → IsRay p w
  infeasible_ray_if_held matrix w e =
      let columns = hold-append (ray_columns p w) _ e in
      let limits = hold-append (ray_limits p w zero_ℚ (multiplied p w)) (ray_sum p w) columns.1 in
      let meets = meets_if_held w limits.0 in
      record {
        vanishes = vanishes_if_held matrix w columns.0;
        meets_upper = meets.meets_upper;
        meets_lower = meets.meets_lower;
        negative = negative_if_held w limits.1;
      }

  pub optimal_if_held : IsMatrix p.matrix → (z y : Vector) → AllHold (optimal_steps p z y) → IsFeasible p z × IsDualCertificate p z y
  optimal_if_held matrix z y e =
      let point = hold-append (feasible_point p z) _ e in
      let priced = hold-append (reduced_costs p y) (standing_prices p z y) point.1 in (
        feasible_if_held z point.0,
        record {
          reduced = reduced_if_held matrix y priced.0;
          at_lower = λ k is above. at_limit (lower_of p k) (z k) (asked_positive _ _ _ (stands z y priced.1 k is) above);
          at_upper = λ k is below. at_limit (upper_of p k) (z k) (asked_negative _ _ _ (stands z y priced.1 k is) below);
        },
      )

  pub unbounded_if_held : (z d : Vector) → AllHold (unbounded_steps p z d) → ProvesUnbounded p z d
  unbounded_if_held z d e =
      let point = hold-append (feasible_point p z) _ e in
      let kept = hold-append (equations p 3 d) _ point.1 in
      let free = hold-append (free_direction p d) (improving p d) kept.1 in
      let improve = hold-append (combined_steps p d) _ free.1 in
      let moves = free_if_held d free.0 in
      record {
        feasible = feasible_if_held z point.0;
        keeps = keeps_if_held 3 d kept.0;
        falls = moves.falls;
        rises = moves.rises;
        improves = below_of_test improve.1.0;
      }

  pub crossed_if_held : (k : ℕ) → IsVariable p.matrix k → AllHold (crossed_steps p k) → IsCrossed p k
  crossed_if_held k is e = at (lower_of p k) (upper_of p k) refl refl e.0
    where
      at : (low high : Option ℚ) → lower_of p k ≡ low → upper_of p k ≡ high → is_crossed low high ≡ true → IsCrossed p k
      at (Some low) (Some high) lower upper h = record { is_variable = is; low = low; high = high; lower = lower; upper = upper; crossed = below_of_test h }
      at (Some low) None lower upper h = cc
      at None high lower upper h = cc
