-- What is true is shown so: each comparison of the check of a true claim holds, and each of its parts.
use Rattle.std.proofs.Common.{◌≡◌, ◌≢◌, ℕ, zero, suc, ◌+◌, ◌<◌, ◌≤◌, List, [], ◌∷◌, ◌++◌, subst, refl, sym, ap, ◌∙◌, arith, Bool, true, false, not, cond}
use Rattle.std.proofs.Common.{Option, Some, None, Less, Equal, Greater}
use Rattle.std.specs.Prelude.{is_some, is_none, IfSome}
use Rattle.std.specs.List.{flat_map}
use Rattle.std.specs.declared.cmp.Ordering.{Ordering}
use Rattle.std.proofs.lemmas.Bool.{and_from}
use Rattle.std.proofs.lemmas.Option.{same_Some}
use Rattle.exact_values.specs.Rational.{ℚ, zero_ℚ, ◌+ℚ◌, ◌-ℚ◌, ◌*ℚ◌, ◌≤ℚ◌, ◌<ℚ◌, compare_ℚ}
use Rattle.exact_values.specs.Sums.{sum_up_to}
use Rattle.exact_values.specs.Tests.{eq_ℚ}
use Rattle.exact_values.proofs.TestsLaws.{test_from_le, test_from_same}
use Rattle.exact_values.proofs.Compare.{lt_from_compare, same_from_compare, gt_from_compare}
use Rattle.exact_values.proofs.RingLaws.{zero-add}
use Rattle.lp_definitions.specs.declared.Change.{Change}
use Rattle.lp_definitions.specs.LinearProgram.{LinearProgram, Vector, IsMatrix, IsColumn, IsVariable, KeepsEquations, numbers_from, entry, lower_of, upper_of}
use Rattle.lp_definitions.specs.LinearProgram.{cost, for_min, size}
use Rattle.lp_definitions.specs.Solutions.{IsWithinLimits, IsFeasible, IsDualCertificate, IsCrossed, IsRay, ProvesUnbounded, limit_against}
use Rattle.lp_laws.proofs.Duality.{test_of_below}
use Rattle.lp_laws.proofs.Rays.{limit_of_positive, limit_of_negative}
use Rattle.check_definitions.specs.Steps.{Step, operation, comparison, AllHold, Product, product_of, sum_steps, sum_of}
use Rattle.check_definitions.specs.Checks.{is_not_below, is_not_above, is_at, is_crossed, by_sign, change_steps, combined_steps, row_products, equation}
use Rattle.check_definitions.specs.Checks.{equations, within_limit, within_limits, feasible_point, column_products, reduced_cost, reduced_costs, standing_price}
use Rattle.check_definitions.specs.Checks.{standing_prices, ray_column, ray_columns, multiplied, limit_product, ray_limits, ray_sum, free_to_move}
use Rattle.check_definitions.specs.Checks.{free_direction, improving, optimal_steps, crossed_steps, infeasible_steps, unbounded_steps}
use Rattle.certificate_laws.specs.Parts.{AreReducedCosts, VanishesOnColumns, MeetsLimits, IsFreeDirection}
use Rattle.certificate_laws.proofs.Products.{sum_of-all}
use Rattle.certificate_laws.proofs.Meaning.{multiplied_from, products_of_column, sum_of_met}

-- ---- steps that follow one another

pub both_hold : (xs ys : List Step) → AllHold xs → AllHold ys → AllHold (xs ++ ys)
both_hold [] ys h k = k
both_hold (operation op x y ∷ xs) ys h k = both_hold xs ys h k
both_hold (comparison part number holds ∷ xs) ys h k = (h.0, both_hold xs ys h.1 k)

-- a sum compares nothing
pub sum_holds : (start : ℚ) (ts : List Product) → AllHold (sum_steps start ts)
sum_holds start [] = tt
sum_holds start (t ∷ ts) = sum_holds (start +ℚ product_of t) ts

-- the same steps for each of a list of numbers
pub all_hold : (f : ℕ → List Step) (first n : ℕ) → ((k : ℕ) → first ≤ k → k < first + n → AllHold (f k)) → AllHold (flat_map f (numbers_from first n))
all_hold f first zero h = tt
all_hold f first (suc n) h =
    both_hold (f first) (flat_map f (numbers_from (suc first) n)) (h first (omega arith) (omega arith))
    (all_hold f (suc first) n (λ k low high. h k (omega arith) (omega arith)))

-- ---- tests

is_above : (low : Option ℚ) (v : ℚ) → IfSome low (λ l. l ≤ℚ v) → is_not_below low v ≡ true
is_above None v h = refl
is_above (Some l) v h = test_from_le l v h

is_below : (high : Option ℚ) (v : ℚ) → IfSome high (λ u. v ≤ℚ u) → is_not_above high v ≡ true
is_below None v h = refl
is_below (Some u) v h = test_from_le v u h

pub stands : (limit : Option ℚ) (v : ℚ) → limit ≡ Some v → is_at limit v ≡ true
stands None v e = cc
stands (Some l) v e = test_from_same l v (same_Some l v e)

absent : (limit : Option ℚ) → limit ≡ None → is_none limit ≡ true
absent None e = refl
absent (Some l) e = cc

pub sign_holds : (x : ℚ) (negative positive : Bool) → (x <ℚ zero_ℚ → negative ≡ true) → (zero_ℚ <ℚ x → positive ≡ true) →
    by_sign (compare_ℚ x zero_ℚ) negative positive ≡ true
sign_holds x negative positive below above = at (compare_ℚ x zero_ℚ) (λ less. below (lt_from_compare less)) (λ greater. above (gt_from_compare greater))
  where
    at : (o : Ordering) → (o ≡ Less → negative ≡ true) → (o ≡ Greater → positive ≡ true) → by_sign o negative positive ≡ true
    at Less less greater = less refl
    at Equal less greater = refl
    at Greater less greater = greater refl

-- ---- parts

module _ (p : LinearProgram) where
  combined_holds : (f : Vector) → AllHold (combined_steps p f)
  combined_holds f = at p.change
    where
      at : (c : Option Change) → AllHold (change_steps c f (f p.objective))
      at None = tt
      at (Some c) = sum_holds (f p.objective) (record { left = c.theta; right = f c.row } ∷ [])

  pub equations_hold : (part : ℕ) (z : Vector) → KeepsEquations p.matrix z → AllHold (equations p part z)
  equations_hold part z keeps = all_hold (equation p part z) 1 p.rows (λ i low high.
      both_hold (sum_steps zero_ℚ (row_products p z i)) (comparison part i (eq_ℚ (sum_of zero_ℚ (row_products p z i)) (z i)) ∷ [])
      (sum_holds zero_ℚ (row_products p z i))
      (test_from_same _ _ (sum_of-all (λ j. record { left = entry p.matrix i j; right = z (p.rows + j) }) p.cols ∙ sym (keeps i (low, omega arith))), tt))

  limits_hold : (z : Vector) → IsWithinLimits p z → AllHold (within_limits p z)
  limits_hold z within = all_hold (within_limit p z) 1 (size p.matrix) (λ k low high.
      let both = within k (low, omega arith) in (
        and_from (is_not_below (lower_of p k) (z k)) (is_not_above (upper_of p k) (z k)) (is_above (lower_of p k) (z k) both.0)
            (is_below (upper_of p k) (z k) both.1),
        tt,
      ))

  pub point_holds : (z : Vector) → IsFeasible p z → AllHold (feasible_point p z)
  point_holds z h = both_hold (equations p 1 z) (within_limits p z) (equations_hold 1 z h.keeps) (limits_hold z h.within)

  pub costs_hold : IsMatrix p.matrix → (y : Vector) → AreReducedCosts p y → AllHold (reduced_costs p y)
  costs_hold matrix y reduced = all_hold (reduced_cost p y) 1 p.cols (λ j low high.
      let total = sum_of zero_ℚ (column_products p y j) in
      let is : IsColumn p.matrix j = (low, omega arith) in
      let same : cost p j -ℚ total ≡ y (p.rows + j) =
      ap (λ (s : ℚ). cost p j -ℚ s) (products_of_column p matrix y zero_ℚ j is ∙ zero-add (sum_up_to p.rows (λ i. y i *ℚ entry p.matrix i j)))
      ∙ sym (reduced j is) in
      both_hold (combined_steps p (λ i. entry p.matrix i j)) _ (combined_holds (λ i. entry p.matrix i j))
      (both_hold (sum_steps zero_ℚ (column_products p y j)) _ (sum_holds zero_ℚ (column_products p y j)) (test_from_same _ _ same, tt)))

  pub optimal_holds : IsMatrix p.matrix → (z y : Vector) → IsFeasible p z → IsDualCertificate p z y → AllHold (optimal_steps p z y)
  optimal_holds matrix z y feasible certificate =
      both_hold (feasible_point p z) (reduced_costs p y ++ standing_prices p z y) (point_holds z feasible)
      (both_hold (reduced_costs p y) (standing_prices p z y) (costs_hold matrix y certificate.reduced)
      (all_hold (standing_price p z y) 1 (size p.matrix) (λ k low high.
      let is : IsVariable p.matrix k = (low, omega arith) in (
        sign_holds (for_min p.sense (y k)) (is_at (upper_of p k) (z k)) (is_at (lower_of p k) (z k))
            (λ below. stands (upper_of p k) (z k) (certificate.at_upper k is below)) (λ above. stands (lower_of p k) (z k) (certificate.at_lower k is above)),
        tt,
      ))))

  pub free_holds : (d : Vector) → IsFreeDirection p d → AllHold (free_direction p d)
  free_holds d free = all_hold (free_to_move p d) 1 (size p.matrix) (λ k low high.
      let is : IsVariable p.matrix k = (low, omega arith) in (
        sign_holds (d k) (is_none (lower_of p k)) (is_none (upper_of p k)) (λ below. absent (lower_of p k) (free.falls k is below))
            (λ above. absent (upper_of p k) (free.rises k is above)),
        tt,
      ))

  pub unbounded_holds : (z d : Vector) → ProvesUnbounded p z d → AllHold (unbounded_steps p z d)
  unbounded_holds z d h =
      both_hold (feasible_point p z) (equations p 3 d ++ (free_direction p d ++ improving p d)) (point_holds z h.feasible)
      (both_hold (equations p 3 d) (free_direction p d ++ improving p d) (equations_hold 3 d h.keeps)
      (both_hold (free_direction p d) (improving p d) (free_holds d (record { falls = h.falls; rises = h.rises }))
      (both_hold (combined_steps p d) _ (combined_holds d) (test_of_below h.improves, tt))))

  pub crossed_holds : (k : ℕ) → IsCrossed p k → AllHold (crossed_steps p k)
  crossed_holds k h =
      (ap (λ (o : Option ℚ). is_crossed o (upper_of p k)) h.lower ∙ ap (λ (o : Option ℚ). is_crossed (Some h.low) o) h.upper ∙ test_of_below h.crossed, tt)

  -- ---- rays

  pub columns_hold : IsMatrix p.matrix → (w : Vector) → VanishesOnColumns p w → AllHold (ray_columns p w)
  columns_hold matrix w vanishes = all_hold (ray_column p w) 1 p.cols (λ j low high.
      let is : IsColumn p.matrix j = (low, omega arith) in
      both_hold (sum_steps (w (p.rows + j)) (column_products p w j)) _ (sum_holds (w (p.rows + j)) (column_products p w j))
      (test_from_same _ _ (products_of_column p matrix w (w (p.rows + j)) j is ∙ vanishes j is), tt))

  -- each multiplier that is not 0 meets a limit
  met : (w : Vector) → MeetsLimits p w → (k : ℕ) → IsVariable p.matrix k → w k ≢ zero_ℚ → is_some (limit_against p w k) ≡ true
  met w meets k is apart =
      at (compare_ℚ (w k) zero_ℚ) (λ less. below (lt_from_compare less)) (λ equal. apart (same_from_compare equal)) (λ greater. above (gt_from_compare greater))
    where
      below : w k <ℚ zero_ℚ → is_some (limit_against p w k) ≡ true
      below h = ap is_some (limit_of_negative p w k h) ∙ meets.meets_lower k is h

      above : zero_ℚ <ℚ w k → is_some (limit_against p w k) ≡ true
      above h = ap is_some (limit_of_positive p w k h) ∙ meets.meets_upper k is h

      at : (o : Ordering) → (o ≡ Less → is_some (limit_against p w k) ≡ true) → (o ≡ Equal → ⊥) → (o ≡ Greater → is_some (limit_against p w k) ≡ true) →
          is_some (limit_against p w k) ≡ true
      at Less less equal greater = less refl
      at Equal less equal greater = absurd (equal refl)
      at Greater less equal greater = greater refl

  met_hold : (w : Vector) (first n : ℕ) (sum : ℚ) → ((k : ℕ) → first ≤ k → k < first + n → w k ≢ zero_ℚ → is_some (limit_against p w k) ≡ true) →
      AllHold (ray_limits p w sum (multiplied_from p w first n))
  met_hold w first zero sum all = tt
  met_hold w first (suc n) sum all =
      by_test (not (eq_ℚ (w first) zero_ℚ)) (λ is. all first (omega arith) (omega arith) (λ e. apart_by_test e is))
      (λ next. met_hold w (suc first) n next (λ k low high. all k (omega arith) (omega arith)))
    where
      apart_by_test : w first ≡ zero_ℚ → not (eq_ℚ (w first) zero_ℚ) ≡ true → ⊥
      apart_by_test e is = let same : eq_ℚ (w first) zero_ℚ ≡ true = test_from_same _ _ e in let clash : not true ≡ true = ap not (sym same) ∙ is in cc

      by_test : (b : Bool) → (b ≡ true → is_some (limit_against p w first) ≡ true)
          → ((next : ℚ) → AllHold (ray_limits p w next (multiplied_from p w (suc first) n)))
          → AllHold (ray_limits p w sum (cond b (first ∷ multiplied_from p w (suc first) n) (multiplied_from p w (suc first) n)))
      by_test true here later = (here refl, later (sum +ℚ product_of (limit_product p w first)))
      by_test false here later = later sum

  pub limits_met_hold : (w : Vector) → MeetsLimits p w → AllHold (ray_limits p w zero_ℚ (multiplied p w))
  limits_met_hold w meets = met_hold w 1 (size p.matrix) zero_ℚ (λ k low high. met w meets k (low, omega arith))

  pub infeasible_holds : IsMatrix p.matrix → (w : Vector) → IsRay p w → AllHold (infeasible_steps p w)
  infeasible_holds matrix w ray =
      both_hold (ray_columns p w) (ray_limits p w zero_ℚ (multiplied p w) ++ ray_sum p w) (columns_hold matrix w ray.vanishes)
      (both_hold (ray_limits p w zero_ℚ (multiplied p w)) (ray_sum p w)
      (limits_met_hold w (record { meets_upper = ray.meets_upper; meets_lower = ray.meets_lower }))
      (test_of_below (subst (λ (s : ℚ). s <ℚ zero_ℚ) (sym (sum_of_met p w)) ray.negative), tt))
