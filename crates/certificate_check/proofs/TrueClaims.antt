-- A check of a true claim never fails: each of its comparisons holds.
use Rattle.std.proofs.Common.{◌≡◌, ℕ, Bool, true, false, List, [], ◌∷◌, ◌++◌, ap}
use Rattle.std.specs.Prelude.{if◌then◌else◌}
use Rattle.frac128.specs.Operations.{refuses}
use Rattle.exact_values.specs.Rational.{zero_ℚ}
use Rattle.lp_definitions.specs.LinearProgram.{LinearProgram, Vector, IsMatrix, KeepsEquations}
use Rattle.lp_definitions.specs.Solutions.{IsFeasible, IsDualCertificate, IsCrossed, IsRay, ProvesUnbounded}
use Rattle.check_definitions.specs.declared.Verdict.TheVariants.{Checked, Failed, Unchecked}
use Rattle.check_definitions.specs.Steps.{Step, operation, comparison, AllHold, verdict_of}
use Rattle.check_definitions.specs.Checks.{equations, feasible_point, reduced_costs, standing_prices, ray_columns, multiplied, ray_limits, ray_sum}
use Rattle.check_definitions.specs.Checks.{free_direction, improving, crossed_check}
use Rattle.certificate_laws.specs.Parts.{AreReducedCosts, VanishesOnColumns, MeetsLimits, IsFreeDirection}
use Rattle.certificate_laws.proofs.Truth.{equations_hold, point_holds, costs_hold, optimal_holds, free_holds, unbounded_holds}
use Rattle.certificate_laws.proofs.Truth.{crossed_holds as crossed_steps_hold, columns_hold, limits_met_hold, infeasible_holds}

-- no comparison of these steps fails before an operation is refused
pub record NeverFails (steps : List Step) : Type 0 where
  pub never : (part number : ℕ) → verdict_of steps ≡ Failed part number → ⊥

-- what holds never fails
not_failed : (steps : List Step) → AllHold steps → (part number : ℕ) → verdict_of steps ≡ Failed part number → ⊥
not_failed [] h part number e = cc
not_failed (operation op x y ∷ steps) h part number e = at (refuses op x y) e (not_failed steps h part number)
  where
    at : (b : Bool) → (if b then Unchecked (record { op = op; left = x; right = y }) else verdict_of steps) ≡ Failed part number →
        (verdict_of steps ≡ Failed part number → ⊥) → ⊥
    at true e later = cc
    at false e later = later e
not_failed (comparison one two true ∷ steps) h part number e = not_failed steps h.1 part number e
not_failed (comparison one two false ∷ steps) h part number e = let holds : false ≡ true = h.0 in cc holds

never_where_true : (steps : List Step) → AllHold steps → NeverFails steps
never_where_true steps h = record { never = not_failed steps h }

-- ---- parts

module _ (p : LinearProgram) where
  pub never_equations : (part : ℕ) (z : Vector) → KeepsEquations p.matrix z → NeverFails (equations p part z)
  never_equations part z keeps = never_where_true _ (equations_hold p part z keeps)

  pub never_point : (z : Vector) → IsFeasible p z → NeverFails (feasible_point p z)
  never_point z h = never_where_true _ (point_holds p z h)

  pub never_costs : IsMatrix p.matrix → (y : Vector) → AreReducedCosts p y → NeverFails (reduced_costs p y)
  never_costs matrix y reduced = never_where_true _ (costs_hold p matrix y reduced)

  pub never_optimal : IsMatrix p.matrix → (z y : Vector) → IsFeasible p z → IsDualCertificate p z y →
      NeverFails (feasible_point p z ++ (reduced_costs p y ++ standing_prices p z y))
  never_optimal matrix z y feasible certificate = never_where_true _ (optimal_holds p matrix z y feasible certificate)

  pub never_free : (d : Vector) → IsFreeDirection p d → NeverFails (free_direction p d)
  never_free d free = never_where_true _ (free_holds p d free)

  pub never_unbounded : (z d : Vector) → ProvesUnbounded p z d → NeverFails (feasible_point p z ++ (equations p 3 d ++ (free_direction p d ++ improving p d)))
  never_unbounded z d h = never_where_true _ (unbounded_holds p z d h)

  pub crossed_holds : (k : ℕ) → IsCrossed p k → crossed_check p k ≡ Checked
  crossed_holds k h = let holds = crossed_steps_hold p k h in ap (λ b. verdict_of (comparison 1 k b ∷ [])) holds.0

  -- ---- rays

  pub never_columns : IsMatrix p.matrix → (w : Vector) → VanishesOnColumns p w → NeverFails (ray_columns p w)
  never_columns matrix w vanishes = never_where_true _ (columns_hold p matrix w vanishes)

  pub never_limits_met : (w : Vector) → MeetsLimits p w → NeverFails (ray_limits p w zero_ℚ (multiplied p w))
  never_limits_met w meets = never_where_true _ (limits_met_hold p w meets)

  pub never_infeasible : IsMatrix p.matrix → (w : Vector) → IsRay p w → NeverFails (ray_columns p w ++ (ray_limits p w zero_ℚ (multiplied p w) ++ ray_sum p w))
  never_infeasible matrix w ray = never_where_true _ (infeasible_holds p matrix w ray)
