-- What the parts of a check say where they are checked in numbers of 128 bits: their comparisons hold then.
use Rattle.std.proofs.Common.{◌≡◌, ℕ}
use Rattle.exact_values.specs.Rational.{zero_ℚ}
use Rattle.lp_definitions.specs.LinearProgram.{LinearProgram, Vector, IsMatrix, IsVariable, KeepsEquations}
use Rattle.lp_definitions.specs.Solutions.{IsFeasible, IsDualCertificate, IsCrossed, IsRay, ProvesUnbounded}
use Rattle.check_definitions.specs.declared.Verdict.TheVariants.{Checked}
use Rattle.check_definitions.specs.Steps.{of_128_bits, verdict_of}
use Rattle.check_definitions.specs.Checks.{equations, feasible_point, reduced_costs, ray_columns, multiplied, ray_limits, free_direction, optimal_steps}
use Rattle.check_definitions.specs.Checks.{crossed_steps, infeasible_steps, unbounded_steps, optimal_check, crossed_check, infeasible_check, unbounded_check}
use Rattle.check_definitions.proofs.Holding.{checked_hold}
use Rattle.certificate_laws.specs.Parts.{AreReducedCosts, VanishesOnColumns, MeetsLimits, IsFreeDirection}
use Rattle.certificate_laws.proofs.Meaning.{keeps_if_held, feasible_if_held, reduced_if_held, vanishes_if_held, free_if_held, meets_if_held}
use Rattle.certificate_laws.proofs.Meaning.{infeasible_ray_if_held, optimal_if_held, unbounded_if_held, crossed_if_held}

module _ (p : LinearProgram) where
  pub keeps_if_checked : (part : ℕ) (z : Vector) → verdict_of (equations p part z) ≡ Checked → KeepsEquations p.matrix z
  keeps_if_checked part z e = keeps_if_held p part z (checked_hold of_128_bits (equations p part z) e)

  pub feasible_if_checked : (z : Vector) → verdict_of (feasible_point p z) ≡ Checked → IsFeasible p z
  feasible_if_checked z e = feasible_if_held p z (checked_hold of_128_bits (feasible_point p z) e)

  pub reduced_if_checked : IsMatrix p.matrix → (y : Vector) → verdict_of (reduced_costs p y) ≡ Checked → AreReducedCosts p y
  reduced_if_checked matrix y e = reduced_if_held p matrix y (checked_hold of_128_bits (reduced_costs p y) e)

  pub vanishes_if_checked : IsMatrix p.matrix → (w : Vector) → verdict_of (ray_columns p w) ≡ Checked → VanishesOnColumns p w
  vanishes_if_checked matrix w e = vanishes_if_held p matrix w (checked_hold of_128_bits (ray_columns p w) e)

  pub meets_if_checked : (w : Vector) → verdict_of (ray_limits p w zero_ℚ (multiplied p w)) ≡ Checked → MeetsLimits p w
  meets_if_checked w e = meets_if_held p w (checked_hold of_128_bits (ray_limits p w zero_ℚ (multiplied p w)) e)

  pub free_if_checked : (d : Vector) → verdict_of (free_direction p d) ≡ Checked → IsFreeDirection p d
  free_if_checked d e = free_if_held p d (checked_hold of_128_bits (free_direction p d) e)

  -- ---- the checks

  pub infeasible_ray_if_checked : IsMatrix p.matrix → (w : Vector) → infeasible_check p w ≡ Checked → IsRay p w
  infeasible_ray_if_checked matrix w e = infeasible_ray_if_held p matrix w (checked_hold of_128_bits (infeasible_steps p w) e)

  pub optimal_if_checked : IsMatrix p.matrix → (z y : Vector) → optimal_check p z y ≡ Checked → IsFeasible p z × IsDualCertificate p z y
  optimal_if_checked matrix z y e = optimal_if_held p matrix z y (checked_hold of_128_bits (optimal_steps p z y) e)

  pub unbounded_if_checked : (z d : Vector) → unbounded_check p z d ≡ Checked → ProvesUnbounded p z d
  unbounded_if_checked z d e = unbounded_if_held p z d (checked_hold of_128_bits (unbounded_steps p z d) e)

  pub crossed_if_checked : (k : ℕ) → IsVariable p.matrix k → crossed_check p k ≡ Checked → IsCrossed p k
  crossed_if_checked k is e = crossed_if_held p k is (checked_hold of_128_bits (crossed_steps p k) e)
