-- What a check proves where it is made in any arithmetic.
--     CheckedLaws      steps that are checked have comparisons that hold; what the comparisons of each check and of its parts prove
use Rattle.std.specs.Prelude.{◌≡◌, ℕ, List}
use Rattle.lp_definitions.specs.LinearProgram.{LinearProgram, Vector, IsMatrix, IsVariable, KeepsEquations}
use Rattle.lp_definitions.specs.Solutions.{IsFeasible, IsDualCertificate, IsCrossed, IsRay, ProvesUnbounded}
use Rattle.check_definitions.specs.declared.Verdict.TheVariants.{Checked}
use Rattle.check_definitions.specs.Steps.{Arithmetic, Step, verdict_by, AllHold}
use Rattle.check_definitions.specs.Checks.{equations, feasible_point, reduced_costs, ray_columns, ray_limits, multiplied, free_direction, optimal_steps}
use Rattle.check_definitions.specs.Checks.{crossed_steps, infeasible_steps, unbounded_steps}
use Rattle.exact_values.specs.Rational.{zero_ℚ}
use Rattle.certificate_laws.specs.Parts.{AreReducedCosts, VanishesOnColumns, MeetsLimits, IsFreeDirection}

pub record CheckedLaws : Type 0 where
  pub checked : (A : Arithmetic) (steps : List Step) → verdict_by A steps ≡ Checked → AllHold steps
  -- ---- the checks
  pub optimal : (p : LinearProgram) → IsMatrix p.matrix → (z y : Vector) → AllHold (optimal_steps p z y) → IsFeasible p z × IsDualCertificate p z y
  pub crossed : (p : LinearProgram) (k : ℕ) → IsVariable p.matrix k → AllHold (crossed_steps p k) → IsCrossed p k
  pub infeasible : (p : LinearProgram) → IsMatrix p.matrix → (w : Vector) → AllHold (infeasible_steps p w) → IsRay p w
  pub unbounded : (p : LinearProgram) (z d : Vector) → AllHold (unbounded_steps p z d) → ProvesUnbounded p z d
  -- ---- their parts
  pub keeps : (p : LinearProgram) (part : ℕ) (z : Vector) → AllHold (equations p part z) → KeepsEquations p.matrix z
  pub feasible : (p : LinearProgram) (z : Vector) → AllHold (feasible_point p z) → IsFeasible p z
  pub reduced : (p : LinearProgram) → IsMatrix p.matrix → (y : Vector) → AllHold (reduced_costs p y) → AreReducedCosts p y
  pub vanishes : (p : LinearProgram) → IsMatrix p.matrix → (w : Vector) → AllHold (ray_columns p w) → VanishesOnColumns p w
  pub meets : (p : LinearProgram) (w : Vector) → AllHold (ray_limits p w zero_ℚ (multiplied p w)) → MeetsLimits p w
  pub free : (p : LinearProgram) (d : Vector) → AllHold (free_direction p d) → IsFreeDirection p d
