-- What an outcome says of the linear program. A list holds the values of a vector, one for each variable.
--     IsProvedBest p point prices             no feasible vector is better than the feasible point, and the prices prove it
--     IsProvedCrossed p k                     k is crossed, and so no vector is feasible
--     IsProvedInfeasible p ray                no vector is feasible, and the ray proves it
--     IsProvedUnbounded p point direction     there is no best vector, and the feasible point and the direction prove it
--     IsTrueOutcome p outcome                 what the outcome says holds, and what it shows proves it
use Rattle.std.specs.Prelude.{◌≡◌, ℕ, List, length}
use Rattle.exact_values.specs.Rational.{ℚ}
use Rattle.lp_definitions.specs.LinearProgram.{LinearProgram, size, value_at}
use Rattle.lp_definitions.specs.Solutions.{IsBest, IsDualCertificate, IsCrossed, IsRay, ProvesUnbounded, IsInfeasible, IsUnbounded}
use Rattle.lp_model.specs.declared.reports.Outcome.{Outcome}
use Rattle.lp_model.specs.declared.reports.Outcome.TheVariants.{Optimal, Crossed, Infeasible, Unbounded}

pub record IsProvedBest (p : LinearProgram) (point prices : List ℚ) : Type 0 where
  pub point_places : length point ≡ size p.matrix
  pub price_places : length prices ≡ size p.matrix
  pub best : IsBest p (value_at point)
  pub certificate : IsDualCertificate p (value_at point) (value_at prices)

pub record IsProvedCrossed (p : LinearProgram) (k : ℕ) : Type 0 where
  pub crossed : IsCrossed p k
  pub infeasible : IsInfeasible p

pub record IsProvedInfeasible (p : LinearProgram) (ray : List ℚ) : Type 0 where
  pub ray_places : length ray ≡ size p.matrix
  pub certificate : IsRay p (value_at ray)
  pub infeasible : IsInfeasible p

pub record IsProvedUnbounded (p : LinearProgram) (point direction : List ℚ) : Type 0 where
  pub point_places : length point ≡ size p.matrix
  pub direction_places : length direction ≡ size p.matrix
  pub certificate : ProvesUnbounded p (value_at point) (value_at direction)
  pub unbounded : IsUnbounded p

abbrev pub IsTrueOutcome : LinearProgram → Outcome → Type 0
IsTrueOutcome p (Optimal steps point prices) = IsProvedBest p point prices
IsTrueOutcome p (Crossed k) = IsProvedCrossed p k
IsTrueOutcome p (Infeasible steps ray) = IsProvedInfeasible p ray
IsTrueOutcome p (Unbounded steps point direction) = IsProvedUnbounded p point direction
