-- What is said of a linear program's solutions, and the proofs that a verdict shows.
--     IsFeasible p z               z keeps the equations and lies within every limit
--     IsBest p z                   z is feasible, and no feasible vector is better
--     IsDualCertificate p z y      prices that prove the point z best
--     IsCrossed p k                the lower limit of k is above its upper one
--     IsRay p w                    multipliers by which the equations and the limits contradict each other
--     ProvesInfeasible p           a crossed variable or a ray
--     ProvesUnbounded p z d        a feasible point, and a direction in which the objective improves without end
use Rattle.std.specs.Prelude.{◌≡◌, ℕ, ◌+◌, Option, Some, None, IsSome, IfSome, if◌then◌else◌, unwrap_or}
use Rattle.exact_values.specs.Rational.{ℚ, zero_ℚ, ◌+ℚ◌, ◌-ℚ◌, ◌*ℚ◌, ◌<ℚ◌, ◌≤ℚ◌}
use Rattle.exact_values.specs.Sums.{sum_up_to}
use Rattle.exact_values.specs.Tests.{lt_ℚ}
use Rattle.lp_definitions.specs.LinearProgram.{LinearProgram, Vector, size, IsColumn, IsVariable, KeepsEquations, lower_of, upper_of, entry, cost}
use Rattle.lp_definitions.specs.LinearProgram.{objective_value, for_min}

-- within every limit; a limit itself is within
abbrev pub IsWithinLimits : LinearProgram → Vector → Type 0
IsWithinLimits p z = (k : ℕ) → IsVariable p.matrix k → IfSome (lower_of p k) (λ l. l ≤ℚ z k) × IfSome (upper_of p k) (λ u. z k ≤ℚ u)

pub record IsFeasible (p : LinearProgram) (z : Vector) : Type 0 where
  pub keeps : KeepsEquations p.matrix z
  pub within : IsWithinLimits p z

-- no feasible vector has a smaller objective where that is to be small, or a greater one where it is to be great
pub record IsBest (p : LinearProgram) (z : Vector) : Type 0 where
  pub feasible : IsFeasible p z
  pub unimproved : (w : Vector) → IsFeasible p w → for_min p.sense (objective_value p z) ≤ℚ for_min p.sense (objective_value p w)

-- the cost of each column, less the sum of the rows' prices times its numbers, is the column's price; for MIN a positive price
-- stands only at a lower limit and a negative one only at an upper limit, and for MAX the other way round
pub record IsDualCertificate (p : LinearProgram) (z y : Vector) : Type 0 where
  pub reduced : (j : ℕ) → IsColumn p.matrix j → y (p.rows + j) ≡ cost p j -ℚ sum_up_to p.rows (λ i. y i *ℚ entry p.matrix i j)
  pub at_lower : (k : ℕ) → IsVariable p.matrix k → zero_ℚ <ℚ for_min p.sense (y k) → lower_of p k ≡ Some (z k)
  pub at_upper : (k : ℕ) → IsVariable p.matrix k → for_min p.sense (y k) <ℚ zero_ℚ → upper_of p k ≡ Some (z k)

-- the lower limit is greater than the upper one
pub record IsCrossed (p : LinearProgram) (k : ℕ) : Type 0 where
  pub is_variable : IsVariable p.matrix k
  pub low : ℚ
  pub high : ℚ
  pub lower : lower_of p k ≡ Some low
  pub upper : upper_of p k ≡ Some high
  pub crossed : high <ℚ low

-- the limit that a multiplier meets: the upper one if it is positive, else the lower one
abbrev pub limit_against : LinearProgram → Vector → ℕ → Option ℚ
limit_against p w k = if lt_ℚ zero_ℚ (w k) then upper_of p k else lower_of p k

-- the multipliers vanish on each column; each that is not 0 meets a limit; and the sum of the multipliers times these limits is
-- negative
pub record IsRay (p : LinearProgram) (w : Vector) : Type 0 where
  pub vanishes : (j : ℕ) → IsColumn p.matrix j → w (p.rows + j) +ℚ sum_up_to p.rows (λ i. w i *ℚ entry p.matrix i j) ≡ zero_ℚ
  pub meets_upper : (k : ℕ) → IsVariable p.matrix k → zero_ℚ <ℚ w k → IsSome (upper_of p k)
  pub meets_lower : (k : ℕ) → IsVariable p.matrix k → w k <ℚ zero_ℚ → IsSome (lower_of p k)
  pub negative : sum_up_to (size p.matrix) (λ k. w k *ℚ unwrap_or (limit_against p w k) zero_ℚ) <ℚ zero_ℚ

-- no vector is feasible: a variable is crossed, or there is a ray
pub data ProvesInfeasible (p : LinearProgram) : Type 0 where
  by_crossed : (k : ℕ) → IsCrossed p k → ProvesInfeasible p
  by_ray : (w : Vector) → IsRay p w → ProvesInfeasible p

-- a feasible point, and a direction that keeps the equations, falls only where there is no lower limit, rises only where there is
-- no upper one, and improves the objective
pub record ProvesUnbounded (p : LinearProgram) (z d : Vector) : Type 0 where
  pub feasible : IsFeasible p z
  pub keeps : KeepsEquations p.matrix d
  pub falls : (k : ℕ) → IsVariable p.matrix k → d k <ℚ zero_ℚ → lower_of p k ≡ None
  pub rises : (k : ℕ) → IsVariable p.matrix k → zero_ℚ <ℚ d k → upper_of p k ≡ None
  pub improves : for_min p.sense (objective_value p d) <ℚ zero_ℚ

-- ---- what the proofs prove

-- no vector is feasible
abbrev pub IsInfeasible : LinearProgram → Type 0
IsInfeasible p = (z : Vector) → IsFeasible p z → ⊥

-- the feasible vector w is better than z
pub record IsBettered (p : LinearProgram) (z w : Vector) : Type 0 where
  pub feasible : IsFeasible p w
  pub improve : for_min p.sense (objective_value p w) <ℚ for_min p.sense (objective_value p z)

-- some vector is feasible, and for each feasible one there is a better one
pub record IsUnbounded (p : LinearProgram) : Type 0 where
  pub point : Vector
  pub feasible : IsFeasible p point
  pub improved : (z : Vector) → IsFeasible p z → (w : Vector) × IsBettered p z w
