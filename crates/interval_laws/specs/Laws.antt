-- What proves a whole interval of a parametric run, or all that comes after its last one, by finitely many tests.
--     point_at part, prices_at part       the point and the prices of an interval at a value of the parameter
--     StandAtBoth p q z w y        the prices y ask for the same limits of z in p and of w in q
--     IsProvedAtEnds family part   both ends of the interval are proved best, and the prices of each stand at both
--     ClosesUnbounded p h t z d    at t the point and the direction show that there is no best point past t
--     ClosesInfeasible p shift t w at t the multipliers show that no point is feasible past t
--     BetweenLaws, PastLaws        what is so proved at the ends holds between them; what so closes at t holds past t
use Rattle.std.specs.Prelude.{◌≡◌, ℕ, ◌+◌, List, Some, None, IsSome, unwrap_or}
use Rattle.exact_values.specs.Rational.{ℚ, zero_ℚ, ◌+ℚ◌, ◌*ℚ◌, ◌≤ℚ◌, ◌<ℚ◌}
use Rattle.exact_values.specs.Sums.{sum_up_to}
use Rattle.lp_definitions.specs.LinearProgram.{LinearProgram, Vector, value_at, size, IsRow, IsColumn, IsVariable, KeepsEquations, lower_of, upper_of, entry}
use Rattle.lp_definitions.specs.LinearProgram.{for_min, HasNoLimits, IsLinearProgram}
use Rattle.lp_definitions.specs.Solutions.{IsFeasible, limit_against}
use Rattle.simplex_definitions.specs.Chain.{Part, along}
use Rattle.simplex_definitions.specs.ObjectiveRun.{objective_family}
use Rattle.simplex_definitions.specs.RhsRun.{rhs_family}
use Rattle.parametric_laws.specs.Truth.{IsBestBy, IsTruePart, IsUnboundedBy, IsRefutedBy}

-- ---- between the ends of an interval

abbrev pub point_at : Part → ℚ → Vector
point_at part theta = along theta part.value part.value_rate

abbrev pub prices_at : Part → ℚ → Vector
prices_at part theta = along theta part.price part.price_rate

-- Where a price, as it counts where less is better, is positive, the variable stands at its lower limit in both linear programs, each
-- time in the point that goes with that program; where it is negative, at its upper limit in both.
pub record StandAtBoth (p q : LinearProgram) (z w y : Vector) : Type 0 where
  pub lower : (k : ℕ) → IsVariable p.matrix k → zero_ℚ <ℚ for_min p.sense (y k) → (lower_of p k ≡ Some (z k)) × (lower_of q k ≡ Some (w k))
  pub upper : (k : ℕ) → IsVariable p.matrix k → for_min p.sense (y k) <ℚ zero_ℚ → (upper_of p k ≡ Some (z k)) × (upper_of q k ≡ Some (w k))

-- At both ends the point is best and the prices prove it, and the prices of each end stand at both. Without the last, a price that
-- changes its sign between the ends could stand at one limit at the first and at the other at the last, and so nowhere between.
pub record IsProvedAtEnds (family : ℚ → LinearProgram) (part : Part) : Type 0 where
  pub forward : part.from ≤ℚ part.to
  pub first : IsBestBy (family part.from) (point_at part part.from) (prices_at part part.from)
  pub last : IsBestBy (family part.to) (point_at part part.to) (prices_at part part.to)
  pub first_prices : StandAtBoth (family part.from) (family part.to) (point_at part part.from) (point_at part part.to) (prices_at part part.from)
  pub last_prices : StandAtBoth (family part.from) (family part.to) (point_at part part.from) (point_at part part.to) (prices_at part part.to)

-- an interval that is proved at its ends is true at every value of the parameter in it
abbrev pub HoldsBetween : (ℚ → LinearProgram) → Type 0
HoldsBetween family = (max : ℚ) (part : Part) → part.to ≤ℚ max → IsProvedAtEnds family part → IsTruePart family max part

pub record BetweenLaws : Type 0 where
  -- theta times a row without limits is added to the objective
  pub objective : (p : LinearProgram) (h : ℕ) → IsLinearProgram p → IsRow p.matrix h → HasNoLimits p h → HoldsBetween (objective_family p h)
  -- theta times its shift is added to the limits of each row
  pub rhs : (p : LinearProgram) (shift : List ℚ) → IsLinearProgram p → HoldsBetween (rhs_family p shift)

-- ---- past the last interval

-- A feasible point, and a direction from it that keeps all limits however far it goes. At t the objective doesn't get worse along the
-- direction, and the activity of the change row gets better.
pub record ClosesUnbounded (p : LinearProgram) (h : ℕ) (t : ℚ) (z d : Vector) : Type 0 where
  pub feasible : IsFeasible p z
  pub keeps : KeepsEquations p.matrix d
  pub falls : (k : ℕ) → IsVariable p.matrix k → d k <ℚ zero_ℚ → lower_of p k ≡ None
  pub rises : (k : ℕ) → IsVariable p.matrix k → zero_ℚ <ℚ d k → upper_of p k ≡ None
  pub not_worse : for_min p.sense (d p.objective +ℚ t *ℚ d h) ≤ℚ zero_ℚ
  pub improves : for_min p.sense (d h) <ℚ zero_ℚ

-- Multipliers that vanish on each column and meet a limit wherever they aren't 0, by what the linear program is at t. Times these limits
-- they add up to no more than 0, and times the shifts of the rows to less than 0.
pub record ClosesInfeasible (p : LinearProgram) (shift : List ℚ) (t : ℚ) (w : Vector) : Type 0 where
  pub vanishes : (j : ℕ) → IsColumn p.matrix j → w (p.rows + j) +ℚ sum_up_to p.rows (λ i. w i *ℚ entry p.matrix i j) ≡ zero_ℚ
  pub meets_upper : (k : ℕ) → IsVariable p.matrix k → zero_ℚ <ℚ w k → IsSome (upper_of (rhs_family p shift t) k)
  pub meets_lower : (k : ℕ) → IsVariable p.matrix k → w k <ℚ zero_ℚ → IsSome (lower_of (rhs_family p shift t) k)
  pub not_positive : sum_up_to (size p.matrix) (λ k. w k *ℚ unwrap_or (limit_against (rhs_family p shift t) w k) zero_ℚ) ≤ℚ zero_ℚ
  pub falls : sum_up_to p.rows (λ i. w i *ℚ value_at shift i) <ℚ zero_ℚ

pub record PastLaws : Type 0 where
  -- theta times row h is added to the objective
  pub unbounded : (p : LinearProgram) (h : ℕ) (t theta : ℚ) (z d : Vector) → ClosesUnbounded p h t z d → t <ℚ theta →
      IsUnboundedBy (objective_family p h theta) z d
  -- theta times its shift is added to the limits of each row
  pub infeasible : (p : LinearProgram) (shift : List ℚ) (t theta : ℚ) (w : Vector) → ClosesInfeasible p shift t w → t <ℚ theta →
      IsRefutedBy (rhs_family p shift theta) w
