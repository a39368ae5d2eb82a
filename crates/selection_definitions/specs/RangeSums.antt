-- The sums that a selection makes: a row's right-hand side, and the magnitude of its range in the chosen set added or subtracted.
use Rattle.std.specs.Prelude.{◌≡◌, ℕ, ◌+◌, Some, slice_get}
use Rattle.exact_values.specs.Rational.{ℚ, zero_ℚ}
use Rattle.exact_values.specs.Tests.{magnitude}
use Rattle.frac128.specs.declared.Op.{Op}
use Rattle.lp_definitions.specs.declared.Evidence.{Evidence}
use Rattle.lp_definitions.specs.RatesEvidence.{Names, Refuses}
use Rattle.problem_definitions.specs.Problem.{Row, Problem}
use Rattle.selection_definitions.specs.Choice.{Choice}
use Rattle.selection_definitions.specs.Limits.{range_operation}
use Rattle.selection_definitions.specs.Selection.{rhs_of, range_of}

-- the formula of these sums
abbrev pub range_formula : ℕ
range_formula = 13

-- The evidence names a row with a range in the chosen set, and the sum that its limit is made by is refused. It has no waypoint, and
-- the parameter is 0.
pub record IsRangeRefusal (problem : Problem ℕ) (choice : Choice) (e : Evidence) : Type 0 where
  pub place : ℕ
  pub row : Row ℕ
  pub is_row : slice_get problem.rows place ≡ Some row
  pub range : ℚ
  pub has_range : range_of problem choice (place + 1) ≡ Some range
  pub op : Op
  pub is_op : range_operation row.kind range ≡ Some op
  pub names : Names e range_formula 0 0 (place + 1) 0 0
  pub refuses : Refuses e op (rhs_of problem choice (place + 1)) (magnitude range)
  pub no_way : e.way ≡ 0
  pub no_theta : e.theta ≡ zero_ℚ
