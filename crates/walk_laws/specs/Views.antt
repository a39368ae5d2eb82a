-- What the lines of a report show, as the laws on linear programs speak of it.
--     part_of interval             an interval of a parametric run; where its variables stand is left out
--     past_of sheet end            how a parametric run closes
--     AreLinesOfGrowth ..          the lines are those of a point, with this activity of the objective row, and of a direction
--     IsTrueAtFirst sheet verdict  what the verdict of an opening says of the linear program at the first value
use Rattle.std.specs.Prelude.{◌≡◌, List, []}
use Rattle.exact_values.specs.Rational.{ℚ}
use Rattle.lp_definitions.specs.LinearProgram.{value_at}
use Rattle.lp_definitions.specs.Solutions.{IsCrossed, ProvesUnbounded, IsInfeasible, IsUnbounded}
use Rattle.simplex_definitions.specs.Chain.{Part, ChainEnd as PastBreakpoint, AtMax, UnboundedPast as PastUnbounded, InfeasiblePast as PastInfeasible}
use Rattle.listing_definitions.specs.Report.{Line, PathVerdict, OptimalAt, CrossedAt, InfeasibleBy, UnboundedBy, ParametricInterval, ChainEnd, EndsAt}
use Rattle.listing_definitions.specs.Report.{UnboundedPast, InfeasiblePast}
use Rattle.question_definitions.specs.Answers.{Sheet}
use Rattle.answer_definitions.specs.Lines.{pair_lines}
use Rattle.soundness_laws.specs.Truth.{AreLinesOfRay}
use Rattle.walk_definitions.specs.Tables.{column_of, multipliers}

abbrev pub part_of : ParametricInterval → Part
part_of interval =
    record {
      from = interval.from;
      to = interval.to;
      statuses = [];
      value = column_of 1 interval.lines;
      value_rate = column_of 2 interval.lines;
      price =
          column_of 3 interval.lines;
      price_rate = column_of 4 interval.lines;
    }

abbrev pub past_of : Sheet → ChainEnd → PastBreakpoint
past_of sheet (EndsAt t) = AtMax
past_of sheet (UnboundedPast t lines) = PastUnbounded t (column_of 0 lines) (column_of 1 lines)
past_of sheet (InfeasiblePast t lines) = PastInfeasible t (multipliers sheet lines)

-- The lines are those of a feasible point, which has this activity of the objective row, and of a direction that proves that there is no
-- best one. Where a row is added to the objective, its activity isn't in what is printed.
pub record AreLinesOfGrowth (sheet : Sheet) (activity : ℚ) (lines : List Line) : Type 0 where
  pub point : List ℚ
  pub direction : List ℚ
  pub proves : ProvesUnbounded sheet.lp (value_at point) (value_at direction)
  pub is_activity : activity ≡ value_at point sheet.lp.objective
  pub are_lines : lines ≡ pair_lines sheet point direction

-- An opening that is reported isn't optimal: a variable is crossed, or the lines are those of a ray, and so no point is feasible; or
-- they are those of a feasible point and a direction, and so there is no best point.
abbrev pub IsTrueAtFirst : Sheet → PathVerdict → Type 0
IsTrueAtFirst sheet (OptimalAt steps objective) = ⊥
IsTrueAtFirst sheet (CrossedAt k) = IsCrossed sheet.lp k × IsInfeasible sheet.lp
IsTrueAtFirst sheet (InfeasibleBy steps lines) = AreLinesOfRay sheet lines × IsInfeasible sheet.lp
IsTrueAtFirst sheet (UnboundedBy steps activity lines) = AreLinesOfGrowth sheet activity lines × IsUnbounded sheet.lp
