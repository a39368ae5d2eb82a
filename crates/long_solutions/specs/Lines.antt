-- The lines of an interval, over denominators.
--     AreOver columns lines        the lines are those of the columns
--     AreLinesOf p lines           they are those of some columns, with a value, a price and their rates for each variable
--     IsNumber value               a value is that of some number
--     points_at theta columns      the point and the prices at theta
--     IsFamily sheet changing p change     the linear programs of a parametric run are those of a change in p
--     ends_verdict sheet ..        the tests at both ends of an interval, and of what is kept between them
use Rattle.std.specs.Prelude.{◌≡◌, [], ◌∷◌}
use Rattle.exact_values.specs.Rational.{ℚ}
use Rattle.lp_definitions.specs.LinearProgram.{LinearProgram}
use Rattle.check_definitions.specs.declared.Verdict.{Verdict}
use Rattle.check_definitions.specs.Steps.{in_turn}
use Rattle.question_definitions.specs.Answers.{Sheet, Changing}
use Rattle.answer_definitions.specs.ParametricRuns.{family_of}
use Rattle.walk_definitions.specs.Checkers.{checker_of_any_length}
use Rattle.walk_definitions.specs.Tests.{says, end_test, keeping_steps}
use Rattle.listing_claims.specs.declared.claims.Columns.{Columns}
use Rattle.listing_claims.specs.Intervals.{AreCounted}
use Rattle.long_vectors.specs.declared.values.Value.{Value}
use Rattle.long_vectors.specs.Vectors.{IsValue, IsOver, list_along}
use Rattle.long_programs.specs.declared.programs.ChangeAt.{ChangeAt}
use Rattle.long_programs.specs.Programs.{program_of}
use Rattle.long_points.specs.Ends.{Points}
use Rattle.long_solutions.specs.declared.intervals.Lines.{Lines}

pub record AreOver (columns : Columns) (lines : Lines) : Type 0 where
  pub value : IsOver columns.value.items lines.values.value
  pub value_rate : IsOver columns.value_rate.items lines.values.rate
  pub price : IsOver columns.price.items lines.prices.value
  pub price_rate : IsOver columns.price_rate.items lines.prices.rate

pub record AreLinesOf (p : LinearProgram) (lines : Lines) : Type 0 where
  pub columns : Columns
  pub counted : AreCounted p columns
  pub over : AreOver columns lines

pub record IsNumber (value : Value) : Type 0 where
  pub number : ℚ
  pub is : IsValue number value

abbrev pub points_at : ℚ → Columns → Points
points_at theta columns =
    record { point = list_along theta columns.value.items columns.value_rate.items; prices = list_along theta columns.price.items columns.price_rate.items }

pub record IsFamily (sheet : Sheet) (changing : Changing) (p : LinearProgram) (change : ChangeAt) : Type 0 where
  pub lp : sheet.lp ≡ p
  pub same : (theta : ℚ) → family_of sheet changing theta ≡ program_of p change theta

module _ (sheet : Sheet) (changing : Changing) (from to : ℚ) (columns : Columns) where
  abbrev pub end_verdict : ℚ → Verdict
  end_verdict theta =
      end_test checker_of_any_length sheet changing theta columns.value.items columns.value_rate.items columns.price.items columns.price_rate.items

  abbrev pub ends_verdict : Verdict
  ends_verdict =
      in_turn (end_verdict from ∷ end_verdict to ∷ says checker_of_any_length
      (keeping_steps sheet changing from to columns.value.items columns.value_rate.items columns.price.items columns.price_rate.items) ∷ [])
