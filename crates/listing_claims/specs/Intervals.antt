-- The test of an interval of a parametric run.
--     AreCounted                   a value, a price and their rates for each variable
--     part_verdict C sheet ..      the test
use Rattle.std.specs.Prelude.{◌≡◌, Bool, length}
use Rattle.exact_values.specs.Rational.{ℚ}
use Rattle.lp_definitions.specs.LinearProgram.{LinearProgram, size}
use Rattle.check_definitions.specs.declared.Verdict.{Verdict}
use Rattle.question_definitions.specs.Answers.{Sheet, Changing}
use Rattle.walk_definitions.specs.Checkers.{Checker}
use Rattle.walk_definitions.specs.Tests.{part_test}
use Rattle.listing_claims.specs.declared.claims.Columns.{Columns}

-- a value, a price and their rates for each variable
pub record AreCounted (p : LinearProgram) (columns : Columns) : Type 0 where
  pub value : length columns.value.items ≡ size p.matrix
  pub value_rate : length columns.value_rate.items ≡ size p.matrix
  pub price : length columns.price.items ≡ size p.matrix
  pub price_rate : length columns.price_rate.items ≡ size p.matrix

abbrev pub part_verdict : Checker → Sheet → Changing → ℚ → ℚ → Columns → Bool → ℚ → Verdict
part_verdict C sheet changing from to columns =
    part_test C sheet changing from to columns.value.items columns.value_rate.items columns.price.items columns.price_rate.items
