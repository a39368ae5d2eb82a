-- The tests of an interval of a parametric run.
--     end_verdict, interval_verdict    the tests at an end of it, and of the whole
--     IsInterval                   a part of a run, in fractions
--     IsEnd, AreEnds               what is made at an end, and at both
--     kept_steps start end         the comparisons of a variable at both ends
use Rattle.std.specs.Prelude.{◌≡◌, ◌≤◌, ℕ, Bool, List, ◌++◌, map, length}
use Rattle.exact_values.specs.Rational.{ℚ}
use Rattle.lp_definitions.specs.LinearProgram.{IsVariable, variables, value_at}
use Rattle.check_definitions.specs.declared.Verdict.{Verdict}
use Rattle.check_definitions.specs.Steps.{Step}
use Rattle.simplex_definitions.specs.Chain.{along}
use Rattle.question_definitions.specs.Answers.{Sheet, Changing}
use Rattle.answer_definitions.specs.ParametricRuns.{family_of}
use Rattle.walk_definitions.specs.Checkers.{checker_of_128_bits}
use Rattle.walk_definitions.specs.Tests.{end_test, part_test, keeps_limit}
use Rattle.listing_claims.specs.declared.claims.Part.{Part}
use Rattle.checks_of_128_bits.specs.Fractions.{AreFractions}
use Rattle.checks_of_128_bits.specs.declared.fractions.FractionColumns.{FractionColumns}
use Rattle.checks_of_128_bits.specs.declared.interval_tests.Interval.{Interval}
use Rattle.checks_of_128_bits.specs.declared.interval_tests.IntervalEnd.{IntervalEnd}

abbrev pub end_verdict : Sheet → Changing → ℚ → FractionColumns → Verdict
end_verdict sheet changing theta columns =
    end_test checker_of_128_bits sheet changing theta columns.value.items columns.value_rate.items columns.price.items columns.price_rate.items

abbrev pub interval_verdict : Sheet → Changing → Interval → Bool → ℚ → Verdict
interval_verdict sheet changing interval =
    part_test checker_of_128_bits sheet changing interval.from interval.to interval.columns.value.items interval.columns.value_rate.items
    interval.columns.price.items interval.columns.price_rate.items

-- a part of a run that begins at a value, in fractions
pub record IsInterval (from : ℚ) (part : Part) (interval : Interval) : Type 0 where
  pub begins : interval.from ≡ from
  pub ends : interval.to ≡ part.to
  pub columns : AreFractions part.columns interval.columns

pub record IsEnd (sheet : Sheet) (changing : Changing) (theta : ℚ) (columns : FractionColumns) (end : IntervalEnd) : Type 0 where
  pub program : end.program ≡ family_of sheet changing theta
  pub point : end.point.items ≡ map (along theta columns.value.items columns.value_rate.items) (variables sheet.lp.matrix)
  pub prices : end.prices.items ≡ map (along theta columns.price.items columns.price_rate.items) (variables sheet.lp.matrix)

-- ---- at both ends

-- the linear programs have the same variables, of which k is one, and each has a value and a price
pub record AreEnds (start end : IntervalEnd) (k : ℕ) : Type 0 where
  pub first : IsVariable start.program.matrix k
  pub last : IsVariable end.program.matrix k
  pub first_point : k ≤ length start.point.items
  pub last_point : k ≤ length end.point.items
  pub first_prices : k ≤ length start.prices.items
  pub last_prices : k ≤ length end.prices.items

abbrev pub kept_at : IntervalEnd → IntervalEnd → ℚ → ℕ → List Step
kept_at start end price k = keeps_limit start.program end.program (value_at start.point.items) (value_at end.point.items) price k

abbrev pub kept_steps : IntervalEnd → IntervalEnd → ℕ → List Step
kept_steps start end k = kept_at start end (value_at start.prices.items k) k ++ kept_at start end (value_at end.prices.items k) k
