-- The ends of an interval of a parametric run.
--     Points                       a point and prices
--     IsEnd points theta end       they are those of an end, over one denominator each
--     kept_steps p q first last k  the prices of variable k at both ends ask for limits at which both points stand
--     keeping_test                 the same as one test
use Rattle.std.specs.Prelude.{ℕ, Bool, ◌&&◌, List, ◌++◌}
use Rattle.exact_values.specs.Rational.{ℚ}
use Rattle.lp_definitions.specs.LinearProgram.{LinearProgram, value_at}
use Rattle.check_definitions.specs.Steps.{Step}
use Rattle.walk_definitions.specs.Tests.{keeps_limit}
use Rattle.long_programs.specs.Places.{IsSpread}
use Rattle.long_points.specs.declared.ends.End.{End}
use Rattle.long_points.specs.Tests.{keep_test}

pub record Points : Type 0 where
  pub point : List ℚ
  pub prices : List ℚ

pub record IsEnd (points : Points) (theta : ℚ) (end : End) : Type 0 where
  pub point : IsSpread points.point theta end.point
  pub prices : IsSpread points.prices theta end.prices

module _ (p q : LinearProgram) (first last : Points) where
  abbrev pub kept_steps : ℕ → List Step
  kept_steps k =
      keeps_limit p q (value_at first.point) (value_at last.point) (value_at first.prices k) k ++ keeps_limit p q (value_at first.point) (value_at last.point)
      (value_at last.prices k) k

  abbrev pub keeping_test : ℕ → Bool
  keeping_test k =
      keep_test p q (value_at first.point) (value_at last.point) (value_at first.prices k) k && keep_test p q (value_at first.point) (value_at last.point)
      (value_at last.prices k) k
