-- The test of how a parametric run closes.
--     ClosingFits                  the vectors have a value for each variable
--     closing_test C sheet ..      the test
use Rattle.std.specs.Prelude.{◌≡◌, List, [], ◌∷◌, length}
use Rattle.exact_values.specs.Rational.{ℚ}
use Rattle.exact_values.specs.Tests.{eq_ℚ}
use Rattle.lp_definitions.specs.LinearProgram.{LinearProgram, value_at, size}
use Rattle.check_definitions.specs.declared.Verdict.{Verdict}
use Rattle.check_definitions.specs.declared.Verdict.TheVariants.{Failed}
use Rattle.check_definitions.specs.Steps.{in_turn}
use Rattle.question_definitions.specs.Answers.{Sheet, Changing, Row, Set}
use Rattle.answer_definitions.specs.ParametricRuns.{row_of, shifts_of}
use Rattle.walk_definitions.specs.Checkers.{Checker}
use Rattle.walk_definitions.specs.Tests.{asked, past_test, unbounded_past, infeasible_past}
use Rattle.listing_claims.specs.declared.claims.Closing.{Closing}
use Rattle.listing_claims.specs.declared.claims.Closing.TheVariants.{At, Unbounded, Infeasible}
use Rattle.listing_claims.specs.Claims.{IsPairOf}

-- its vectors have a value for each variable
abbrev pub ClosingFits : LinearProgram → Closing → Type 0
ClosingFits p (At t) = Unit {0}
ClosingFits p (Unbounded t pair) = IsPairOf p pair
ClosingFits p (Infeasible t ray) = length ray.items ≡ size p.matrix

-- a run of the objective may close unbounded, and one of the right-hand side infeasible
module _ (C : Checker) (sheet : Sheet) where
  abbrev pub unbounded_test : Changing → ℚ → ℚ → ℚ → List ℚ → List ℚ → Verdict
  unbounded_test (Row name) max last t z d = past_test max last t (unbounded_past C sheet (Row name) (row_of sheet.problem name) t (value_at z) (value_at d))
  unbounded_test (Set name) max last t z d = Failed 6 0

  abbrev pub infeasible_test : Changing → ℚ → ℚ → ℚ → List ℚ → Verdict
  infeasible_test (Row name) max last t w = Failed 6 0
  infeasible_test (Set name) max last t w = past_test max last t (infeasible_past C sheet (Set name) (shifts_of sheet.problem name) t (value_at w))

  abbrev pub closing_test : Changing → ℚ → ℚ → Closing → Verdict
  closing_test changing max last (At t) = in_turn (asked (eq_ℚ t last) ∷ asked (eq_ℚ t max) ∷ [])
  closing_test changing max last (Unbounded t pair) = unbounded_test changing max last t pair.point.items pair.direction.items
  closing_test changing max last (Infeasible t ray) = infeasible_test changing max last t ray.items
