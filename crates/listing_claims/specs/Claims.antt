-- The tests of what verdicts claim.
--     IsPairOf, Fits               the vectors of a claim have a value for each variable
--     claim_test C p               the test of a claim on a linear program
--     opening_test C sheet ..      the test of the claim of a parametric run's opening
use Rattle.std.specs.Prelude.{◌≡◌, [], ◌∷◌, length}
use Rattle.exact_values.specs.Rational.{ℚ}
use Rattle.exact_values.specs.Tests.{eq_ℚ}
use Rattle.lp_definitions.specs.LinearProgram.{LinearProgram, IsVariable, size, value_at}
use Rattle.check_definitions.specs.declared.Verdict.{Verdict}
use Rattle.check_definitions.specs.declared.Verdict.TheVariants.{Checked}
use Rattle.check_definitions.specs.Steps.{in_turn}
use Rattle.check_definitions.specs.Checks.{crossed_steps, infeasible_steps, unbounded_steps}
use Rattle.question_definitions.specs.Answers.{Sheet, Changing}
use Rattle.answer_definitions.specs.ParametricRuns.{family_of}
use Rattle.walk_definitions.specs.Checkers.{Checker}
use Rattle.walk_definitions.specs.Tests.{asked, says, making_steps}
use Rattle.listing_claims.specs.declared.claims.Claim.{Claim}
use Rattle.listing_claims.specs.declared.claims.Claim.TheVariants.{Optimal, Crossed, Infeasible, Unbounded}
use Rattle.listing_claims.specs.declared.claims.Pair.{Pair}

-- each has a value for each variable
abbrev pub IsPairOf : LinearProgram → Pair → Type 0
IsPairOf p pair = (length pair.point.items ≡ size p.matrix) × (length pair.direction.items ≡ size p.matrix)

abbrev pub Fits : LinearProgram → Claim → Type 0
Fits p (Optimal objective) = Unit {0}
Fits p (Crossed k) = IsVariable p.matrix k
Fits p (Infeasible ray) = length ray.items ≡ size p.matrix
Fits p (Unbounded objective pair) = IsPairOf p pair

module _ (C : Checker) (p : LinearProgram) where
  -- a point and a direction show that there is no best point, and the point has this objective
  abbrev pub pair_test : ℚ → Pair → Verdict
  pair_test objective pair =
      in_turn (says C (unbounded_steps p (value_at pair.point.items) (value_at pair.direction.items)) ∷ asked
      (eq_ℚ objective (value_at pair.point.items p.objective)) ∷ [])

  -- an optimal claim is tested where SOLUTION shows it
  abbrev pub claim_test : Claim → Verdict
  claim_test (Optimal objective) = Checked
  claim_test (Crossed k) = says C (crossed_steps p k)
  claim_test (Infeasible ray) = says C (infeasible_steps p (value_at ray.items))
  claim_test (Unbounded objective pair) = pair_test objective pair

-- the linear program at the first value is made, and the claim is tested on it
abbrev pub opening_test : Checker → Sheet → Changing → ℚ → Claim → Verdict
opening_test C sheet changing from claim = in_turn (says C (making_steps sheet changing from) ∷ claim_test C (family_of sheet changing from) claim ∷ [])
