-- The test that no point is feasible past a value, in the linear program that is made there.
use Rattle.std.proofs.Common.{◌≡◌, List, [], ◌∷◌, map, Result, subst}
use Rattle.exact_values.specs.Rational.{ℚ, zero_ℚ}
use Rattle.exact_values.specs.Tests.{le_ℚ, lt_ℚ}
use Rattle.lp_definitions.specs.LinearProgram.{LinearProgram, Vector}
use Rattle.check_definitions.specs.declared.Verdict.{Verdict}
use Rattle.check_definitions.specs.Steps.{verdict_of, in_turn, sum_steps, sum_of}
use Rattle.check_definitions.specs.Checks.{ray_columns, multiplied, limit_product, ray_limits}
use Rattle.question_definitions.specs.Answers.{Sheet, Changing}
use Rattle.answer_definitions.specs.ParametricRuns.{family_of}
use Rattle.walk_definitions.specs.Checkers.{checker_of_128_bits}
use Rattle.walk_definitions.specs.Tests.{asked, making_steps, shift_products, infeasible_past}
use Rattle.listing_claims.specs.declared.claims.Stop.{Stop}
use Rattle.listing_claims.specs.Passing.{Judges}

module _ (sheet : Sheet) (changing : Changing) (shift : List ℚ) (t : ℚ) (w : Vector) where
  abbrev pub making : Verdict
  making = verdict_of (making_steps sheet changing t)

  abbrev pub falling : Verdict
  falling = verdict_of (sum_steps zero_ℚ (shift_products sheet changing shift w))

  abbrev pub fallen : Verdict
  fallen = asked (lt_ℚ (sum_of zero_ℚ (shift_products sheet changing shift w)) zero_ℚ)

  module _ (q : LinearProgram) where
    abbrev pub combined : Verdict
    combined = verdict_of (ray_columns q w)

    abbrev pub met : Verdict
    met = verdict_of (ray_limits q w zero_ℚ (multiplied q w))

    abbrev pub low : Verdict
    low = asked (le_ℚ (sum_of zero_ℚ (map (limit_product q w) (multiplied q w))) zero_ℚ)

    abbrev pub past_at : Verdict
    past_at = in_turn (making ∷ combined ∷ met ∷ low ∷ falling ∷ fallen ∷ [])

    pub past_is : (result : Result (Unit {0}) Stop) → q ≡ family_of sheet changing t → Judges past_at result →
        Judges (infeasible_past checker_of_128_bits sheet changing shift t w) result
    past_is result is h =
        subst (λ (p : LinearProgram). Judges
        (in_turn (making ∷ verdict_of (ray_columns p w) ∷ verdict_of (ray_limits p w zero_ℚ (multiplied p w)) ∷ asked
        (le_ℚ (sum_of zero_ℚ (map (limit_product p w) (multiplied p w))) zero_ℚ) ∷ falling ∷ fallen ∷ [])) result) is h
