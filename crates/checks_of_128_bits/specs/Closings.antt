-- A part of the test of how a parametric run closes.
--     improving_test p h t d       the objective of a direction doesn't get worse at t, and its change row improves
use Rattle.std.specs.Prelude.{ℕ, [], ◌∷◌}
use Rattle.exact_values.specs.Rational.{ℚ, zero_ℚ, ◌+ℚ◌, ◌*ℚ◌}
use Rattle.exact_values.specs.Tests.{lt_ℚ, le_ℚ}
use Rattle.lp_definitions.specs.LinearProgram.{LinearProgram, Vector, for_min}
use Rattle.check_definitions.specs.declared.Verdict.{Verdict}
use Rattle.check_definitions.specs.Steps.{verdict_of, in_turn, sum_steps}
use Rattle.walk_definitions.specs.Tests.{asked}

abbrev pub improving_test : LinearProgram → ℕ → ℚ → Vector → Verdict
improving_test p h t d = in_turn (
    verdict_of (sum_steps (d p.objective) (record { left = t; right = d h } ∷ [])) ∷
    asked (le_ℚ (for_min p.sense (d p.objective +ℚ t *ℚ d h)) zero_ℚ) ∷ asked (lt_ℚ (for_min p.sense (d h)) zero_ℚ) ∷ [])
