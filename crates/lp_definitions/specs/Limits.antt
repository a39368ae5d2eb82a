-- Tests of a variable's two limits.
--     on_limits test low high              both limits are there, and the test holds of them
--     is_fixed p k, is_crossed p k         both are there, and they are equal, or the lower one is above the upper one
use Rattle.std.specs.Prelude.{ℕ, Bool, false, Option, Some, None}
use Rattle.exact_values.specs.Rational.{ℚ}
use Rattle.exact_values.specs.Tests.{eq_ℚ, lt_ℚ}
use Rattle.lp_definitions.specs.LinearProgram.{LinearProgram, lower_of, upper_of}

abbrev pub on_limits : (ℚ → ℚ → Bool) → Option ℚ → Option ℚ → Bool
on_limits test None high = false
on_limits test (Some l) None = false
on_limits test (Some l) (Some u) = test l u

abbrev pub is_fixed : LinearProgram → ℕ → Bool
is_fixed p k = on_limits eq_ℚ (lower_of p k) (upper_of p k)

abbrev pub is_crossed : LinearProgram → ℕ → Bool
is_crossed p k = on_limits (λ l u. lt_ℚ u l) (lower_of p k) (upper_of p k)
