-- What the order of a sum and 0 tells, if the sum is there.
use Rattle.std.specs.Prelude.{ℕ, Bool, true, false, ◌&&◌, Option, Some, None}
use Rattle.std.specs.declared.cmp.Ordering.{Ordering}
use Rattle.std.specs.declared.cmp.Ordering.TheVariants.{Less, Equal, Greater}
use Rattle.exact_values.specs.Rational.{ℚ, zero_ℚ, ◌+ℚ◌, ◌*ℚ◌}
use Rattle.exact_values.specs.Tests.{lt_ℚ, le_ℚ}
use Rattle.lp_definitions.specs.LinearProgram.{LinearProgram, Vector, for_min}

-- it is negative
abbrev pub negative_by : Option Ordering → Bool
negative_by None = false
negative_by (Some Less) = true
negative_by (Some Equal) = false
negative_by (Some Greater) = false

-- it isn't positive
abbrev pub at_most_by : Option Ordering → Bool
at_most_by None = false
at_most_by (Some Less) = true
at_most_by (Some Equal) = true
at_most_by (Some Greater) = false

-- the objective of a direction doesn't get worse at t, and its change row improves
abbrev pub improves_past : LinearProgram → ℕ → ℚ → Vector → Bool
improves_past p h t d = le_ℚ (for_min p.sense (d p.objective +ℚ t *ℚ d h)) zero_ℚ && lt_ℚ (for_min p.sense (d h)) zero_ℚ
