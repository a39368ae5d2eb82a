use Rattle.exact_values.specs.Rational.{zero_ℚ}
use Rattle.exact_values.specs.Tests.{eq_ℚ}
use Rattle.lp_definitions.specs.LinearProgram.{value_at}
use Rattle.long_points.specs.Tests.{UpTo}
use Rattle.long_points.proofs.rows.are_zero.Given as goal

-- the sums so far are 0
abbrev pub invariant-loop-i : goal.invariant-loop-i
invariant-loop-i l = UpTo (λ i. eq_ℚ (value_at l.sums i) zero_ℚ) l.i
