use Rattle.lp_definitions.specs.LinearProgram.{value_at}
use Rattle.certificate_check.proofs.Limits.{LimitsLeft}
use Rattle.checks_of_128_bits.proofs.closing_tests.limit_sum.Given as goal

-- the variables that are left are to be added to the sum so far
abbrev pub invariant-loop-i : goal.invariant-loop-i
invariant-loop-i l = LimitsLeft l.lp (value_at l.ray) l.i l.sum
