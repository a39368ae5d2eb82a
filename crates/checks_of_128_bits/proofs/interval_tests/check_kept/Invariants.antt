use Rattle.lp_definitions.specs.LinearProgram.{size}
use Rattle.certificate_check.proofs.Each.{EachLeft}
use Rattle.checks_of_128_bits.specs.Intervals.{kept_steps}
use Rattle.checks_of_128_bits.proofs.interval_tests.check_kept.Given as goal

-- the prices so far ask for one limit
abbrev pub invariant-loop-i : goal.invariant-loop-i
invariant-loop-i l = EachLeft (kept_steps l.start l.end) (size l.start.program.matrix) l.i
