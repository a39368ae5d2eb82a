use Rattle.lp_definitions.specs.LinearProgram.{value_at, size}
use Rattle.check_definitions.specs.Checks.{within_limit}
use Rattle.certificate_check.proofs.Each.{EachLeft}
use Rattle.certificate_check.proofs.point.limits_hold.Given as goal

-- the limits so far hold
abbrev pub invariant-loop-i : goal.invariant-loop-i
invariant-loop-i l = EachLeft (within_limit l.lp (value_at l.point)) (size l.lp.matrix) l.i
