use Rattle.lp_definitions.specs.LinearProgram.{value_at}
use Rattle.check_definitions.specs.Checks.{equation}
use Rattle.certificate_check.proofs.Each.{EachLeft}
use Rattle.certificate_check.proofs.point.equations_hold.Given as goal

-- the equations so far hold
abbrev pub invariant-loop-i : goal.invariant-loop-i
invariant-loop-i l = EachLeft (equation l.lp l.part (value_at l.values)) l.lp.rows l.i
