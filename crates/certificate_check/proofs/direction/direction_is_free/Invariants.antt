use Rattle.lp_definitions.specs.LinearProgram.{value_at, size}
use Rattle.check_definitions.specs.Checks.{free_to_move}
use Rattle.certificate_check.proofs.Each.{EachLeft}
use Rattle.certificate_check.proofs.direction.direction_is_free.Given as goal

-- no limit so far is ahead
abbrev pub invariant-loop-i : goal.invariant-loop-i
invariant-loop-i l = EachLeft (free_to_move l.lp (value_at l.direction)) (size l.lp.matrix) l.i
