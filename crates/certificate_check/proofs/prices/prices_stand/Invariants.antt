use Rattle.lp_definitions.specs.LinearProgram.{value_at, size}
use Rattle.check_definitions.specs.Checks.{standing_price}
use Rattle.certificate_check.proofs.Each.{EachLeft}
use Rattle.certificate_check.proofs.prices.prices_stand.Given as goal

-- the prices so far stand at limits
abbrev pub invariant-loop-i : goal.invariant-loop-i
invariant-loop-i l = EachLeft (standing_price l.lp (value_at l.point) (value_at l.prices)) (size l.lp.matrix) l.i
