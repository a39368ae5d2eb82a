use Rattle.lp_definitions.specs.LinearProgram.{value_at}
use Rattle.check_definitions.specs.Checks.{ray_column}
use Rattle.certificate_check.proofs.Each.{EachLeft}
use Rattle.certificate_check.proofs.ray.vanishes.Given as goal

-- the multipliers vanish on the columns so far
abbrev pub invariant-loop-i : goal.invariant-loop-i
invariant-loop-i l = EachLeft (ray_column l.lp (value_at l.ray)) l.lp.cols l.i
