use Rattle.std.proofs.Common.{List}
use Rattle.exact_values.specs.Rational.{ℚ, whole, ◌*ℚ◌}
use Rattle.lp_definitions.specs.LinearProgram.{value_at}
use Rattle.long_vectors.specs.Vectors.{IsOver, IsValue}
use Rattle.long_programs.specs.Programs.{program_of}
use Rattle.long_rays.proofs.Meeting.{IsSoFar}
use Rattle.long_rays.proofs.limits.limits_order.Given as goal

-- the multipliers so far meet limits, and the products are added up
abbrev pub invariant-loop-i : goal.invariant-loop-i
invariant-loop-i l =
    (w : List ℚ) → (x : ℚ) → IsOver w l.ray → IsValue x l.at.theta.now →
    IsSoFar (program_of l.at.program.lp.now l.at.program.change x) (value_at w) l.i l.sum (whole l.ray.bottom *ℚ whole l.at.theta.now.bottom)
