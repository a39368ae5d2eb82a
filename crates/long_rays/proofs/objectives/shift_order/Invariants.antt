use Rattle.std.proofs.Common.{◌≡◌, List}
use Rattle.exact_values.specs.Rational.{ℚ, whole, ◌*ℚ◌}
use Rattle.exact_values.specs.Sums.{sum_up_to}
use Rattle.lp_definitions.specs.LinearProgram.{value_at}
use Rattle.long_vectors.specs.Vectors.{IsOver}
use Rattle.long_rays.proofs.objectives.shift_order.Given as goal

-- the products of the rows so far
abbrev pub invariant-loop-i : goal.invariant-loop-i
invariant-loop-i l = (w : List ℚ) → IsOver w l.ray → l.sum ≡ sum_up_to l.i (λ k. value_at w k *ℚ value_at l.shift k) *ℚ whole l.ray.bottom
