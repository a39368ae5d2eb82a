use Rattle.std.proofs.Common.{◌≡◌, map}
use Rattle.lp_definitions.specs.LinearProgram.{numbers_from}
use Rattle.simplex_definitions.specs.RhsRun.{shift_of}
use Rattle.para_rhs.specs.Limits.{limit_on, moved_by}
use Rattle.para_rhs.proofs.limits.limits_at.Given as goal

abbrev pub invariant-loop-k : goal.invariant-loop-k
invariant-loop-k l = l.limits.items ≡ map (λ k. moved_by l.fn.theta (shift_of l.lp.matrix l.shift k) (limit_on l.lp l.fn.side k)) (numbers_from 1 l.k)
