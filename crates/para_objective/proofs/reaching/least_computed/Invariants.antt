use Rattle.lp_definitions.specs.LinearProgram.{value_at}
use Rattle.para_objective.specs.Reach.{IsReachAbove}
use Rattle.para_objective.proofs.reaching.least_computed.Given as goal

abbrev pub invariant-loop-k : goal.invariant-loop-k
invariant-loop-k l = IsReachAbove l.lp l.basis (value_at l.prices) (value_at l.change) l.k l.fn.max l.best
