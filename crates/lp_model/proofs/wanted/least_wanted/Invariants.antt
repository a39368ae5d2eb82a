use Rattle.lp_definitions.specs.LinearProgram.{value_at}
use Rattle.lp_model.specs.Wanted.{NoneMeets}
use Rattle.lp_model.proofs.wanted.least_wanted.Given as goal

abbrev pub invariant-loop-k : goal.invariant-loop-k
invariant-loop-k l = NoneMeets l.wanted l.up (value_at l.rates) l.k
