use Rattle.lp_definitions.specs.LinearProgram.{value_at}
use Rattle.dual_step.specs.Cheapest.{IsBest}
use Rattle.dual_step.proofs.ratios.cheapest.Given as goal

abbrev pub invariant-loop-k : goal.invariant-loop-k
invariant-loop-k l = IsBest l.lp l.basis (value_at l.prices) (value_at l.row) l.below l.k l.best
