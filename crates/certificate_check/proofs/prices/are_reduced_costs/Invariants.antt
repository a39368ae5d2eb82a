use Rattle.lp_definitions.specs.LinearProgram.{value_at}
use Rattle.check_definitions.specs.Checks.{reduced_cost}
use Rattle.certificate_check.proofs.Each.{EachLeft}
use Rattle.certificate_check.proofs.prices.are_reduced_costs.Given as goal

-- the columns so far have their reduced costs
abbrev pub invariant-loop-i : goal.invariant-loop-i
invariant-loop-i l = EachLeft (reduced_cost l.lp (value_at l.prices)) l.lp.cols l.i
