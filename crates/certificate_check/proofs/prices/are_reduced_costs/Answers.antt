use Rattle.std.proofs.Common.{rules}
use Rattle.lp_definitions.specs.LinearProgram.{value_at}
use Rattle.check_definitions.specs.Checks.{reduced_cost}
use Rattle.certificate_check.proofs.Each.{each_passed, each_exit}
use Rattle.certificate_check.proofs.prices.are_reduced_costs.Goals as goal

pub returns-in_err-is_reduced_cost : goal.returns-in_err-is_reduced_cost
returns-in_err-is_reduced_cost c =
    each_exit c.from_residual.result (reduced_cost c.args.lp.now (value_at c.args.prices.now)) c.args.lp.now.cols c.loop-i.i c.loop-i.invariant (search rules)
    c.in_err-is_reduced_cost.field-0.0 c.in_err-is_reduced_cost.ensures c.from_residual.ensures.1

pub loop-i-preserved : goal.loop-i-preserved
loop-i-preserved c =
    each_passed (reduced_cost c.args.lp.now (value_at c.args.prices.now)) c.args.lp.now.cols c.loop-i.i c.loop-i.invariant
    (search rules) c.in_ok-is_reduced_cost.ensures
