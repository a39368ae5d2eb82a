use Rattle.std.proofs.Common.{sym, subst}
use Rattle.lp_definitions.specs.Basis.{IsOptimalBasis}
use Rattle.simplex_definitions.specs.Ranges.{with_limit, with_cost, with_row, at_limits, columns_of, intermediate_rows}
use Rattle.ranging.specs.Lists.{ListsTo}
use Rattle.ranging.proofs.Listed.{are_intervals}
use Rattle.ranging.proofs.reporting.report.Goals as goal

pub returns-clause-report : goal.returns-clause-report
returns-clause-report c = record {
  limits =
      are_intervals (at_limits c.args.at.now.lp.now c.args.at.now.basis.now)
      (λ k t. IsOptimalBasis (with_limit c.args.at.now.lp.now c.args.at.now.basis.now k t) c.args.at.now.basis.now) c.new.result
      (subst (ListsTo (at_limits c.args.at.now.lp.now c.args.at.now.basis.now)
      (λ k t. IsOptimalBasis (with_limit c.args.at.now.lp.now c.args.at.now.basis.now k t) c.args.at.now.basis.now))
      (sym c.new.ensures) c.in_ok-limits.ensures.list);
  costs = are_intervals (columns_of c.args.at.now.lp.now) (λ k t. IsOptimalBasis (with_cost c.args.at.now.lp.now k t) c.args.at.now.basis.now) c.new-2.result
      (subst (ListsTo (columns_of c.args.at.now.lp.now) (λ k t. IsOptimalBasis (with_cost c.args.at.now.lp.now k t) c.args.at.now.basis.now))
      (sym c.new-2.ensures) c.in_ok-costs.ensures.list);
  rows =
      are_intervals (intermediate_rows c.args.at.now.lp.now c.args.at.now.basis.now)
      (λ i t. IsOptimalBasis (with_row c.args.at.now.lp.now i t) c.args.at.now.basis.now) c.new-3.result
      (subst (ListsTo (intermediate_rows c.args.at.now.lp.now c.args.at.now.basis.now)
      (λ i t. IsOptimalBasis (with_row c.args.at.now.lp.now i t) c.args.at.now.basis.now)) (sym c.new-3.ensures) c.in_ok-rows.ensures);
}
