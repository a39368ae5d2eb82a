use Rattle.std.proofs.Common.{◌∙◌, sym, ◌++◌}
use Rattle.lp_definitions.specs.LinearProgram.{value_at}
use Rattle.check_definitions.specs.Checks.{feasible_point, reduced_costs, standing_prices}
use Rattle.certificate_check.proofs.Each.{goes_on, part_exit}
use Rattle.certificate_check.proofs.optimal.Goals as goal

pub returns-in_err-point_is_feasible : goal.returns-in_err-point_is_feasible
returns-in_err-point_is_feasible c =
    let p = c.args.lp.now in
    let z = value_at c.args.point.now in
    let y = value_at c.args.prices.now in
    part_exit c.from_residual.result (feasible_point p z)
    (reduced_costs p y ++ standing_prices p z y) c.in_err-point_is_feasible.field-0.0 c.in_err-point_is_feasible.ensures c.from_residual.ensures.1

pub returns-in_err-are_reduced_costs : goal.returns-in_err-are_reduced_costs
returns-in_err-are_reduced_costs c =
    let p = c.args.lp.now in
    let z = value_at c.args.point.now in
    let y = value_at c.args.prices.now in
    part_exit c.from_residual-in_err-are_reduced_costs.result (reduced_costs p y)
    (standing_prices p z y) c.in_err-are_reduced_costs.field-0.0 c.in_err-are_reduced_costs.ensures c.from_residual-in_err-are_reduced_costs.ensures.1
    ∙ sym (goes_on (feasible_point p z) (reduced_costs p y ++ standing_prices p z y) (sym c.in_ok-point_is_feasible.ensures))

pub returns : goal.returns
returns c =
    let p = c.args.lp.now in
    let z = value_at c.args.point.now in
    let y = value_at c.args.prices.now in
    c.prices_stand.ensures
    ∙ sym (goes_on (reduced_costs p y) (standing_prices p z y) (sym c.in_ok-are_reduced_costs.ensures))
    ∙ sym (goes_on (feasible_point p z) (reduced_costs p y ++ standing_prices p z y) (sym c.in_ok-point_is_feasible.ensures))
