use Rattle.std.proofs.Common.{Bool, ◌++◌, sym, subst}
use Rattle.std.specs.Prelude.{IsTrue, ◌↔◌}
use Rattle.lp_definitions.specs.LinearProgram.{value_at}
use Rattle.check_definitions.specs.Steps.{AllHold}
use Rattle.check_definitions.specs.Checks.{feasible_point, reduced_costs, standing_prices, optimal_steps}
use Rattle.long_programs.specs.Programs.{program_of}
use Rattle.long_points.proofs.Holds.{both_hold}
use Rattle.long_points.proofs.limits.optimal.Goals as goal

pub returns : goal.returns
returns c = λ points theta is.
    let q = program_of c.args.program.now.lp.now c.args.program.now.change theta in
    let z = value_at points.point in
    let y = value_at points.prices in
    let priced =
    subst (λ (b : Bool). IsTrue b ↔ AllHold (reduced_costs q y ++ standing_prices q z y)) (sym c.both-are_prices.ensures)
    (both_hold c.in_ok-are_reduced.are_reduced c.in_ok-stand.stand (reduced_costs q y) (standing_prices q z y)
    (c.in_ok-are_reduced.ensures points.prices theta is.prices)
    (c.in_ok-stand.ensures points.point points.prices theta is.point is.prices.is_over)) in
    subst (λ (b : Bool). IsTrue b ↔ AllHold (optimal_steps q z y)) (sym c.both.ensures)
    (both_hold c.in_ok-is_feasible.is_feasible c.both-are_prices.result (feasible_point q z) (reduced_costs q y ++ standing_prices q z y)
    (c.in_ok-is_feasible.ensures points.point theta is.point) priced)
