use Rattle.std.proofs.Common.{ap, ap₂, ◌∙◌}
use Rattle.std.specs.Prelude.{◌&&◌}
use Rattle.lp_definitions.specs.LinearProgram.{value_at, lower_of, upper_of}
use Rattle.long_programs.specs.Orders.{program_at}
use Rattle.long_points.specs.Tests.{not_below_by, not_above_by}
use Rattle.long_points.proofs.Orders.{not_below_is, not_above_is}
use Rattle.long_points.proofs.limits.limit_holds.Goals as goal

pub returns : goal.returns
returns c = λ values theta is.
    let q = program_at c.args.point.now theta in
    let x = value_at values c.args.k in
    let orders = c.in_ok-orders.ensures values theta is in
    c.both.ensures
    ∙ ap₂ ◌&&◌ (c.is_not_below-above.ensures ∙ ap not_below_by orders.lower ∙ not_below_is (lower_of q c.args.k) x)
    (c.is_not_above-below.ensures ∙ ap not_above_by orders.upper ∙ not_above_is (upper_of q c.args.k) x)
