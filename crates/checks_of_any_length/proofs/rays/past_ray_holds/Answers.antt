use Rattle.std.proofs.Common.{ap, ◌∙◌}
use Rattle.std.specs.Prelude.{◌&&◌}
use Rattle.exact_values.specs.Tests.{is_less}
use Rattle.lp_definitions.specs.LinearProgram.{value_at}
use Rattle.simplex_definitions.specs.RhsRun.{rhs_family}
use Rattle.checks_of_any_length.proofs.Claiming.{past_ray_shown}
use Rattle.checks_of_any_length.proofs.rays.past_ray_holds.Goals as goal

pub returns : goal.returns
returns c = λ x problem changing is family.
    let p = c.args.lp.now in
    let ray = c.args.ray.now in
    let over = c.in_ok-column.ensures in
    let vanishes = c.in_ok-vanishes.vanishes in
    past_ray_shown (record { problem = problem; lp = p }) changing c.args.shift.now x (value_at ray)
    (rhs_family p c.args.shift.now x) c.in_ok-order.order vanishes c.is_lt-falls.result c.both.result family
    (c.in_ok-order.ensures ray x over is) (c.in_ok-vanishes.ensures ray over)
    (c.is_lt-falls.ensures ∙ ap is_less (c.in_ok-fall.ensures ray problem changing over))
    (c.both.ensures ∙ ap (λ b. vanishes && b) (c.both-rest.ensures ∙ ap (λ b. b && c.is_lt-falls.result) c.is_at_most-within.ensures))
