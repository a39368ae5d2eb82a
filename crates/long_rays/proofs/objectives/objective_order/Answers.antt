use Rattle.std.proofs.Common.{ap, sym, ◌∙◌, ◌≡◌}
use Rattle.exact_values.specs.Rational.{whole, zero_ℚ, compare_ℚ, ◌+ℚ◌, ◌*ℚ◌}
use Rattle.exact_values.proofs.Order.{mul-positive}
use Rattle.lp_definitions.specs.LinearProgram.{LinearProgram, value_at, for_min}
use Rattle.long_points.specs.Tests.{counted_by}
use Rattle.long_points.proofs.Orders.{counted_is}
use Rattle.long_points.proofs.AtTheta.{sign_over}
use Rattle.long_rays.specs.Tests.{change_value}
use Rattle.long_rays.proofs.Values.{objective_at, objective_sum}
use Rattle.long_rays.proofs.objectives.objective_order.Goals as goal

pub returns : goal.returns
returns c = λ d x over is.
    let p = c.args.at.now.program.lp.now in
    let v = value_at d in
    let own = v p.objective in
    let rate = change_value c.args.at.now.program.change v in
    let bottom = whole c.args.direction.now.bottom in
    let below = whole c.args.at.now.theta.now.bottom in
    let objective : c.lp.inside.objective ≡ p.objective = ap (λ (p : LinearProgram). p.objective) c.lp.view_is in
    let sense : c.lp.inside.sense ≡ p.sense = ap (λ (p : LinearProgram). p.sense) c.lp.view_is in
    let total = own +ℚ x *ℚ rate in
    let summed = objective_sum c.in_ok-sum.sum c.add_value.new.sum c.add_change.new.sum own x rate bottom below c.in_ok-sum.ensures
    (c.in_ok-add_value.ensures d over ∙ ap (λ k. c.in_ok-sum.sum +ℚ v k *ℚ bottom *ℚ below) objective) (c.in_ok-add_change.ensures d x over is) in
    let signed = c.sign.ensures ∙ sign_over total (bottom *ℚ below) c.add_change.new.sum (mul-positive over.positive is.positive) summed in
    c.counted.ensures ∙ ap (counted_by c.lp.inside.sense) signed ∙ counted_is c.lp.inside.sense total
    ∙ (λ i. compare_ℚ (for_min (sense i) (sym (objective_at p c.args.at.now.program.change x v c.requires.plain) i)) zero_ℚ)
