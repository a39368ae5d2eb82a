use Rattle.std.proofs.Common.{◌≡◌, ℕ, ap, sym, ◌∙◌, rules}
use Rattle.exact_values.specs.Rational.{ℚ, whole, zero_ℚ, compare_ℚ, ◌*ℚ◌}
use Rattle.exact_values.specs.Sums.{sum_up_to}
use Rattle.lp_definitions.specs.LinearProgram.{LinearProgram, value_at}
use Rattle.certificate_laws.proofs.Products.{sum_of-all}
use Rattle.long_points.proofs.AtTheta.{sign_over}
use Rattle.long_rays.proofs.Values.{shifts_begin, shifts_go_on}
use Rattle.long_rays.proofs.objectives.shift_order.Goals as goal

pub loop-i-init : goal.loop-i-init
loop-i-init c = λ w over. shifts_begin (value_at w) (value_at c.args.shift.now) c.in_ok-sum.sum (whole c.args.ray.now.bottom) c.in_ok-sum.ensures

pub loop-i-preserved : goal.loop-i-preserved
loop-i-preserved c = λ w over.
    shifts_go_on (value_at w) (value_at c.args.shift.now) c.loop-i.i c.loop-i.sum c.add.new.self c.shift_of.result (whole c.top_of.result.now)
    (whole c.args.ray.now.bottom)
    (c.loop-i.invariant w over) c.shift_of.ensures (c.top_of.ensures w over) c.in_ok-add.ensures

pub returns : goal.returns
returns c = λ w problem changing over.
    let p = c.args.lp.now in
    let f : ℕ → ℚ = λ k. value_at w k *ℚ value_at c.args.shift.now k in
    let end : c.loop-i.i ≡ c.lp.inside.rows = search rules in
    let rows : c.lp.inside.rows ≡ p.rows = ap (λ (p : LinearProgram). p.rows) c.lp.view_is in
    c.sign.ensures ∙ sign_over (sum_up_to c.loop-i.i f) (whole c.args.ray.now.bottom) c.loop-i.sum over.positive (c.loop-i.invariant w over)
    ∙ ap (λ s. compare_ℚ s zero_ℚ)
    (ap (λ n. sum_up_to n f) (end ∙ rows) ∙ sym (sum_of-all (λ k. record { left = value_at w k; right = value_at c.args.shift.now k }) p.rows))
