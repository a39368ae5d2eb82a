use Rattle.std.proofs.Common.{◌≡◌, true, false, ap, sym, ◌∙◌, rules}
use Rattle.exact_values.specs.Rational.{whole, ◌*ℚ◌}
use Rattle.exact_values.specs.Tests.{is_equal}
use Rattle.lp_definitions.specs.LinearProgram.{value_at}
use Rattle.long_points.proofs.AtTheta.{sign_over}
use Rattle.long_rays.specs.Tests.{limit_by}
use Rattle.long_rays.proofs.Meeting.{against_by, met_none, met_some}
use Rattle.long_rays.proofs.limits.add_met.Goals as goal

pub returns-then-is_eq : goal.returns-then-is_eq
returns-then-is_eq c = λ w x over is_theta.
    let p = c.args.at.now.program.lp.now in
    let y = value_at w c.args.k in
    let d = whole c.args.ray.now.bottom in
    let signed = c.sign_of-sign.ensures ∙ sign_over y d (whole c.top_of-top.result.now) over.positive (c.top_of-top.ensures w over) in
    let passed : c.is_eq.result ≡ true = search rules in
    met_none p c.args.at.now.program.change x (value_at w) c.args.k c.args.sum.now (d *ℚ whole c.args.at.now.theta.now.bottom)
    (sym (ap is_equal signed) ∙ sym c.is_eq.ensures ∙ passed)

pub returns : goal.returns
returns c = λ w x over is_theta.
    let p = c.args.at.now.program.lp.now in
    let y = value_at w c.args.k in
    let d = whole c.args.ray.now.bottom in
    let signed = c.sign_of-sign.ensures ∙ sign_over y d (whole c.top_of-top.result.now) over.positive (c.top_of-top.ensures w over) in
    let failed : c.is_eq.result ≡ false = search rules in
    let limit =
    c.limit_by-limit.ensures ∙ (λ i. limit_by c.sign_of-sign.result (c.lower_limit.ensures i) (c.upper_limit.ensures i))
    ∙ against_by p (value_at w) c.args.k c.sign_of-sign.result signed in
    met_some p c.args.at.now.program.change x
    (value_at w) c.args.k c.requires.variable c.in_ok-met.met c.limit_by-limit.result c.shift_at-shift.result c.args.sum.now c.add_limit.new.sum
    (d *ℚ whole c.args.at.now.theta.now.bottom) (sym (ap is_equal signed) ∙ sym c.is_eq.ensures ∙ failed) limit c.shift_at-shift.ensures c.in_ok-met.ensures.met
    (λ m. c.in_ok-met.ensures.sum x y d (c.top_of-top.ensures w over) is_theta m)
