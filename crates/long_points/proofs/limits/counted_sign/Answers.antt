use Rattle.std.proofs.Common.{ap, ◌∙◌}
use Rattle.exact_values.specs.Rational.{whole, zero_ℚ, compare_ℚ}
use Rattle.lp_definitions.specs.declared.Sense.{Sense}
use Rattle.lp_definitions.specs.LinearProgram.{LinearProgram, value_at, for_min}
use Rattle.long_points.specs.Tests.{counted_by}
use Rattle.long_points.proofs.Orders.{counted_is}
use Rattle.long_points.proofs.AtTheta.{sign_over}
use Rattle.long_points.proofs.limits.counted_sign.Goals as goal

pub returns : goal.returns
returns c = λ values over.
    let y = value_at values c.args.k in
    let signed = c.sign_of.ensures ∙ sign_over y (whole c.args.column.now.bottom) (whole c.top_of.result.now) over.positive (c.top_of.ensures values over) in
    c.counted.ensures ∙ ap (counted_by c.lp.inside.sense) signed ∙ counted_is c.lp.inside.sense y
    ∙ ap (λ (s : Sense). compare_ℚ (for_min s y) zero_ℚ) (ap (λ (p : LinearProgram). p.sense) c.lp.view_is)
