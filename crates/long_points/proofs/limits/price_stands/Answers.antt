use Rattle.std.proofs.Common.{ap, sym, ◌∙◌}
use Rattle.exact_values.specs.Rational.{zero_ℚ, compare_ℚ}
use Rattle.lp_definitions.specs.declared.Sense.{Sense}
use Rattle.lp_definitions.specs.LinearProgram.{value_at, lower_of, upper_of, for_min}
use Rattle.check_definitions.specs.Checks.{by_sign}
use Rattle.long_programs.specs.Programs.{program_of}
use Rattle.long_programs.proofs.Moves.{sense_at}
use Rattle.long_points.specs.Tests.{at_by}
use Rattle.long_points.proofs.Orders.{at_is}
use Rattle.long_points.proofs.limits.price_stands.Goals as goal

pub returns : goal.returns
returns c = λ values costs theta is over.
    let p = c.args.priced.now.point.program.lp.now in
    let change = c.args.priced.now.point.program.change in
    let q = program_of p change theta in
    let x = value_at values c.args.k in
    let y = value_at costs c.args.k in
    let orders = c.in_ok-orders.ensures values theta is in
    let sign = c.counted_sign-sign.ensures costs over ∙ ap (λ (s : Sense). compare_ℚ (for_min s y) zero_ℚ) (sym (sense_at p change theta)) in
    let upper = c.is_at-at_upper.ensures ∙ ap at_by orders.upper ∙ at_is (upper_of q c.args.k) x in
    let lower = c.is_at-at_lower.ensures ∙ ap at_by orders.lower ∙ at_is (lower_of q c.args.k) x in
    c.asked_by.ensures ∙ (λ i. by_sign (sign i) (upper i) (lower i))
