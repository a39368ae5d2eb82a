use Rattle.std.proofs.Common.{ap, Some, ◌∙◌}
use Rattle.std.specs.Prelude.{◌&&◌}
use Rattle.std.specs.declared.cmp.Ordering.{Ordering}
use Rattle.exact_values.specs.Rational.{zero_ℚ, ◌+ℚ◌, ◌*ℚ◌}
use Rattle.exact_values.specs.Tests.{is_less}
use Rattle.lp_definitions.specs.LinearProgram.{value_at, for_min}
use Rattle.long_points.specs.Tests.{not_above_by}
use Rattle.long_points.proofs.Orders.{not_above_is}
use Rattle.checks_of_any_length.proofs.directions.past_improves.Goals as goal

pub returns : goal.returns
returns c = λ x d is over.
    let p = c.args.lp.now in
    let v = value_at d in
    let y = v c.args.row in
    let stays =
    c.is_at_most-stays.ensures ∙ ap (λ (o : Ordering). not_above_by (Some o)) (c.in_ok-order.ensures d x over is)
    ∙ not_above_is (Some zero_ℚ) (for_min p.sense (v p.objective +ℚ x *ℚ y)) in
    c.both.ensures ∙ (λ i. stays i && (c.is_lt-improves.ensures ∙ ap is_less (c.counted_sign-slope.ensures d over)) i)
