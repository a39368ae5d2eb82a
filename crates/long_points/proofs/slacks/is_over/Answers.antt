use Rattle.std.proofs.Common.{◌≡◌, ap, ◌∙◌}
use Rattle.exact_values.specs.Rational.{whole, ◌*ℚ◌}
use Rattle.exact_values.specs.Tests.{is_equal}
use Rattle.exact_values.proofs.Order.{mul-positive}
use Rattle.exact_values.proofs.RingLaws.{whole-mul}
use Rattle.long_programs.proofs.Compared.{compare_scaled}
use Rattle.long_points.proofs.Sums.{over_same, over_other}
use Rattle.long_points.proofs.slacks.is_over.Goals as goal

pub returns-then-are_equal : goal.returns-then-are_equal
returns-then-are_equal c = λ x s positive is_left also.
    let slack = c.args.slack.now in
    let bottom = c.args.bottom.now in
    let same : slack.bottom ≡ bottom = c.are_equal.ensures.0 c.if-are_equal.true in
    c.is_eq.ensures
    ∙ ap is_equal
    (c.sign.ensures
    ∙ compare_scaled x s (whole bottom) c.add.new.self positive
    (over_same x s (whole bottom) (whole slack.bottom) c.args.left (whole slack.top) c.whole-minus.result c.add.new.self is_left also.is (ap whole same)
    c.whole-minus.ensures c.in_ok-add.ensures))

pub returns : goal.returns
returns c = λ x s positive is_left also.
    let slack = c.args.slack.now in
    let d = whole c.args.bottom.now in
    let e = whole slack.bottom in
    c.is_eq-2.ensures
    ∙ ap is_equal
    (c.sign-2.ensures
    ∙ compare_scaled x s (d *ℚ e) c.add-2.new.self (mul-positive positive also.positive)
    (over_other x s d e c.args.left c.multiply.new.self (whole c.in_ok-shown.shown) c.whole-minus.result c.add-2.new.self is_left c.in_ok-multiply.ensures
    (ap whole c.in_ok-shown.ensures ∙ whole-mul slack.top c.args.bottom.now ∙ ap (λ q. q *ℚ d) also.is) c.whole-minus.ensures c.in_ok-add-2.ensures))
