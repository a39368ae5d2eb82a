use Rattle.exact_values.specs.Rational.{whole}
use Rattle.lp_definitions.specs.LinearProgram.{value_at}
use Rattle.long_points.proofs.Sums.{left_made}
use Rattle.long_points.proofs.slacks.left_over.Goals as goal

pub returns : goal.returns
returns c = λ values over.
    left_made (value_at c.args.lp.now.rhs c.args.i) (value_at values c.args.i) (whole c.args.point.now.bottom) (whole c.top_of.result.now) c.whole.result _ _ _
    c.right_hand_side.result (c.top_of.ensures values over) c.whole.ensures c.right_hand_side.ensures c.in_ok-sum.ensures c.in_ok-add.ensures
    c.in_ok-add-2.ensures
