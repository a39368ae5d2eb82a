use Rattle.exact_values.specs.Rational.{whole}
use Rattle.long_points.proofs.Sums.{opposite_made}
use Rattle.long_points.proofs.rows.opposite.Goals as goal

pub returns : goal.returns
returns c = opposite_made (whole c.args.top.now) c.in_ok-sum.sum c.whole.result c.add.new.self c.in_ok-sum.ensures c.whole.ensures c.in_ok-add.ensures
