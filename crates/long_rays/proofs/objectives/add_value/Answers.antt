use Rattle.exact_values.specs.Rational.{whole}
use Rattle.lp_definitions.specs.LinearProgram.{value_at}
use Rattle.long_rays.proofs.Values.{value_added}
use Rattle.long_rays.proofs.objectives.add_value.Goals as goal

pub returns : goal.returns
returns c = λ values over.
    value_added c.args.sum.now c.add.new.self (value_at values c.args.k)
    (whole c.args.column.now.bottom) c.whole.result c.top_of.result.now c.in_ok-scaled.scaled c.args.times.now
    (c.top_of.ensures values over) c.in_ok-scaled.ensures c.whole.ensures c.in_ok-add.ensures
