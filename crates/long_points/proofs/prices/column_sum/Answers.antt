use Rattle.std.proofs.Common.{◌≡◌, ◌<◌, length, get_or, rules}
use Rattle.exact_values.specs.Rational.{whole}
use Rattle.lp_definitions.specs.LinearProgram.{value_at}
use Rattle.long_points.proofs.Sums.{column_begins, column_goes_on}
use Rattle.long_points.proofs.prices.column_sum.Goals as goal

pub loop-entry-init : goal.loop-entry-init
loop-entry-init c = λ values over. column_begins (value_at values) c.args.entries.now c.in_ok-sum.sum (whole c.args.column.now.bottom) c.in_ok-sum.ensures

pub loop-entry-preserved : goal.loop-entry-preserved
loop-entry-preserved c = λ values over.
    let below : c.loop-entry.entry-index < length c.args.entries.now = search rules in
    let here : get_or c.args.entries.now c.loop-entry.entry-index c.entry-item.result ≡ c.entry-item.result = search rules in
    column_goes_on (value_at values) c.args.entries.now c.loop-entry.entry-index c.entry-item.result (whole c.args.column.now.bottom) c.loop-entry.sum
    (whole c.top_of.result.now) c.add.new.self below here
    (c.top_of.ensures values over) c.in_ok-add.ensures (c.loop-entry.invariant values over)
