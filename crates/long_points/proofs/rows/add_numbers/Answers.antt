use Rattle.std.proofs.Common.{◌≡◌, ◌<◌, ◌≤◌, length, get_or, rules}
use Rattle.exact_values.specs.Rational.{whole}
use Rattle.lp_definitions.specs.LinearProgram.{value_at}
use Rattle.long_points.proofs.RowSums.{numbers_go_on, numbers_end}
use Rattle.long_points.proofs.rows.add_numbers.Goals as goal

pub loop-entry-preserved : goal.loop-entry-preserved
loop-entry-preserved c =
    let below : c.loop-entry.entry-index < length c.args.entries.now = search rules in
    let here : get_or c.args.entries.now c.loop-entry.entry-index c.entry-item.result ≡ c.entry-item.result = search rules in
    let counted : length c.add_number.new.sums ≡ length c.args.sums.now = search rules in (
      counted,
      λ i first.
          numbers_go_on c.args.entries.now c.loop-entry.entry-index i c.entry-item.result (whole c.args.top.now) (value_at c.args.sums.now i)
          (value_at c.loop-entry.sums i) (value_at c.add_number.new.sums i) below here
          (c.loop-entry.invariant.1 i first) (c.in_ok-add_number.ensures i first),
    )

pub returns : goal.returns
returns c = λ i first.
    let end : length c.args.entries.now ≤ c.loop-entry.entry-index = search rules in
    numbers_end c.args.entries.now c.loop-entry.entry-index i (whole c.args.top.now) (value_at c.args.sums.now i) (value_at c.loop-entry.sums i) end
    (c.loop-entry.invariant.1 i first)
