use Rattle.std.proofs.Common.{arith}
use Rattle.bcd_out.proofs.Texts.{deck_length}
use Rattle.bcd_out.proofs.count.card_count.Goals as goal

pub returns : goal.returns
returns c =
    let whole = deck_length c.args.problem.now in
    let a = c.with_rows-count.ensures in
    let b = c.with_columns-count.ensures in
    let d = c.with_values-count.ensures in
    let e = c.with_values-count-2.ensures in
    let f = c.with_bounds.ensures in
    let a = rw c.rows-rows.ensures.rows at a in
    let b = rw (c.rows-rows.ensures.rows, c.columns.ensures.columns) at b in
    let d = rw c.rhs.ensures.rhs at d in
    let e = rw c.ranges-2.ensures.ranges at e in
    let f = rw c.bounds.ensures.bounds at f in
    omega (arith, whole, a, b, d, e, f)
