use Rattle.std.proofs.Common.{◌+◌, rules}
use Rattle.std.specs.Prelude.{IsTrue, ◌==◌, nat_abs}
use Rattle.exact_values.specs.Rational.{whole}
use Rattle.lp_definitions.specs.LinearProgram.{value_at, entry}
use Rattle.long_points.proofs.Sums.{zero_top, nothing_added}
use Rattle.long_points.proofs.RowSums.{column_added}
use Rattle.long_points.proofs.rows.add_column.Goals as goal

pub returns-then-is_zero : goal.returns-then-is_zero
returns-then-is_zero c = λ values over i first.
    let p = c.args.lp.now in
    let none : IsTrue (nat_abs c.column_top-top.result.now == 0) = search rules in
    nothing_added (value_at c.args.sums.now i) (entry p.matrix i c.args.j) (value_at values (p.matrix.rows + c.args.j)) (whole c.args.column.now.bottom)
    (whole c.column_top-top.result.now)
    (c.column_top-top.ensures values over) (zero_top c.column_top-top.result.now none)

pub returns : goal.returns
returns c = λ values over i first.
    let p = c.args.lp.now in
    column_added p c.number_of_variables-size.ensures.lawful.is_matrix c.args.j c.requires.column i c.column.result.now c.column.ensures
    (value_at c.args.sums.now i) (value_at c.add_numbers.new.sums i)
    (value_at values (p.matrix.rows + c.args.j)) (whole c.args.column.now.bottom) (whole c.column_top-top.result.now) (c.column_top-top.ensures values over)
    (c.in_ok-add_numbers.ensures i first)
