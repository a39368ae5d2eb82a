use Rattle.std.proofs.Common.{◌≡◌, ◌∙◌, ap, length, refl, rules}
use Rattle.exact_values.specs.Rational.{whole}
use Rattle.lp_definitions.specs.LinearProgram.{LinearProgram, value_at}
use Rattle.long_points.proofs.RowSums.{columns_begin, columns_go_on, columns_end}
use Rattle.long_points.proofs.rows.add_columns.Goals as goal

pub loop-j-init : goal.loop-j-init
loop-j-init c = (refl, λ values over i first. columns_begin c.args.lp.now (value_at values) i (value_at c.args.sums.now i) (whole c.args.column.now.bottom))

pub loop-j-preserved : goal.loop-j-preserved
loop-j-preserved c =
    let counted : length c.add_column.new.sums ≡ length c.args.sums.now = search rules in (
      counted,
      λ values over i first.
          columns_go_on c.args.lp.now (value_at values) i c.loop-j.j (value_at c.args.sums.now i) (value_at c.loop-j.sums i) (value_at c.add_column.new.sums i)
          (whole c.args.column.now.bottom)
          (c.loop-j.invariant.1 values over i first) (c.in_ok-add_column.ensures values over i first),
    )

pub returns : goal.returns
returns c = λ values over i first.
    let end : c.loop-j.j ≡ c.lp.inside.cols = search rules in
    columns_end c.args.lp.now (value_at values) i c.loop-j.j (value_at c.args.sums.now i) (value_at c.loop-j.sums i) (whole c.args.column.now.bottom)
    (end ∙ ap (λ (p : LinearProgram). p.cols) c.lp.view_is)
    (c.loop-j.invariant.1 values over i first)
