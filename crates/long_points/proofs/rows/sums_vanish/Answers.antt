use Rattle.std.proofs.Common.{◌≡◌, ℕ, ap, subst}
use Rattle.std.specs.Prelude.{IsTrue, ◌↔◌}
use Rattle.exact_values.specs.Rational.{whole, zero_ℚ}
use Rattle.exact_values.specs.Tests.{eq_ℚ}
use Rattle.lp_definitions.specs.LinearProgram.{LinearProgram, value_at}
use Rattle.long_points.specs.Tests.{UpTo}
use Rattle.long_points.proofs.RowSums.{sums_tell, zero_is}
use Rattle.long_points.proofs.rows.sums_vanish.Goals as goal

pub returns : goal.returns
returns c = λ values over part begins.
    let p = c.args.lp.now in
    let rows : c.lp.inside.rows ≡ p.rows = ap (λ (p : LinearProgram). p.rows) c.lp.view_is in
    sums_tell p (value_at values) part c.are_zero.result (λ i. eq_ℚ (value_at c.add_columns.new.sums i) zero_ℚ)
    (λ i row. zero_is p (value_at values) i (value_at c.args.sums.now i) (value_at c.add_columns.new.sums i) (whole c.args.column.now.bottom) over.positive
    (begins i row) (c.in_ok-add_columns.ensures values over i row.0))
    (subst (λ (n : ℕ). IsTrue c.are_zero.result ↔ UpTo (λ i. eq_ℚ (value_at c.add_columns.new.sums i) zero_ℚ) n) rows c.are_zero.ensures)
