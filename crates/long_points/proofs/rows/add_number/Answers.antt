use Rattle.std.proofs.Common.{◌-◌, ◌∙◌, ap, arith}
use Rattle.std.proofs.lemmas.List.{get_or_default}
use Rattle.exact_values.specs.Rational.{whole, zero_ℚ, ◌+ℚ◌, ◌*ℚ◌}
use Rattle.long_points.proofs.RowSums.{set_at}
use Rattle.long_points.proofs.rows.add_number.Goals as goal

pub returns : goal.returns
returns c =
    let here = get_or_default c.args.sums.now (c.args.row - 1) c.index-sums-row.result zero_ℚ (omega (arith, c.requires.first, c.requires.last)) in
    set_at c.args.sums.now c.args.row c.args.by (whole c.args.top.now) c.add.new.self c.requires.first c.requires.last
    (c.in_ok-add.ensures ∙ ap (λ s. s +ℚ c.args.by *ℚ whole c.args.top.now) here)
