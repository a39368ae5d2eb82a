use Rattle.std.proofs.Common.{◌+◌, ap, sym, ◌∙◌, List, length}
use Rattle.exact_values.specs.Rational.{whole, zero_ℚ, ◌+ℚ◌, ◌*ℚ◌}
use Rattle.exact_values.specs.Tests.{is_equal, eq_ℚ}
use Rattle.lp_definitions.specs.declared.Entry.{Entry}
use Rattle.lp_definitions.specs.LinearProgram.{value_at, column}
use Rattle.check_definitions.specs.Steps.{sum_of}
use Rattle.check_definitions.specs.Checks.{entry_products, column_products}
use Rattle.long_programs.proofs.Compared.{compare_scaled}
use Rattle.long_points.proofs.AtTheta.{rows_within}
use Rattle.long_rays.proofs.Reading.{added, begun}
use Rattle.long_rays.proofs.vanishing.vanishes_on.Goals as goal

pub column_sum-requires : goal.column_sum-requires
column_sum-requires c =
    rows_within c.args.lp.now c.number_of_variables-size.ensures.lawful.is_matrix c.args.j c.requires.column
    (length c.args.ray.now.tops.items) c.requires.places c.column.result.now c.column.ensures

pub returns : goal.returns
returns c = λ w over.
    let p = c.args.lp.now in
    let y = value_at w in
    let own = y (p.rows + c.args.j) in
    let total = sum_of zero_ℚ (column_products p y c.args.j) in
    let d = whole c.args.ray.now.bottom in
    c.is_eq.ensures
    ∙ ap is_equal
    (c.sign.ensures
    ∙ compare_scaled (own +ℚ total) zero_ℚ d c.add.new.self over.positive
    (added total own d c.in_ok-sum.sum c.add.new.self c.whole.result (whole c.column_top.result.now)
    (c.in_ok-sum.ensures w over ∙ ap (λ (es : List Entry). sum_of zero_ℚ (entry_products y es) *ℚ d) c.column.ensures)
    c.whole.ensures (c.column_top.ensures w over) c.in_ok-add.ensures))
    ∙ ap (λ s. eq_ℚ s zero_ℚ) (sym (begun y own (column p.matrix c.args.j)))
