use Rattle.std.proofs.Common.{◌+◌, ap, sym, ◌∙◌, List, length}
use Rattle.exact_values.specs.Rational.{whole, zero_ℚ, ◌-ℚ◌, ◌*ℚ◌}
use Rattle.exact_values.specs.Tests.{is_equal}
use Rattle.lp_definitions.specs.declared.Entry.{Entry}
use Rattle.lp_definitions.specs.LinearProgram.{value_at, cost}
use Rattle.check_definitions.specs.Steps.{sum_of}
use Rattle.check_definitions.specs.Checks.{entry_products, column_products}
use Rattle.long_programs.specs.Programs.{program_of}
use Rattle.long_programs.proofs.Compared.{compare_scaled}
use Rattle.long_points.proofs.Orders.{equal_turned}
use Rattle.long_points.proofs.Sums.{cost_compared}
use Rattle.long_points.proofs.AtTheta.{rows_within, cost_test_at}
use Rattle.long_points.proofs.prices.reduced_cost_holds.Goals as goal

pub column_sum-requires : goal.column_sum-requires
column_sum-requires c =
    rows_within c.args.prices.now.program.lp.now c.number_of_variables-size.ensures.lawful.is_matrix c.args.j c.requires.column
    (length c.args.prices.now.spread.now.column.tops.items) c.args.prices.now.places c.column.result.now c.column.ensures

pub returns : goal.returns
returns c = λ values theta is.
    let p = c.args.prices.now.program.lp.now in
    let change = c.args.prices.now.program.change in
    let y = value_at values in
    let total = sum_of zero_ℚ (column_products p y c.args.j) in
    let price = y (p.rows + c.args.j) in
    let worth = cost (program_of p change theta) c.args.j in
    let d = whole c.args.prices.now.spread.now.column.bottom in
    c.is_eq.ensures
    ∙ ap is_equal
    (c.sign.ensures
    ∙ compare_scaled price (worth -ℚ total) d c.subtract_cost.new.sum is.is_over.positive
    (cost_compared total price worth d c.in_ok-sum.sum c.add.new.self c.subtract_cost.new.sum c.whole.result (whole c.column_top.result.now)
    (c.in_ok-sum.ensures values is.is_over ∙ ap (λ (es : List Entry). sum_of zero_ℚ (entry_products y es) *ℚ d) c.column.ensures)
    c.whole.ensures (c.column_top.ensures values is.is_over) c.in_ok-add.ensures (c.in_ok-subtract_cost.ensures theta is.moves)))
    ∙ equal_turned price (worth -ℚ total) ∙ sym (cost_test_at p change theta y c.args.j)
