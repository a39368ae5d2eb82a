use Rattle.std.proofs.Common.{ap, refl, ◌∙◌}
use Rattle.exact_values.specs.Rational.{whole, ◌*ℚ◌}
use Rattle.exact_values.specs.Tests.{is_equal}
use Rattle.exact_values.proofs.Order.{mul-positive}
use Rattle.lp_definitions.specs.LinearProgram.{value_at}
use Rattle.long_programs.proofs.Compared.{compare_scaled}
use Rattle.long_rays.proofs.Values.{compared_values}
use Rattle.long_rays.proofs.objectives.is_value_of.Goals as goal

pub returns : goal.returns
returns c = λ x values is over.
    let y = value_at values c.args.k in
    let number = c.args.number.now in
    let column = c.args.column.now in
    c.is_eq.ensures
    ∙ ap is_equal
    (c.sign.ensures
    ∙ compare_scaled x y (whole column.bottom *ℚ whole number.bottom) c.add-2.new.self (mul-positive over.positive is.positive)
    (compared_values x y (whole column.bottom)
    (whole number.bottom) c.in_ok-sum.sum c.add.new.self c.add-2.new.self c.whole.result c.whole-2.result number.top column.bottom c.in_ok-own.own
    c.top_of.result.now number.bottom c.in_ok-value.value is.is
    (c.top_of.ensures values over) refl refl c.in_ok-own.ensures c.in_ok-value.ensures c.in_ok-sum.ensures c.whole.ensures c.whole-2.ensures
    c.in_ok-add.ensures c.in_ok-add-2.ensures))
