use Rattle.std.proofs.Common.{rules, ◌≡◌, true}
use Rattle.std.specs.Option.{is_some}
use Rattle.lp_definitions.specs.LinearProgram.{value_at}
use Rattle.lp_model.specs.RatesCalls.{IsRowOf}
use Rattle.price_row.proofs.WholeRows.{where_some}
use Rattle.price_row.proofs.PriceRow.row.Goals as goal

pub returns-then-is_some-clause-rates : goal.returns-then-is_some-clause-rates
returns-then-is_some-clause-rates c =
    let some : is_some c.row_by_numbers.result ≡ true = search rules in
    where_some c.row_by_numbers.result
    (IsRowOf c.args.file.now.matrix c.args.file.now.basics c.args.i (value_at c.row_by_numbers.new.out)) some c.row_by_numbers.ensures.rates

pub returns-then-is_some-2-clause-rates : goal.returns-then-is_some-2-clause-rates
returns-then-is_some-2-clause-rates c =
    let some : is_some c.row_by_numbers-2.result ≡ true = search rules in
    where_some c.row_by_numbers-2.result
    (IsRowOf c.args.file.now.matrix c.args.file.now.basics c.args.i (value_at c.row_by_numbers-2.new.out)) some c.row_by_numbers-2.ensures.rates
