use Rattle.std.proofs.Common.{◌∙◌}
use Rattle.price_row.proofs.ColumnNumbers.{cleared}
use Rattle.price_row.proofs.column_numbers.sum_as_number.Goals as goal

pub sum_over_denominator-requires-clause-over : goal.sum_over_denominator-requires-clause-over
sum_over_denominator-requires-clause-over c =
    cleared c.in_ok-multiple.multiple c.args.values.now c.clear.new.self c.in_ok-multiple.ensures
    (c.clear.ensures.places ∙ c.sum_over_denominator-number.ensures.over.counted) c.clear.ensures.zero
