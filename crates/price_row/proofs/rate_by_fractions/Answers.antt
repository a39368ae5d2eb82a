use Rattle.std.proofs.Common.{◌+◌, arith}
use Rattle.eta_file.specs.Inverse.{IsRateAt}
use Rattle.price_row.specs.Known.{IsRateOf}
use Rattle.price_row.proofs.RowSteps.{rate_in_direction, value_gives}
use Rattle.price_row.proofs.rate_by_fractions.Goals as goal

pub returns-in-Err-clause-rate : goal.returns-in-Err-clause-rate
returns-in-Err-clause-rate c =
    value_gives c.rate_by_column.result (IsRateAt c.args.file.now c.args.row (c.args.place + 1)) (IsRateOf c.args.file.now c.args.row (c.args.place + 1))
    (λ v h. rate_in_direction c.args.file.now c.args.row (c.args.place + 1) v (omega arith, omega (arith, c.requires.within)) h) c.rate_by_column.ensures.value
