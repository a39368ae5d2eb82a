use Rattle.std.proofs.Common.{◌≡◌, ◌+◌, ◌-◌, ◌∙◌, sym, ap, arith}
use Rattle.exact_values.specs.Rational.{whole, zero_ℚ, ◌*ℚ◌, ◌/ℚ◌}
use Rattle.exact_values.proofs.Inverse.{div_is}
use Rattle.lp_definitions.specs.LinearProgram.{column}
use Rattle.lp_definitions.specs.RatesEvidence.{sum_from}
use Rattle.eta_file.proofs.FileLaws.{some_map}
use Rattle.price_row.specs.Known.{IsRateOf}
use Rattle.price_row.specs.Sums.{products}
use Rattle.price_row.proofs.RowSteps.{rate_of_column}
use Rattle.price_row.proofs.column_numbers.column_number.Goals as goal

pub returns-clause-rate : goal.returns-clause-rate
returns-clause-rate c =
    let d = c.sum_as_number.new.denominator in
    let its : c.numbers-column.result.now ≡ column c.args.file.now.matrix (c.args.place + 1 - c.args.file.now.matrix.rows) =
    c.numbers-column.ensures ∙ ap (λ n. column c.args.file.now.matrix (c.args.place + 1 - n)) c.rows-rows.ensures in
    some_map c.sum_as_number.result (λ n. whole n ≡ sum_from zero_ℚ (products c.args.multipliers.now c.numbers-column.result.now) *ℚ d)
    (λ n. IsRateOf c.args.file.now c.args.row (c.args.place + 1) (whole n /ℚ d))
    (λ n is_n.
    rate_of_column c.args.file.now c.args.row c.args.place c.args.multipliers.now
    (whole n /ℚ d) c.size-size.ensures.lawful c.size-size.ensures.nonsingular c.requires.basic
    (sym c.is_basic.ensures ∙ c.if-is_basic.false) (omega (arith, c.if-place-rows.false, c.rows-rows.ensures)) c.requires.within c.requires.known
    (div_is (whole n) d (sum_from zero_ℚ (products c.args.multipliers.now c.numbers-column.result.now)) c.sum_as_number.ensures.over.apart is_n
    ∙ ap (λ es. sum_from zero_ℚ (products c.args.multipliers.now es)) its))
    c.sum_as_number.ensures.value
