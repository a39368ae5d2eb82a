use Rattle.std.proofs.Common.{◌≡◌, ◌+◌, ◌-◌, ◌∙◌, ap, arith, map}
use Rattle.exact_values.specs.Rational.{zero_ℚ, whole, ◌+ℚ◌, ◌*ℚ◌}
use Rattle.std.specs.Prelude.{negsuc}
use Rattle.lp_definitions.specs.LinearProgram.{column}
use Rattle.lp_definitions.specs.RatesEvidence.{sum_from}
use Rattle.eta_file.proofs.FileLaws.{some_map}
use Rattle.price_row.specs.Sums.{products}
use Rattle.price_row.specs.RateNumbers.{IsNumberAt}
use Rattle.price_row.proofs.NumberRates.{number_of_row, number_of_column}
use Rattle.price_row.proofs.numbers.number_of_rate.Goals as goal

pub returns-then-place-rows-clause-value : goal.returns-then-place-rows-clause-value
returns-then-place-rows-clause-value g c =
    let xs = map g.N.Numbers.fraction c.args.numbers.now in
    let z = g.N.Numbers.fraction c.zero.result in
    let x = g.N.Numbers.fraction c.number_at.result in
    some_map c.plus_word.result (λ n. g.N.Numbers.fraction n ≡ z +ℚ x *ℚ whole (negsuc 0))
    (λ n. IsNumberAt c.args.file.now (c.args.place + 1) xs (g.N.Numbers.fraction n))
    (λ n is_n. number_of_row c.args.file.now c.args.place xs (g.N.Numbers.fraction n) c.requires.within z x
    (omega (arith, c.if-place-rows.true, c.rows-rows.ensures)) c.number_at.ensures.value c.zero.ensures.value is_n)
    c.plus_word.ensures.value

pub returns-clause-value : goal.returns-clause-value
returns-clause-value g c =
    let xs = map g.N.Numbers.fraction c.args.numbers.now in
    some_map c.sum_at_column.result
    (λ n. g.N.Numbers.fraction n ≡ sum_from zero_ℚ (products xs (column c.args.file.now.matrix (c.args.place + 1 - c.rows-rows.result))))
    (λ n. IsNumberAt c.args.file.now (c.args.place + 1) xs (g.N.Numbers.fraction n))
    (λ n is_n.
    number_of_column c.args.file.now c.args.place xs (g.N.Numbers.fraction n) c.requires.within c.size-size.ensures.lawful c.size-size.ensures.nonsingular
    (omega (arith, c.if-place-rows.false, c.rows-rows.ensures))
    (is_n ∙ ap (λ m. sum_from zero_ℚ (products xs (column c.args.file.now.matrix (c.args.place + 1 - m)))) c.rows-rows.ensures))
    c.sum_at_column.ensures.value
