use Rattle.std.proofs.Common.{◌≡◌, ◌<◌, ◌+◌, ◌-◌, ◌∙◌, sym, ap, arith, length}
use Rattle.exact_values.specs.Rational.{zero_ℚ, neg_ℚ}
use Rattle.lp_definitions.specs.LinearProgram.{column}
use Rattle.lp_definitions.specs.RatesEvidence.{sum_from}
use Rattle.price_row.specs.Sums.{products}
use Rattle.price_row.specs.Known.{IsRateOf}
use Rattle.price_row.proofs.SumSteps.{element_at}
use Rattle.price_row.proofs.RowSteps.{rate_of_row, rate_of_column, value_gives}
use Rattle.price_row.proofs.rate_by_multipliers.Goals as goal

pub returns-then-place-rows : goal.returns-then-place-rows
returns-then-place-rows c =
    let within : c.args.place < length c.args.out.now = omega (arith, c.requires.within, c.requires.places) in
    record {
      rate =
          rate_of_row c.args.file.now c.args.row c.args.place c.args.out.now c.neg.result (sym c.is_basic.ensures ∙ c.if-is_basic.false)
          (omega (arith, c.if-place-rows.true, c.rows-rows.ensures)) c.requires.known
          (c.neg.ensures ∙ ap neg_ℚ (sym (element_at c.args.out.now c.args.place c.index-out-place.result within c.index-out-place.is zero_ℚ)));
    }

pub returns : goal.returns
returns c =
    let its : c.numbers.result.now ≡ column c.args.file.now.matrix (c.args.place + 1 - c.args.file.now.matrix.rows) =
    c.numbers.ensures ∙ ap (λ n. column c.args.file.now.matrix (c.args.place + 1 - n)) c.rows-rows.ensures in
    record {
      rate =
          value_gives c.sum_at.result (λ sum. sum ≡ sum_from zero_ℚ (products c.args.out.now c.numbers.result.now))
          (IsRateOf c.args.file.now c.args.row (c.args.place + 1))
          (λ v is_v.
          rate_of_column c.args.file.now c.args.row c.args.place c.args.out.now v c.size-size.ensures.lawful c.size-size.ensures.nonsingular c.requires.basic
          (sym c.is_basic.ensures ∙ c.if-is_basic.false) (omega (arith, c.if-place-rows.false, c.rows-rows.ensures)) c.requires.within c.requires.known
          (is_v ∙ ap (λ es. sum_from zero_ℚ (products c.args.out.now es)) its))
          c.sum_at.ensures;
    }
