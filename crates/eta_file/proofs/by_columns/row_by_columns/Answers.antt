use Rattle.std.proofs.Common.{◌≡◌, ◌+◌, arith, rules, Err}
use Rattle.eta_file.specs.Inverse.{IsRateAt}
use Rattle.eta_file.proofs.ColumnLaws.{row_of_rates, each_more, row_stop}
use Rattle.eta_file.proofs.by_columns.row_by_columns.Goals as goal

pub loop-k-preserved : goal.loop-k-preserved
loop-k-preserved c = record {
  rates =
      each_more (λ k v. IsRateAt c.args.file.now c.args.i (k + 1) v) c.loop-k.k c.loop-k.out c.in_ok-out.field-0
      (search rules) c.in_ok-out.ensures.value c.loop-k.invariant.rates;
  workspace = c.rate_by_column.ensures.places;
}

pub returns-clause-rates : goal.returns-clause-rates
returns-clause-rates c =
    row_of_rates c.args.file.now c.args.i c.loop-k.out c.size-k-end.ensures.basics c.size-k-end.ensures.passed c.requires.basic.0
    (λ k below. c.loop-k.invariant.rates k (omega (arith, below, c.size-k-end.ensures.size)))

pub returns-in_err-out-clause-overflow : goal.returns-in_err-out-clause-overflow
returns-in_err-out-clause-overflow c =
    let is_err : c.from_residual.result ≡ Err c.in_err-out.field-0.0 = search rules in
    rw is_err (row_stop c.args.file.now c.in_err-out.field-0.0 c.in_err-out.ensures.overflow)

pub returns-in_err-out-clause-never : goal.returns-in_err-out-clause-never
returns-in_err-out-clause-never c =
    let is_err : c.from_residual.result ≡ Err c.in_err-out.field-0.0 = search rules in
    rw is_err c.in_err-out.ensures.never
