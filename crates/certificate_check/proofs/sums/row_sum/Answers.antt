use Rattle.std.proofs.Common.{rules, ◌≡◌, ◌+◌, ◌<◌, arith, ap, ◌∙◌, sym, subst, ℕ, length}
use Rattle.std.proofs.lemmas.Result.{err_from_is_err_and}
use Rattle.exact_values.specs.Rational.{zero_ℚ}
use Rattle.frac128.specs.Operations.{TermsFit}
use Rattle.lp_definitions.specs.LinearProgram.{LinearProgram, value_at}
use Rattle.check_definitions.specs.Checks.{row_products}
use Rattle.certificate_check.proofs.Left.{IsLeft, columns_left, row_step, row_refused}
use Rattle.certificate_check.proofs.Skips.{list_start, passed_zero, next_listed, next_within, listed_step, listed_refused, listed_done, tail_value}
use Rattle.certificate_check.proofs.sums.row_sum.Goals as goal

pub loop-column-init : goal.loop-column-init
loop-column-init c =
    let fits : TermsFit c.whole-sum.result = search rules in
    list_start c.args.lp.now (value_at c.args.values.now) c.args.row c.whole-sum.result c.args.listed.now c.args.last c.whole-sum.ensures fits c.requires.listed

pub add_entry-requires-clause-column : goal.add_entry-requires-clause-column
add_entry-requires-clause-column c =
    let here =
    next_listed c.args.lp.now
    (value_at c.args.values.now) c.args.row c.loop-column.sum c.args.listed.now c.loop-column.column-index c.args.last c.loop-column-test.true
    c.loop-column.invariant in
    let within = next_within c.args.lp.now (value_at c.args.values.now) c.args.row c.loop-column.sum _ _ c.args.last here in
    (within.0, omega (arith, within.1, c.requires.last))

pub loop-place-init : goal.loop-place-init
loop-place-init c =
    let same : c.args.last ≡ c.args.last + 0 = omega arith in
    let left = listed_done c.args.lp.now (value_at c.args.values.now) c.args.row c.loop-column.sum c.args.listed.now c.loop-column.column-index c.args.last
    (omega (arith, c.loop-column-test.false)) c.requires.last c.loop-column.invariant in (
      c.loop-column.invariant.fits,
      subst (λ (j : ℕ). IsLeft zero_ℚ (row_products c.args.lp.now (value_at c.args.values.now) c.args.row) c.loop-column.sum
          (columns_left c.args.lp.now (value_at c.args.values.now) c.args.row j)) same left,
    )

pub returns-in_err-sum : goal.returns-in_err-sum
returns-in_err-sum c =
    let here =
    next_listed c.args.lp.now
    (value_at c.args.values.now) c.args.row c.loop-column.sum c.args.listed.now c.loop-column.column-index c.args.last c.loop-column-test.true
    c.loop-column.invariant in
    let p = err_from_is_err_and c.from_residual.result c.from_residual.ensures.1 in
    rw (p.1, p.2)
    (listed_refused c.args.lp.now (value_at c.args.values.now) c.args.row c.loop-column.sum _ _ c.args.last c.requires.last here _ c.in_err-sum.ensures)

pub loop-column-preserved : goal.loop-column-preserved
loop-column-preserved c =
    let here =
    next_listed c.args.lp.now
    (value_at c.args.values.now) c.args.row c.loop-column.sum c.args.listed.now c.loop-column.column-index c.args.last c.loop-column-test.true
    c.loop-column.invariant in
    let fits : TermsFit c.in_ok-sum.sum = search rules in
    listed_step c.args.lp.now
    (value_at c.args.values.now) c.args.row c.loop-column.sum _ _ c.args.last c.requires.last here c.in_ok-sum.sum fits c.in_ok-sum.ensures

pub loop-place-preserved-then-is_zero : goal.loop-place-preserved-then-is_zero
loop-place-preserved-then-is_zero c =
    let rows : c.lp.inside.rows ≡ c.args.lp.now.rows = ap (λ (p : LinearProgram). p.rows) c.lp.view_is in
    let z = value_at c.args.values.now in
    let j = c.args.last + c.loop-place.place in
    let within : c.lp.inside.rows + c.args.last + c.loop-place.place < length c.args.values.now = search rules in
    let below : j < c.args.lp.now.cols = omega (arith, within, rows, c.requires.places) in
    let place : c.lp.inside.rows + c.args.last + c.loop-place.place + 1 ≡ c.args.lp.now.rows + (j + 1) = omega (arith, rows) in
    let value : c.value-item.result ≡ z (c.args.lp.now.rows + (j + 1)) =
    tail_value c.args.values.now (c.lp.inside.rows + c.args.last) c.loop-place.place c.value-item.result within c.value-item.is ∙ ap z place in
    let next : j + 1 ≡ c.args.last + (c.loop-place.place + 1) = omega arith in
    let none : c.value-item.result ≡ zero_ℚ = search rules in
    let passed =
    passed_zero c.args.lp.now z c.args.row zero_ℚ _ c.loop-place.sum c.loop-place.invariant.0 j below (sym value ∙ none) c.loop-place.invariant.1 in (
      c.loop-place.invariant.0,
      subst
          (λ (k : ℕ). IsLeft zero_ℚ (row_products c.args.lp.now z c.args.row) c.loop-place.sum (columns_left c.args.lp.now z c.args.row k)) next passed,
    )

pub returns-in_err-sum-2 : goal.returns-in_err-sum-2
returns-in_err-sum-2 c =
    let rows : c.lp.inside.rows ≡ c.args.lp.now.rows = ap (λ (p : LinearProgram). p.rows) c.lp.view_is in
    let j = c.args.last + c.loop-place.place in
    let within : c.lp.inside.rows + c.args.last + c.loop-place.place < length c.args.values.now = search rules in
    let below : j < c.args.lp.now.cols = omega (arith, within, rows, c.requires.places) in
    let p = err_from_is_err_and c.from_residual-in_err-sum-2.result c.from_residual-in_err-sum-2.ensures.1 in
    rw (p.1, p.2)
    (row_refused c.args.lp.now (value_at c.args.values.now) c.args.row j below zero_ℚ
    (row_products c.args.lp.now (value_at c.args.values.now) c.args.row) c.loop-place.sum c.loop-place.invariant.1 _ c.in_err-sum-2.ensures)

pub loop-place-preserved : goal.loop-place-preserved
loop-place-preserved c =
    let rows : c.lp.inside.rows ≡ c.args.lp.now.rows = ap (λ (p : LinearProgram). p.rows) c.lp.view_is in
    let z = value_at c.args.values.now in
    let j = c.args.last + c.loop-place.place in
    let within : c.lp.inside.rows + c.args.last + c.loop-place.place < length c.args.values.now = search rules in
    let below : j < c.args.lp.now.cols = omega (arith, within, rows, c.requires.places) in
    let next : j + 1 ≡ c.args.last + (c.loop-place.place + 1) = omega arith in
    let fits : TermsFit c.in_ok-sum-2.sum = search rules in
    let step =
    row_step c.args.lp.now z c.args.row j below zero_ℚ
    (row_products c.args.lp.now z c.args.row) c.loop-place.sum c.loop-place.invariant.1 c.in_ok-sum-2.sum c.in_ok-sum-2.ensures in
    (fits, subst (λ (k : ℕ). IsLeft zero_ℚ (row_products c.args.lp.now z c.args.row) c.in_ok-sum-2.sum (columns_left c.args.lp.now z c.args.row k)) next step)
