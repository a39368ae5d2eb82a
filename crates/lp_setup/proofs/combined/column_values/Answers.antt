use Rattle.std.proofs.Common.{◌≡◌, ℕ, Some, subst, arith}
use Rattle.std.specs.List.{slice_get}
use Rattle.std.proofs.lemmas.Result.{err_from_is_err_and}
use Rattle.problem_definitions.specs.Problem.{Row}
use Rattle.lp_setup.specs.Combined.{IsRowValue, IsRowValueMade, IsRowValueOverflow}
use Rattle.lp_setup.proofs.Columns.{values_begun, values_step, sums_step, overflow_at, parts_there}
use Rattle.lp_setup.proofs.Lists.{standing}
use Rattle.lp_setup.proofs.combined.column_values.Goals as goal

pub loop-place-init : goal.loop-place-init
loop-place-init c =
    (values_begun c.args.rows.now c.args.entries.now c.in_ok-values.values.items c.in_ok-values.ensures, λ place below. absurd (omega (arith, below)))

pub row_value-requires-clause-parts : goal.row_value-requires-clause-parts
row_value-requires-clause-parts c =
    parts_there c.args.rows.now c.loop-place.place c.index-rows-place.result c.requires.parts
    (standing c.args.rows.now c.loop-place.place c.index-rows-place.result c.loop-place-test.true c.index-rows-place.is)

pub returns-in_err-values-2-clause-overflow : goal.returns-in_err-values-2-clause-overflow
returns-in_err-values-2-clause-overflow c =
    let row : Row ℕ = c.index-rows-place.result in
    let is_row : slice_get c.args.rows.now c.loop-place.place ≡ Some row =
    standing c.args.rows.now c.loop-place.place row c.loop-place-test.true c.index-rows-place.is in
    let over =
    subst (λ values. IsRowValueOverflow values row.parts c.loop-place.place c.args.column c.in_err-values-2.field-0.0) c.deref.ensures.value
    c.in_err-values-2.ensures.overflow in
    let p = err_from_is_err_and c.from_residual-in_err-values-2.result c.from_residual-in_err-values-2.ensures.1 in
    rw (p.1, p.2)
    (overflow_at c.args.rows.now c.args.entries.now c.loop-place.place c.loop-place.values.items c.loop-place.invariant.0 row is_row c.args.column _ over)

pub loop-place-preserved : goal.loop-place-preserved
loop-place-preserved c =
    let row : Row ℕ = c.index-rows-place.result in
    let is_row : slice_get c.args.rows.now c.loop-place.place ≡ Some row =
    standing c.args.rows.now c.loop-place.place row c.loop-place-test.true c.index-rows-place.is in
    let has = subst (λ values. IsRowValue values row.parts c.loop-place.place c.in_ok-values-2.field-0) c.deref.ensures.value c.in_ok-values-2.ensures.value in
    let made = subst (λ values. IsRowValueMade values row.parts c.loop-place.place) c.deref.ensures.value c.in_ok-values-2.ensures.made in (
      values_step c.args.rows.now c.args.entries.now c.loop-place.place c.loop-place.values.items c.loop-place.invariant.0 row is_row c.in_ok-values-2.field-0
          has,
      sums_step c.args.rows.now c.args.entries.now c.loop-place.place c.loop-place.values.items c.loop-place.invariant.0 row is_row made
          c.loop-place.invariant.1,
    )
