use Rattle.std.proofs.Common.{◌≡◌, ◌∙◌, sym, ap, length, subst, rules, Err}
use Rattle.exact_values.specs.Rational.{zero_ℚ, ◌+ℚ◌, ◌*ℚ◌}
use Rattle.lp_definitions.specs.LinearProgram.{value_at}
use Rattle.lp_definitions.specs.declared.Entry.{Entry}
use Rattle.price_row.specs.Places.{IsRowPlace}
use Rattle.price_row.proofs.SumSteps.{products_more, products_refused}
use Rattle.price_row.proofs.sums.sum_of_column.Goals as goal
use Rattle.lp_laws.proofs.Places.{value_at_place}

pub loop-entry-preserved : goal.loop-entry-preserved
loop-entry-preserved c =
    let within : IsRowPlace (length c.args.values.now) c.entry-item.result =
    subst (λ (x : Entry). IsRowPlace (length c.args.values.now) x) (sym c.entry-item.is)
    (c.requires c.loop-entry.entry-index c.entry-item.result c.loop-entry-test.true) in
    c.in_ok-sum.ensures.value
    ∙ ap (λ x. c.loop-entry.sum +ℚ x *ℚ c.entry-item.result.value)
    (value_at_place c.args.values.now c.entry-item.result.row c.index-values-entry.result within.0 within.1 c.index-values-entry.is)
    ∙ ap (λ s. s +ℚ value_at c.args.values.now c.entry-item.result.row *ℚ c.entry-item.result.value) c.loop-entry.invariant
    ∙ sym (products_more c.args.values.now c.args.column.now c.loop-entry.entry-index c.entry-item.result zero_ℚ c.loop-entry-test.true c.entry-item.is)

pub returns-in_err-sum-clause-refused : goal.returns-in_err-sum-clause-refused
returns-in_err-sum-clause-refused c =
    let is_err : c.from_residual.result ≡ Err c.in_err-sum.field-0.0 = search rules in
    let within : IsRowPlace (length c.args.values.now) c.entry-item.result =
    subst (λ (x : Entry). IsRowPlace (length c.args.values.now) x) (sym c.entry-item.is)
    (c.requires c.loop-entry.entry-index c.entry-item.result c.loop-entry-test.true) in
    rw is_err
    (products_refused c.args.values.now c.args.column.now c.loop-entry.entry-index c.entry-item.result c.loop-entry.sum c.index-values-entry.result
    c.in_err-sum.field-0.0
    c.loop-entry-test.true c.entry-item.is c.loop-entry.invariant
    (value_at_place c.args.values.now c.entry-item.result.row c.index-values-entry.result within.0 within.1 c.index-values-entry.is)
    c.in_err-sum.ensures.refused)
