use Rattle.std.proofs.Common.{◌≡◌, ◌∙◌, sym, ap, ap₂, pos, of_z}
use Rattle.std.specs.Int.{w128}
use Rattle.exact_values.specs.Rational.{whole, ◌*ℚ◌}
use Rattle.exact_values.proofs.Inverse.{whole_numerator, numerator_of_zero}
use Rattle.exact_values.proofs.RingLaws.{zero-mul}
use Rattle.frac128.proofs.Parts.{read_fitting}
use Rattle.lp_definitions.specs.LinearProgram.{value_at}
use Rattle.lp_laws.proofs.Places.{value_at_place}
use Rattle.price_row.proofs.column_numbers.number_over.Goals as goal

pub returns-then-known-ne0-clause-value : goal.returns-then-known-ne0-clause-value
returns-then-known-ne0-clause-value c =
    let is : whole c.whole_at-known.result ≡ value_at c.args.numbers.now c.args.row =
    c.whole_at-known.ensures.value ∙ ap (λ xs. value_at xs c.args.row) c.numbers.ensures.numbers in
    ap whole (read_fitting c.whole_at-known.result c.whole_at-known.ensures.fits) ∙ is
    ∙ c.requires.over.each c.args.row
    (λ none.
    let nought : c.whole_at-known.result ≡ pos 0 =
    sym (whole_numerator c.whole_at-known.result) ∙ numerator_of_zero (whole c.whole_at-known.result) (is ∙ none) in
    c.if-known-ne0.true (ap (of_z w128) nought))

pub returns-then-is_zero-clause-value : goal.returns-then-is_zero-clause-value
returns-then-is_zero-clause-value c =
    sym (ap (λ v. v *ℚ c.args.denominator)
    (sym (value_at_place c.args.values.now c.args.row c.index-values-row.result c.requires.low c.requires.high c.index-values-row.is)
    ∙ c.is_zero.ensures.0 c.if-is_zero.true)
    ∙ zero-mul c.args.denominator)

pub returns-clause-over : goal.returns-clause-over
returns-clause-over c =
    c.keep.ensures c.args.denominator c.args.values.now c.requires.over
    (ap whole (read_fitting c.in_ok-number.number c.in_ok-number.ensures.fits) ∙ c.in_ok-number.ensures.value
    ∙ ap₂ (λ v w. v *ℚ w) (value_at_place c.args.values.now c.args.row c.index-values-row.result c.requires.low c.requires.high c.index-values-row.is)
    (ap whole (read_fitting c.in_ok-multiple.multiple c.in_ok-multiple.ensures.fits) ∙ c.in_ok-multiple.ensures.value))
