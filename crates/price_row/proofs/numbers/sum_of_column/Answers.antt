use Rattle.std.proofs.Common.{◌∙◌, sym, ap₂, map}
use Rattle.exact_values.specs.Rational.{zero_ℚ, ◌+ℚ◌, ◌*ℚ◌}
use Rattle.price_row.proofs.SumSteps.{products_more}
use Rattle.price_row.proofs.numbers.sum_of_column.Goals as goal

pub loop-entry-preserved : goal.loop-entry-preserved
loop-entry-preserved g c = record {
  total =
      c.in_ok-sum.ensures.value ∙ ap₂ (λ s x. s +ℚ x *ℚ c.entry-item.result.value) c.loop-entry.invariant.total c.number_at-number.ensures.value
      ∙ sym (products_more
      (map g.N.Numbers.fraction c.args.numbers.now) c.args.column.now c.loop-entry.entry-index c.entry-item.result zero_ℚ c.loop-entry-test.true
      c.entry-item.is);
  sound = c.in_ok-sum.ensures.sound;
}
