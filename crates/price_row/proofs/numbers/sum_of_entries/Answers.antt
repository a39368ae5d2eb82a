use Rattle.std.proofs.Common.{◌∙◌, sym, ap, ap₂, map}
use Rattle.exact_values.specs.Rational.{◌+ℚ◌, ◌*ℚ◌}
use Rattle.price_row.proofs.SumSteps.{weighted_next, weighted_idle}
use Rattle.price_row.proofs.numbers.sum_of_entries.Goals as goal

pub loop-entry-preserved : goal.loop-entry-preserved
loop-entry-preserved g c = record {
  total = λ p none.
      c.in_ok-sum.ensures.value
      ∙ ap (λ y. g.N.Numbers.fraction c.loop-entry.sum +ℚ g.N.Numbers.fraction c.number_at-number.result *ℚ y) c.in_ok-as_whole.ensures
      ∙ ap₂ (λ s x. s +ℚ x *ℚ c.entry-item.result.rate) (c.loop-entry.invariant.total p none) c.number_at-number.ensures.value
      ∙ sym (weighted_next p (map g.N.Numbers.fraction c.args.numbers.now) c.args.entries.now c.loop-entry.entry-index c.entry-item.result
      (g.N.Numbers.fraction c.args.first) c.loop-entry-test.true c.entry-item.is none);
  sound = c.in_ok-sum.ensures.sound;
}

pub loop-entry-preserved-then-is_zero : goal.loop-entry-preserved-then-is_zero
loop-entry-preserved-then-is_zero g c = record {
  total = λ p none.
      c.loop-entry.invariant.total p none
      ∙ sym (weighted_idle p (map g.N.Numbers.fraction c.args.numbers.now) c.args.entries.now c.loop-entry.entry-index c.entry-item.result
      (g.N.Numbers.fraction c.args.first) c.loop-entry-test.true c.entry-item.is none
      (sym c.number_at-number.ensures.value ∙ c.is_zero.ensures c.if-is_zero.true));
  sound = c.loop-entry.invariant.sound;
}
