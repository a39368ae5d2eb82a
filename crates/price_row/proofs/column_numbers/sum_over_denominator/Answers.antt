use Rattle.std.proofs.Common.{rules, ◌∙◌, refl, sym, ap, ap₂, subst, take, ℤ}
use Rattle.exact_values.specs.Rational.{whole, zero_ℚ, ◌+ℚ◌, ◌*ℚ◌}
use Rattle.exact_values.proofs.RingLaws.{zero-mul}
use Rattle.frac128.specs.Terms.{Fits}
use Rattle.frac128.proofs.Parts.{read_fitting}
use Rattle.lp_definitions.specs.LinearProgram.{value_at}
use Rattle.lp_definitions.specs.RatesEvidence.{sum_from}
use Rattle.price_row.specs.Sums.{products}
use Rattle.price_row.proofs.SumSteps.{products_more}
use Rattle.price_row.proofs.ColumnNumbers.{over_more}
use Rattle.price_row.proofs.column_numbers.sum_over_denominator.Goals as goal

pub loop-entry-init : goal.loop-entry-init
loop-entry-init c = record { sum = sym (zero-mul c.args.denominator); fits = search rules; over = c.requires.over }

pub loop-entry-preserved : goal.loop-entry-preserved
loop-entry-preserved c =
    let before = sum_from zero_ℚ (products c.args.values.now (take c.loop-entry.entry-index c.args.column.now)) in
    let x = value_at c.args.values.now c.entry-item.result.row in
    record {
      sum =
          ap whole (read_fitting c.in_ok-total.total c.in_ok-total.ensures.fits) ∙ c.in_ok-total.ensures.value
          ∙ ap₂ (λ (m n : ℤ). whole m +ℚ c.entry-item.result.value *ℚ whole n) refl (read_fitting c.in_ok-number.number c.in_ok-number.ensures.fits)
          ∙ ap₂ (λ s t. s +ℚ c.entry-item.result.value *ℚ t) c.loop-entry.invariant.sum c.in_ok-number.ensures.value
          ∙ over_more before x c.entry-item.result.value c.args.denominator
          ∙ ap (λ s. s *ℚ c.args.denominator)
          (sym (products_more c.args.values.now c.args.column.now c.loop-entry.entry-index c.entry-item.result zero_ℚ c.loop-entry-test.true c.entry-item.is));
      fits = subst (λ z. Fits z) (sym (read_fitting c.in_ok-total.total c.in_ok-total.ensures.fits)) c.in_ok-total.ensures.fits;
      over = c.in_ok-number.ensures.over;
    }
