use Rattle.std.proofs.Common.{◌-◌, length, arith, get_or, sym, ◌∙◌, ap}
use Rattle.std.proofs.lemmas.List.Sums.{fold_more}
use Rattle.card_definitions.specs.Numbers.{next_value}
use Rattle.deck_fields.proofs.Digits.{digit_at, bound_kept, bound_alone}
use Rattle.deck_fields.proofs.reading.continued.Goals as goal

pub overflow_mul-total : goal.overflow_mul-total
overflow_mul-total c =
    omega (arith, bound_alone c.loop-digit.total (length c.args.digits.now - c.loop-digit.digit-index) _ c.loop-digit.invariant.1, c.requires.fits)

pub overflow_add-total : goal.overflow_add-total
overflow_add-total c =
    let digit = digit_at c.args.digits.now c.loop-digit.digit-index c.requires.digits c.loop-digit-test.true in
    omega (arith, digit, bound_alone c.loop-digit.total (length c.args.digits.now - c.loop-digit.digit-index) _ c.loop-digit.invariant.1, c.requires.fits)

pub loop-digit-preserved : goal.loop-digit-preserved
loop-digit-preserved c =
    let digit = digit_at c.args.digits.now c.loop-digit.digit-index c.requires.digits c.loop-digit-test.true in (
      ap (λ total. next_value total (get_or c.args.digits.now c.loop-digit.digit-index 0)) c.loop-digit.invariant.0
          ∙ sym (fold_more next_value c.args.value c.args.digits.now c.loop-digit.digit-index 0 c.loop-digit-test.true),
      bound_kept c.loop-digit.total _ (length c.args.digits.now) c.loop-digit.digit-index _
          (omega (arith, digit)) c.loop-digit-test.true c.loop-digit.invariant.1,
    )
