use Rattle.std.proofs.Common.{rules, ◌≡◌, ◌∙◌, ◌+◌, ◌-◌, ◌<◌, length, set, subst, arith, sym}
use Rattle.lp_definitions.specs.LinearProgram.{size}
use Rattle.price_row.proofs.ColumnNumbers.{IsFilledDownTo, begun, filled_before}
use Rattle.price_row.proofs.RowSteps.{row_is}
use Rattle.price_row.proofs.fill_by_multipliers.Goals as goal

pub loop-back-init : goal.loop-back-init
loop-back-init c = record {
  counted = c.requires.places;
  filled = λ k from within. absurd (omega (arith, from, within));
  over =
      begun c.whole-denominator.result c.args.multipliers.now c.clear.new.self c.whole-denominator.ensures
      (c.clear.ensures.places ∙ c.requires.number_places ∙ sym c.requires.multiplier_places) c.clear.ensures.zero;
  workspace = c.requires.workspace;
}

pub loop-back-preserved : goal.loop-back-preserved
loop-back-preserved c =
    let n = size c.args.file.now.matrix in
    let place = c.size-size.result - 1 - c.loop-back.back in
    let here : place ≡ n - (c.loop-back.back + 1) = omega (arith, c.size-size.ensures.size) in
    let next : n - c.loop-back.back ≡ place + 1 = omega (arith, c.size-size.ensures.size, c.loop-back-test.true) in
    let below : place < length c.loop-back.out = omega (arith, c.size-size.ensures.size, c.loop-back-test.true, c.loop-back.invariant.counted) in
    record {
      counted = search rules;
      filled = subst (λ i. IsFilledDownTo c.args.file.now i c.args.row (set c.loop-back.out place c.in_ok-rate.rate)) here
          (filled_before c.args.file.now place c.args.row c.loop-back.out c.in_ok-rate.rate below
          (subst (λ i. IsFilledDownTo c.args.file.now i c.args.row c.loop-back.out) next c.loop-back.invariant.filled) c.in_ok-rate.ensures.rate);
      over = c.in_ok-rate.ensures.over;
      workspace = c.in_ok-rate.ensures.workspace;
    }

pub returns-clause-rates : goal.returns-clause-rates
returns-clause-rates c =
    row_is c.args.file.now c.args.row c.loop-back.out c.size-size.ensures.basics c.size-size.ensures.passed
    (record {
      known = λ rate is k less in_rows. absurd (omega (arith, less));
      filled = λ k from within. c.loop-back.invariant.filled k (omega (arith, c.loop-back-test.false, c.size-size.ensures.size)) within;
    })
