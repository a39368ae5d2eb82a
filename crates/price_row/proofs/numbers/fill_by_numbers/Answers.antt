use Rattle.std.proofs.Common.{rules, ◌<◌, length, arith}
use Rattle.price_row.proofs.WantedSteps.{filled_next}
use Rattle.price_row.proofs.WholeRows.{filled_row}
use Rattle.price_row.proofs.numbers.fill_by_numbers.Goals as goal

pub loop-place-preserved : goal.loop-place-preserved
loop-place-preserved g c =
    let below : c.loop-place.place < length c.loop-place.out = omega (arith, c.loop-place.invariant.counted) in
    record {
      counted = search rules;
      filled =
          filled_next c.args.file.now c.loop-place.place c.args.row c.loop-place.out c.in_ok-out.field-0 below c.loop-place.invariant.filled
          c.in_ok-out.ensures;
    }

pub returns : goal.returns
returns g c =
    filled_row c.args.file.now c.loop-place.place c.args.row c.loop-place.out c.size-place-end.ensures.basics c.size-place-end.ensures.passed
    (omega (arith, c.loop-place-test.false, c.size-place-end.ensures.size)) c.loop-place.invariant.filled
