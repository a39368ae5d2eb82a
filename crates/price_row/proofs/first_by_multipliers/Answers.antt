use Rattle.std.proofs.Common.{◌<◌, ◌∙◌, length, arith, sym}
use Rattle.price_row.proofs.ColumnNumbers.{begun}
use Rattle.price_row.proofs.WantedSigns.{none_more, least_here, least_none}
use Rattle.price_row.proofs.first_by_multipliers.Goals as goal

pub loop-place-init : goal.loop-place-init
loop-place-init c = record {
  none = λ rates row k low high. absurd (omega (arith, low, high));
  over =
      begun c.whole-denominator.result c.args.multipliers.now c.clear.new.self c.whole-denominator.ensures
      (c.clear.ensures.places ∙ c.requires.number_places ∙ sym c.requires.multiplier_places) c.clear.ensures.zero;
  workspace = c.requires.workspace;
}

pub loop-place-preserved : goal.loop-place-preserved
loop-place-preserved c = record {
  none = λ rates row.
      none_more c.args.sought.now.wanted.now c.args.sought.now.up rates c.loop-place.place (c.loop-place.invariant.none rates row) c.in_ok-wanted.wanted
      (c.in_ok-wanted.ensures.met rates row) c.if-wanted.false;
  over = c.in_ok-wanted.ensures.over;
  workspace = c.in_ok-wanted.ensures.workspace;
}

pub returns-then-wanted-clause-least : goal.returns-then-wanted-clause-least
returns-then-wanted-clause-least c = λ rates row.
    let within : c.loop-place.place < length c.args.sought.now.wanted.now = omega (arith, c.requires.wanted_places) in
    least_here c.args.sought.now.wanted.now c.args.sought.now.up rates c.loop-place.place (c.loop-place.invariant.none rates row) c.in_ok-wanted.wanted
    (c.in_ok-wanted.ensures.met rates row) c.if-wanted.true within

pub returns-clause-least : goal.returns-clause-least
returns-clause-least c = λ rates row.
    least_none c.args.sought.now.wanted.now c.args.sought.now.up rates c.loop-place.place (c.loop-place.invariant.none rates row)
    (omega (arith, c.loop-place-test.false, c.size-place-end.ensures.size, c.requires.wanted_places))
