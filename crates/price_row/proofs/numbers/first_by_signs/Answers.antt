use Rattle.std.proofs.Common.{◌<◌, length, arith}
use Rattle.price_row.proofs.WantedSigns.{none_more, least_here, least_none}
use Rattle.price_row.proofs.numbers.first_by_signs.Goals as goal

pub loop-place-preserved : goal.loop-place-preserved
loop-place-preserved g c = λ rates row.
    none_more c.args.sought.now.wanted.now c.args.sought.now.up rates c.loop-place.place (c.loop-place.invariant rates row)
    c.in_ok-wanted.wanted (c.in_ok-wanted.ensures c.args.denominator c.requires.known c.is_up_over-up.ensures rates row) c.if-wanted.false

pub returns-then-wanted-clause-least : goal.returns-then-wanted-clause-least
returns-then-wanted-clause-least g c = λ rates row.
    let within : c.loop-place.place < length c.args.sought.now.wanted.now = omega (arith, c.requires.wanted_places) in
    least_here c.args.sought.now.wanted.now c.args.sought.now.up rates c.loop-place.place (c.loop-place.invariant rates row)
    c.in_ok-wanted.wanted (c.in_ok-wanted.ensures c.args.denominator c.requires.known c.is_up_over-up.ensures rates row) c.if-wanted.true within

pub returns-clause-least : goal.returns-clause-least
returns-clause-least g c = λ rates row.
    least_none c.args.sought.now.wanted.now c.args.sought.now.up rates c.loop-place.place (c.loop-place.invariant rates row)
    (omega (arith, c.loop-place-test.false, c.size-place-end.ensures.size, c.requires.wanted_places))
