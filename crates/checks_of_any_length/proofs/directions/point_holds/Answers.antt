use Rattle.std.proofs.Common.{◌∙◌}
use Rattle.checks_of_any_length.proofs.directions.point_holds.Goals as goal

pub invariant_of-point-clause-places : goal.invariant_of-point-clause-places
invariant_of-point-clause-places c =
    let point = c.requires.point in
    let number = c.requires.number in
    (c.in_ok-spread.ensures point.0 number.number number.is point.1).is_over.counted ∙ point.2

pub returns : goal.returns
returns c = λ x z is over. c.in_ok-holds.ensures z x (c.in_ok-spread.ensures z x is over)
