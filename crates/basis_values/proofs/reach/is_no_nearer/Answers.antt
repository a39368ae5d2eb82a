use Rattle.std.proofs.Common.{◌≡◌, arith, sym, subst}
use Rattle.std.specs.Prelude.{Option, Some}
use Rattle.exact_values.specs.Rational.{ℚ, ◌≤ℚ◌, ◌/ℚ◌}
use Rattle.lp_definitions.specs.LinearProgram.{value_at}
use Rattle.simplex_definitions.specs.Moves.{step_length}
use Rattle.basis_values.specs.Motions.{motion}
use Rattle.basis_values.specs.Reach.{sooner}
use Rattle.basis_values.specs.declared.reach.Reach.{Reach}
use Rattle.basis_values.proofs.Lasting.{no_nearer, when_passed}
use Rattle.basis_values.proofs.reach.is_no_nearer.Goals as goal
use Rattle.lp_laws.proofs.Places.{value_read}

pub returns : goal.returns
returns c passed =
    let z = value_at c.args.point.now in
    let d = value_at c.args.direction.now in
    let nearest : c.args.nearest.now ≡ Some c.in-Some-nearest.nearest = c.in-Some-nearest.is in
    let most : c.in-Some-nearest.nearest.length ≤ℚ c.counted_ratio-distance.result /ℚ c.counted_twice-speed.result =
    when_passed c.lasts.result c.unwrap_or.result _ c.unwrap_or.ensures c.lasts.ensures passed in
    subst (λ (o : Option Reach). sooner o (step_length c.args.lp.now z (motion d c.args.up) c.args.k) c.args.k ≡ o) (sym nearest)
    (no_nearer c.args.lp.now z d c.args.up c.args.k c.in-Some.ahead c.index-direction-k.result c.index-point-k.result c.in-Some-distance_to.distance
    c.counted_ratio-distance.result c.counted_twice-speed.result _ c.in-Some-nearest.nearest c.in-Some.ensures
    (value_read c.args.direction.now c.args.k c.index-direction-k.result (omega arith) c.index-direction-k.is)
    (value_read c.args.point.now c.args.k c.index-point-k.result (omega arith) c.index-point-k.is) c.in-Some-distance_to.ensures
    c.counted_ratio-distance.ensures c.counted_twice-speed.ensures most)
