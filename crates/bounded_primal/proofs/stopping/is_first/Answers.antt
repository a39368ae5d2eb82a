use Rattle.std.proofs.Common.{refl}
use Rattle.lp_definitions.specs.LinearProgram.{value_at}
use Rattle.simplex_definitions.specs.Moves.{step_length}
use Rattle.basis_values.specs.Motions.{motion}
use Rattle.basis_values.proofs.Places.{yields_more}
use Rattle.bounded_primal.proofs.stopping.is_first.Goals as goal

pub loop-k-preserved : goal.loop-k-preserved
loop-k-preserved c =
    yields_more (step_length c.args.lp.now (value_at c.args.point.now)
    (motion (value_at c.args.direction.now) c.args.up)) c.loop-k.k c.args.first.now c.loop-k.invariant (c.if-not-yields.ensures refl)
