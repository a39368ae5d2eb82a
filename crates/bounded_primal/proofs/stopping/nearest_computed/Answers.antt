use Rattle.std.proofs.Common.{◌+◌, sym, subst, arith}
use Rattle.std.specs.Prelude.{Option, IfSome}
use Rattle.lp_definitions.specs.LinearProgram.{value_at, size}
use Rattle.simplex_definitions.specs.Moves.{step_length}
use Rattle.basis_values.specs.Motions.{motion}
use Rattle.basis_values.specs.Reach.{Reaches}
use Rattle.basis_values.specs.declared.reach.Reach.{Reach}
use Rattle.basis_values.proofs.Places.{sooner_reaches}
use Rattle.bounded_primal.proofs.stopping.nearest_computed.Goals as goal

pub loop-k-preserved : goal.loop-k-preserved
loop-k-preserved c =
    subst (λ (o : Option Reach). IfSome o
    (Reaches (step_length c.args.lp.now (value_at c.args.point.now) (motion (value_at c.args.direction.now) c.args.up)) (size c.args.lp.now.matrix)))
    (sym c.nearer-nearest.ensures)
    (sooner_reaches (step_length c.args.lp.now (value_at c.args.point.now) (motion (value_at c.args.direction.now) c.args.up)) (size c.args.lp.now.matrix)
    (c.loop-k.k + 1) c.loop-k.nearest c.in-Ok.length (omega arith) (omega arith)
    c.in-Ok.ensures.length c.loop-k.invariant)
