use Rattle.std.proofs.Common.{refl}
use Rattle.lp_definitions.specs.LinearProgram.{value_at}
use Rattle.bounded_primal.proofs.Agreement.{point_agrees}
use Rattle.parametric_run.proofs.workspace.step_along.Goals as goal

pub step_over-requires-clause-point : goal.step_over-requires-clause-point
step_over-requires-clause-point g c =
    point_agrees c.args.lp.now c.args.basis.now c.requires.rates.is_basis c.requires.rates.nonsingular (value_at c.args.point.now) c.requires.point

pub step_over-requires-clause-kept : goal.step_over-requires-clause-kept
step_over-requires-clause-kept g c all = c.requires.point

pub step_over-requires-clause-step : goal.step_over-requires-clause-step
step_over-requires-clause-step g c = record { point = value_at c.args.point.now; is_point = c.requires.point; is_step = c.requires.step }

pub returns-in-Ok-clause-point : goal.returns-in-Ok-clause-point
returns-in-Ok-clause-point g c = c.in-Ok.ensures.kept (c.in-Ok.ensures.needed refl)
