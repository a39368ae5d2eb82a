use Rattle.std.proofs.Common.{ap}
use Rattle.lp_definitions.specs.LinearProgram.{value_at}
use Rattle.bounded_primal.specs.Turns.{by_blocking_variable}
use Rattle.parametric_run.specs.declared.workspace.Workspace.{Workspace}
use Rattle.para_objective.proofs.turns.blocking_variable_of.Goals as goal

pub returns-in-Err-clause-overflow : goal.returns-in-Err-clause-overflow
returns-in-Err-clause-overflow g c =
    by_blocking_variable (value_at c.read_direction.new.self.direction) c.in_ok-read_direction.ensures.direction
    (rw (c.deref.ensures.value, ap (λ (w : Workspace). w.point.items) c.in_ok-read_direction.ensures.others) at c.in-Err.ensures.refused)

pub returns-in-Ok-clause-blocking_variable : goal.returns-in-Ok-clause-blocking_variable
returns-in-Ok-clause-blocking_variable g c = rw c.deref.ensures.value at c.in-Ok.ensures.blocking_variable
