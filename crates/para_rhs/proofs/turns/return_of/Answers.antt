use Rattle.std.proofs.Common.{ap}
use Rattle.lp_definitions.specs.LinearProgram.{value_at}
use Rattle.bounded_primal.specs.Turns.{by_return}
use Rattle.parametric_run.specs.declared.workspace.Workspace.{Workspace}
use Rattle.para_rhs.proofs.turns.return_of.Goals as goal

pub returning-requires-clause-moves : goal.returning-requires-clause-moves
returning-requires-clause-moves g c =
    rw c.values-direction.ensures (c.requires.pivot (value_at c.read_direction.new.self.direction) c.in_ok-read_direction.ensures.direction)

pub returns-in-Err-clause-overflow : goal.returns-in-Err-clause-overflow
returns-in-Err-clause-overflow g c =
    by_return (value_at c.read_direction.new.self.direction) c.in_ok-read_direction.ensures.direction
    (rw (
      c.deref.ensures.value,
      c.values-direction.ensures,
      c.limit_broken-to.ensures,
      c.is_lower.ensures,
      ap
          (λ (w : Workspace). w.point.items) c.in_ok-read_direction.ensures.others,
    ) at c.in-Err.ensures.refused)

pub returns-in-Ok-clause-blocking_variable : goal.returns-in-Ok-clause-blocking_variable
returns-in-Ok-clause-blocking_variable g c =
    rw (c.deref.ensures.value, c.values-direction.ensures, c.limit_broken-to.ensures, c.is_lower.ensures) at c.in-Ok.ensures.blocking_variable
