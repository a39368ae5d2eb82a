use Rattle.std.proofs.Common.{ap}
use Rattle.lp_definitions.specs.LinearProgram.{value_at}
use Rattle.parametric_run.specs.declared.workspace.Workspace.{Workspace}
use Rattle.para_rhs.specs.Turns.{by_ratio}
use Rattle.para_rhs.proofs.turns.entering.Goals as goal

pub returns-in-Err-clause-overflow : goal.returns-in-Err-clause-overflow
returns-in-Err-clause-overflow g c =
    by_ratio (value_at c.read_row.new.self.row.items) c.in_ok-read_row.ensures.row
    (rw (
      c.deref.ensures.value,
      c.deref-2.ensures.value,
      c.is_lower-below.ensures,
      ap
          (λ (w : Workspace). w.prices.items) c.in_ok-read_row.ensures.others,
    ) at c.in-Err.ensures.refused)
