use Rattle.std.proofs.Common.{take}
use Rattle.selection_definitions.specs.Limits.{unbounded, column_limits}
use Rattle.lp_setup.proofs.Lists.{Holds}
use Rattle.lp_setup.proofs.parts.limits_by_column.Given as goal

-- each column has the limits that the bounds so far give it
abbrev pub invariant-loop-bound : goal.invariant-loop-bound
invariant-loop-bound l = Holds (column_limits (take l.bound-index l.bounds)) l.columns unbounded l.limits.items
