use Rattle.std.proofs.Common.{take, None}
use Rattle.selection_definitions.specs.Limits.{value_on}
use Rattle.lp_setup.proofs.Lists.{Holds}
use Rattle.lp_setup.proofs.parts.values_by_row.Given as goal

-- each row has the value that the items so far have on it
abbrev pub invariant-loop-item : goal.invariant-loop-item
invariant-loop-item l = Holds (value_on (take l.item-index l.items)) l.rows None l.values.items
