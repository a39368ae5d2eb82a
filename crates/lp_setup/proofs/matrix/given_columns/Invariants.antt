use Rattle.std.proofs.Common.{◌≡◌, take, map}
use Rattle.lp_model.specs.Columns.{entries_of}
use Rattle.selection_definitions.specs.Selection.{entered}
use Rattle.lp_setup.proofs.matrix.given_columns.Given as goal

-- the columns so far are there
abbrev pub invariant-loop-column : goal.invariant-loop-column
invariant-loop-column l = entries_of l.matrix.items ≡ take l.column-index (map (λ column. entered column.items) l.columns)
