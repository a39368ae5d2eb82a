use Rattle.std.proofs.Common.{◌≡◌, take, map}
use Rattle.lp_model.specs.Columns.{entries_of}
use Rattle.selection_definitions.specs.Selection.{coefficients}
use Rattle.lp_setup.specs.Combined.{AreColumnsMade}
use Rattle.lp_setup.proofs.matrix.matrix_columns.Given as goal

-- the columns so far are there, and what they make on combinations is made
abbrev pub invariant-loop-place : goal.invariant-loop-place
invariant-loop-place l = (entries_of l.matrix.items ≡ take l.place (map (coefficients l.rows) l.columns)) × AreColumnsMade l.rows l.columns l.place
