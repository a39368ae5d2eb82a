use Rattle.lp_setup.specs.Combined.{AreSumsMade}
use Rattle.lp_setup.proofs.Columns.{AreValues}
use Rattle.lp_setup.proofs.combined.column_values.Given as goal

-- the rows so far have their values, and the others still those of the column's entries
abbrev pub invariant-loop-place : goal.invariant-loop-place
invariant-loop-place l = AreValues l.rows l.entries l.place l.values.items × AreSumsMade l.rows l.entries l.place
