use Rattle.lp_definitions.specs.LinearProgram.{value_at}
use Rattle.ranging.specs.RowEnds.{AreRowEnds}
use Rattle.ranging.proofs.row_ends.row_ends.Given as goal

abbrev pub invariant-loop-k : goal.invariant-loop-k
invariant-loop-k l = AreRowEnds l.lp l.basis (value_at l.prices) (value_at l.row) l.k l.ends
