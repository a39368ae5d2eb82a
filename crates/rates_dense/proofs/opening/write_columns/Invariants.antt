use Rattle.std.proofs.Common.{◌+◌}
use Rattle.rates_dense.proofs.OpeningLines.{AreLinesTo}
use Rattle.rates_dense.proofs.opening.write_columns.Given as goal

-- the columns so far are written
abbrev pub invariant-loop-k : goal.invariant-loop-k
invariant-loop-k l = AreLinesTo l.lp.matrix (l.lp.matrix.rows + l.k) l.lines
