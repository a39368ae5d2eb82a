use Rattle.std.proofs.Common.{◌-◌, length, drop}
use Rattle.rates_dense.specs.Opening.{AreWritten}
use Rattle.rates_dense.proofs.opening.write_column.Given as goal

-- the last numbers are written
abbrev pub invariant-loop-back : goal.invariant-loop-back
invariant-loop-back l = AreWritten l.j (drop (length l.column - l.back) l.column) l.fn.lines l.lines
