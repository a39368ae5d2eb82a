use Rattle.std.proofs.Common.{[]}
use Rattle.report_sizes.proofs.Looked.{LookedAt, ColumnFits}
use Rattle.report_sizes.proofs.numbers.recall_costs.Given as goal

abbrev pub invariant-loop-j : goal.invariant-loop-j
invariant-loop-j l = LookedAt ColumnFits l.lp.matrix.columns [] l.j
