use Rattle.std.proofs.Common.{None}
use Rattle.report_sizes.specs.Sizes.{LimitFits}
use Rattle.report_sizes.proofs.Looked.{LookedAt}
use Rattle.report_sizes.proofs.numbers.recall_limits.Given as goal

abbrev pub invariant-loop-limit : goal.invariant-loop-limit
invariant-loop-limit l = LookedAt LimitFits l.limits None l.limit-index
