use Rattle.exact_values.specs.Rational.{zero_ℚ}
use Rattle.frac128.specs.Operations.{TermsFit}
use Rattle.report_sizes.proofs.Looked.{LookedAt}
use Rattle.report_sizes.proofs.numbers.recall_sizes.Given as goal

abbrev pub invariant-loop-value : goal.invariant-loop-value
invariant-loop-value l = LookedAt TermsFit l.values zero_ℚ l.value-index
