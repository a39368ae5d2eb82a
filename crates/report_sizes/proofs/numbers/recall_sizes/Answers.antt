use Rattle.std.proofs.Common.{rules, ◌-◌}
use Rattle.exact_values.specs.Rational.{zero_ℚ}
use Rattle.frac128.specs.Operations.{TermsFit}
use Rattle.report_sizes.proofs.Looked.{looked_all, zero_fits}
use Rattle.report_sizes.proofs.numbers.recall_sizes.Goals as goal

pub returns : goal.returns
returns c = λ k. looked_all TermsFit c.args.values.now zero_ℚ zero_fits c.loop-value.value-index (search rules) c.loop-value.invariant (k - 1)
