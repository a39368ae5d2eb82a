use Rattle.std.proofs.Common.{ℕ, ◌<◌, get_or}
use Rattle.lp_model.specs.declared.reports.ParaPart.{ParaPart}
use Rattle.report_sizes.specs.Sizes.{PartFits}
use Rattle.report_sizes.proofs.chain.recall_parts.Given as goal

abbrev pub invariant-loop-part : goal.invariant-loop-part
invariant-loop-part l = (k : ℕ) (d : ParaPart) → k < l.part-index → PartFits (get_or l.parts k d)
