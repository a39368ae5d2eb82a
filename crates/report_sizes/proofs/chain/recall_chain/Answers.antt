use Rattle.std.proofs.Common.{All, subst}
use Rattle.report_sizes.specs.Sizes.{PartFits}
use Rattle.report_sizes.proofs.Tables.{intervals_fit}
use Rattle.report_sizes.proofs.chain.recall_chain.Goals as goal

pub returns-clause-intervals : goal.returns-clause-intervals
returns-clause-intervals c = intervals_fit c.args.sheet c.args.run.now.parts (subst (All PartFits) c.items.ensures c.recall_parts.ensures)
