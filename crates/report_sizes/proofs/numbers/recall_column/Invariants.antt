use Rattle.report_sizes.proofs.Looked.{LookedAt, EntryFits, no_entry}
use Rattle.report_sizes.proofs.numbers.recall_column.Given as goal

abbrev pub invariant-loop-entry : goal.invariant-loop-entry
invariant-loop-entry l = LookedAt EntryFits l.entries no_entry l.entry-index
