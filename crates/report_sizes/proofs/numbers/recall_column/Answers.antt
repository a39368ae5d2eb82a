use Rattle.std.proofs.Common.{rules}
use Rattle.report_sizes.proofs.Looked.{EntryFits, no_entry, looked_all, zero_fits, column_fits}
use Rattle.report_sizes.proofs.numbers.recall_column.Goals as goal

pub returns : goal.returns
returns c =
    column_fits c.args.entries.now (looked_all EntryFits c.args.entries.now no_entry zero_fits c.loop-entry.entry-index (search rules) c.loop-entry.invariant)
