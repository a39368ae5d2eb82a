use Rattle.std.proofs.Common.{◌≡◌, map, take}
use Rattle.eta_file.specs.WordColumns.{fraction_entry}
use Rattle.eta_file.proofs.words.column_words.Given as goal

-- the numbers so far
abbrev pub invariant-loop-entry : goal.invariant-loop-entry
invariant-loop-entry l = map fraction_entry l.words.items ≡ take l.entry-index l.column
