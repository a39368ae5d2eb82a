use Rattle.std.proofs.Common.{◌≡◌, map, take}
use Rattle.eta_file.specs.Entries.{scaled}
use Rattle.eta_file.proofs.whole.scaled_entries.Given as goal

-- the entries so far
abbrev pub invariant-loop-entry : goal.invariant-loop-entry
invariant-loop-entry l = l.list.items ≡ map (scaled l.scale) (take l.entry-index l.entries)
