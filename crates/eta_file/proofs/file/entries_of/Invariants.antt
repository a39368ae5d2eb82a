use Rattle.std.proofs.Common.{◌≡◌, map, filter, take}
use Rattle.lp_definitions.specs.LinearProgram.{value_at}
use Rattle.eta_file.specs.Prefixes.{entry_of}
use Rattle.eta_file.proofs.RateEntries.{has_number}
use Rattle.eta_file.proofs.file.entries_of.Given as goal

-- the entries so far
abbrev pub invariant-loop-k : goal.invariant-loop-k
invariant-loop-k l = l.entries.items ≡ map (entry_of (value_at l.direction)) (filter (has_number (value_at l.direction)) (take l.k-index l.listed))
