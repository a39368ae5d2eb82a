use Rattle.std.proofs.Common.{◌≡◌, map, filter, take, not}
use Rattle.std.specs.Prelude.{nat_eq}
use Rattle.lp_definitions.specs.LinearProgram.{value_at}
use Rattle.eta_file.specs.Prefixes.{entry_of}
use Rattle.eta_file.proofs.file.entries_but.Given as goal

-- the entries so far
abbrev pub invariant-loop-k : goal.invariant-loop-k
invariant-loop-k l = l.entries.items ≡ map (entry_of (value_at l.direction)) (filter (λ k. not (nat_eq k l.q)) (take l.k-index l.listed))
