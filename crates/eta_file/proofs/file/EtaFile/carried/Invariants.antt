use Rattle.std.proofs.Common.{◌+◌, ◌*◌, ◌≤◌, take}
use Rattle.lp_definitions.specs.LinearProgram.{value_at}
use Rattle.lp_definitions.specs.Basis.{IsDirectionOf, row_basics}
use Rattle.eta_file.specs.Prefixes.{after, entry_count}
use Rattle.eta_file.proofs.file.EtaFile.carried.Given as goal

-- carried over the etas so far
abbrev pub invariant-loop-place : goal.invariant-loop-place
invariant-loop-place g l = record {
  direction : IsDirectionOf l.self.matrix (after (row_basics l.self.matrix) (take l.place l.self.etas)) l.j (value_at l.out);
  cost : l.steps ≤ l.fn.steps + 2 * entry_count (take l.place l.self.etas);
}
