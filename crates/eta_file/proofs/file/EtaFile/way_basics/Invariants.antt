use Rattle.std.proofs.Common.{◌≡◌, take}
use Rattle.lp_definitions.specs.Basis.{row_basics}
use Rattle.eta_file.specs.Prefixes.{after}
use Rattle.eta_file.proofs.file.EtaFile.way_basics.Given as goal

-- the set after the etas so far
abbrev pub invariant-loop-place : goal.invariant-loop-place
invariant-loop-place l = l.out ≡ after (row_basics l.self.matrix) (take l.place l.self.etas)
