use Rattle.std.proofs.Common.{◌≡◌, take}
use Rattle.eta_file.specs.Prefixes.{entry_count}
use Rattle.eta_file.proofs.file.EtaFile.entries.Given as goal

-- the entries of the etas so far
abbrev pub invariant-loop-place : goal.invariant-loop-place
invariant-loop-place l = l.total ≡ entry_count (take l.place l.self.etas)
