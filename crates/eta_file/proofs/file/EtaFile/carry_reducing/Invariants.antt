use Rattle.std.proofs.Common.{◌≡◌, length}
use Rattle.whole_vectors.specs.Quotients.{Represent}
use Rattle.eta_file.specs.Inverse.{IsDirectionAfter}
use Rattle.eta_file.proofs.file.EtaFile.carry_reducing.Given as goal

-- carried over the etas so far
abbrev pub invariant-loop-place : goal.invariant-loop-place
invariant-loop-place l = record {
  places : length l.wholes ≡ length l.fn.wholes;
  direction : Represent (IsDirectionAfter l.self l.place l.j) l.denominator l.wholes;
}
