use Rattle.std.proofs.Common.{◌≡◌, ℕ, ◌<◌, ltb, get_or, false}
use Rattle.eta_file.proofs.file.EtaFile.mark_rows.Given as goal

-- the marks so far
abbrev pub invariant-loop-k : goal.invariant-loop-k
invariant-loop-k l = (i : ℕ) → i < l.k → get_or l.out i false ≡ ltb i l.self.matrix.rows
