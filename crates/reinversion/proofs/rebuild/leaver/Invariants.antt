use Rattle.std.proofs.Common.{ℕ, ◌≤◌}
use Rattle.lp_definitions.specs.LinearProgram.{IsRow}
use Rattle.reinversion.specs.Rebuilt.{IsLeaver}
use Rattle.reinversion.proofs.rebuild.leaver.Given as goal

-- none of the rows so far may leave
abbrev pub invariant-loop-k : goal.invariant-loop-k
invariant-loop-k l = (p : ℕ) → p ≤ l.k → IsRow l.old.matrix p → IsLeaver l.old.matrix l.old.basics l.new.basics l.direction p → ⊥
