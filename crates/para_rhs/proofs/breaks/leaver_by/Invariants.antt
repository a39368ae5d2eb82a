use Rattle.std.proofs.Common.{◌≡◌, ℕ, ◌≤◌, false}
use Rattle.lp_definitions.specs.LinearProgram.{value_at}
use Rattle.para_rhs.specs.Breaks.{leaves}
use Rattle.para_rhs.proofs.breaks.leaver_by.Given as goal

abbrev pub invariant-loop-k : goal.invariant-loop-k
invariant-loop-k l = (j : ℕ) → 1 ≤ j → j ≤ l.k → leaves l.lp l.shift l.fn.theta (value_at l.value) (value_at l.slope) j ≡ false
