use Rattle.std.proofs.Common.{◌≡◌, ℕ, ◌≤◌, false}
use Rattle.lp_definitions.specs.LinearProgram.{value_at}
use Rattle.para_objective.specs.Breaks.{is_entering_variable}
use Rattle.para_objective.proofs.breaks.entering_variable_by.Given as goal

abbrev pub invariant-loop-k : goal.invariant-loop-k
invariant-loop-k l = (j : ℕ) → 1 ≤ j → j ≤ l.k → is_entering_variable l.lp l.basis l.fn.theta (value_at l.prices) (value_at l.change) j ≡ false
