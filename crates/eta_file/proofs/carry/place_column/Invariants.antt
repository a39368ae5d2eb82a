use Rattle.std.proofs.Common.{◌≡◌, ℕ, ◌≤◌, take}
use Rattle.lp_definitions.specs.LinearProgram.{value_at, on_row}
use Rattle.eta_file.proofs.carry.place_column.Given as goal

-- the numbers so far are there
abbrev pub invariant-loop-entry : goal.invariant-loop-entry
invariant-loop-entry l = (k : ℕ) → 1 ≤ k → value_at l.out k ≡ on_row (take l.entry-index l.column) k
