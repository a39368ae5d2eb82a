use Rattle.std.proofs.Common.{◌≡◌, ◌≤◌, ℕ}
use Rattle.lp_definitions.specs.LinearProgram.{value_at}
use Rattle.eta_file.proofs.guess.have_rows.Given as goal

-- the rows so far have their sums
abbrev pub invariant-loop-r : goal.invariant-loop-r
invariant-loop-r l = (i : ℕ) → 1 ≤ i → i ≤ l.r → value_at l.numbers i ≡ value_at l.sums i
