use Rattle.std.proofs.Common.{◌≡◌, ℕ, ◌≤◌, length, take}
use Rattle.exact_values.specs.Rational.{◌*ℚ◌}
use Rattle.lp_definitions.specs.LinearProgram.{value_at, on_row}
use Rattle.eta_file.proofs.whole.place_rows.Given as goal

-- the numbers so far are there
abbrev pub invariant-loop-entry : goal.invariant-loop-entry
invariant-loop-entry l = record {
  places : length l.out ≡ length l.fn.out;
  rows : (k : ℕ) → 1 ≤ k → value_at l.out k ≡ on_row (take l.entry-index l.column) k *ℚ l.scale;
}
