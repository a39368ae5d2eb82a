use Rattle.std.proofs.Common.{◌≡◌, ◌≢◌, ℕ, ◌≤◌, length, take}
use Rattle.exact_values.specs.Rational.{◌-ℚ◌, ◌*ℚ◌}
use Rattle.lp_definitions.specs.LinearProgram.{value_at}
use Rattle.eta_file.specs.Entries.{sum_rate}
use Rattle.eta_file.proofs.whole.subtract_whole.Given as goal

-- the entries so far are taken
abbrev pub invariant-loop-entry : goal.invariant-loop-entry
invariant-loop-entry l = record {
  places : length l.out ≡ length l.fn.out;
  each : (k : ℕ) → 1 ≤ k → k ≤ length l.fn.out → k ≢ l.p → value_at l.out k ≡ value_at l.fn.out k -ℚ l.fn.multiple *ℚ sum_rate (take l.entry-index l.entries) k;
}
