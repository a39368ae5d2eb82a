use Rattle.std.proofs.Common.{◌≡◌, ◌≢◌, ℕ, ◌≤◌, length, take}
use Rattle.exact_values.specs.Rational.{one_ℚ, ◌*ℚ◌}
use Rattle.lp_definitions.specs.LinearProgram.{value_at}
use Rattle.eta_file.specs.Entries.{sum_rate}
use Rattle.eta_file.proofs.whole.place_entries.Given as goal

-- the entries so far are there
abbrev pub invariant-loop-entry : goal.invariant-loop-entry
invariant-loop-entry l = record {
  places : length l.out ≡ length l.fn.out;
  each : (k : ℕ) → 1 ≤ k → k ≤ length l.fn.out → k ≢ l.p → value_at l.out k ≡ one_ℚ *ℚ sum_rate (take l.entry-index l.entries) k;
}
