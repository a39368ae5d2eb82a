use Rattle.std.proofs.Common.{◌≡◌, ◌≢◌, ℕ, ◌+◌, ◌*◌, ◌≤◌, length, take}
use Rattle.exact_values.specs.Rational.{◌-ℚ◌, ◌*ℚ◌}
use Rattle.lp_definitions.specs.LinearProgram.{value_at}
use Rattle.eta_file.specs.Entries.{sum_rate, others}
use Rattle.eta_file.proofs.carry.Transformation.subtract.Given as goal

-- the entries so far are taken
abbrev pub invariant-loop-entry : goal.invariant-loop-entry
invariant-loop-entry g l = record {
  each : (k : ℕ) → 1 ≤ k → k ≤ length l.fn.out → k ≢ l.self.p →
      value_at l.out k ≡ value_at l.fn.out k -ℚ l.quotient *ℚ sum_rate (take l.entry-index l.entries) k;
  cost : l.steps ≤ l.fn.steps + 2 * others l.self.p (take l.entry-index l.entries);
}
