use Rattle.std.proofs.Common.{◌≡◌, ◌<◌, ℕ}
use Rattle.lp_definitions.specs.LinearProgram.{value_at}
use Rattle.basis_values.specs.Prices.{AreChanged}
use Rattle.basis_values.proofs.prices.add_changes.Given as goal

abbrev pub invariant-loop-k : goal.invariant-loop-k
invariant-loop-k l = record {
  changed : AreChanged l.theta (value_at l.change) (value_at l.initial.prices) l.k (value_at l.prices);
  rest : (j : ℕ) → l.k < j → value_at l.prices j ≡ value_at l.initial.prices j;
}
