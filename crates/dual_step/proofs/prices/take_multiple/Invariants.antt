use Rattle.std.proofs.Common.{◌≡◌, ◌<◌, ℕ}
use Rattle.lp_definitions.specs.LinearProgram.{value_at}
use Rattle.dual_step.specs.Prices.{IsTaken}
use Rattle.dual_step.proofs.prices.take_multiple.Given as goal

abbrev pub invariant-loop-k : goal.invariant-loop-k
invariant-loop-k l = record {
  taken : IsTaken l.step (value_at l.row) (value_at l.initial.prices) l.k (value_at l.prices);
  rest : (j : ℕ) → l.k < j → value_at l.prices j ≡ value_at l.initial.prices j;
}
