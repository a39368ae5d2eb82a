use Rattle.std.proofs.Common.{◌≡◌, ◌<◌, ℕ}
use Rattle.lp_definitions.specs.LinearProgram.{value_at}
use Rattle.lp_definitions.specs.Basis.{basics_of}
use Rattle.basis_values.specs.Points.{AreAdded}
use Rattle.basis_values.proofs.point.add_multiple.Given as goal

abbrev pub invariant-loop-k : goal.invariant-loop-k
invariant-loop-k l = record {
  added : AreAdded (basics_of l.basis) (value_at l.column) l.summand.value (value_at l.initial.point) l.k (value_at l.point);
  rest : (j : ℕ) → l.k < j → value_at l.point j ≡ value_at l.initial.point j;
}
