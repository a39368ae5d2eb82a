use Rattle.std.proofs.Common.{◌≡◌, ◌≤◌, length}
use Rattle.lp_definitions.specs.LinearProgram.{value_at}
use Rattle.lp_definitions.specs.Basis.{basics_of}
use Rattle.basis_values.specs.Calls.{KeepsRates}
use Rattle.lp_laws.specs.Points.{standing}
use Rattle.basis_values.specs.Points.{IsSoFar, nonbasics_to}
use Rattle.basis_values.proofs.point.add_directions.Given as goal

abbrev pub invariant-loop-k : goal.invariant-loop-k
invariant-loop-k g l = record {
  rates : KeepsRates (g.R.Rates.state l.rates).matrix (g.R.Rates.state l.rates).basics l.lp l.basis (g.R.Rates.state l.initial.rates).waypoints
      (g.R.Rates.state l.rates).waypoints;
  counted : l.nonbasics ≡ length (nonbasics_to (basics_of l.basis) l.k);
  few : l.nonbasics ≤ l.k;
  so_far : IsSoFar l.lp.matrix (basics_of l.basis) (standing l.lp l.basis) l.k (value_at l.point);
}
