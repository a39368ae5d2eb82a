use Rattle.std.proofs.Common.{◌≡◌, length}
use Rattle.lp_definitions.specs.LinearProgram.{value_at}
use Rattle.basis_values.specs.Calls.{KeepsRates}
use Rattle.ranging.specs.Tables.{AllMet, AllFound}
use Rattle.ranging.proofs.pass.pass.Given as goal

abbrev pub invariant-loop-k : goal.invariant-loop-k
invariant-loop-k g l = record {
  rates : KeepsRates (g.R.Rates.state l.rates).matrix (g.R.Rates.state l.rates).basics l.at.lp.now l.at.basis.now (g.R.Rates.state l.initial.rates).waypoints
      (g.R.Rates.state l.rates).waypoints;
  row_places : length l.row ≡ length l.initial.row;
  found_places : length l.found ≡ length l.initial.found;
  end_places : length l.ends ≡ length l.initial.ends;
  met : AllMet l.at.lp.now l.at.basis.now (value_at l.at.point.now) l.k l.ends;
  found : AllFound l.at.lp.now l.at.basis.now l.k l.found;
}
