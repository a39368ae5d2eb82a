use Rattle.std.proofs.Common.{◌≤◌, map}
use Rattle.exact_values.specs.Rational.{◌≤ℚ◌}
use Rattle.lp_definitions.specs.Basis.{IsOptimalBasis}
use Rattle.basis_values.specs.Calls.{HasRates}
use Rattle.parametric_run.specs.Calls.{part_of}
use Rattle.parametric_run.specs.Standing.{IsWorkspaceOf}
use Rattle.parametric_run.proofs.ChainWalk.{Begins, OpensAny}
use Rattle.parametric_run.proofs.chain.chain.Given as goal

abbrev pub decreases-parts : goal.decreases-parts
decreases-parts g l = l.left

abbrev pub invariant-parts : goal.invariant-parts
invariant-parts g l = record {
  rates : HasRates (g.R.Rates.state l.rates).matrix (g.R.Rates.state l.rates).basics (g.M.Parametric.problem l.method).program l.basis;
  workspace : IsWorkspaceOf (g.M.Parametric.problem l.method) l.basis l.workspace;
  optimal : IsOptimalBasis ((g.M.Parametric.problem l.method).family l.theta) l.basis;
  forward : l.theta ≤ℚ l.span.to;
  within : l.left ≤ l.fn.opened.left;
  begins : Begins (g.M.Parametric.problem l.method) l.span l.fn.basis l.fn.opened.left (map part_of l.parts.items) l.theta l.basis l.left;
  any : OpensAny (g.M.Parametric.problem l.method) l.span l.fn.basis l.fn.opened.left (g.R.Rates.state l.fn.rates).waypoints l.theta l.basis
      (g.R.Rates.state l.rates).waypoints l.left;
}
