use Rattle.lp_definitions.specs.Basis.{IsOptimalBasis}
use Rattle.basis_values.specs.Calls.{HasRates}
use Rattle.parametric_run.specs.Faces.{FacesReach, AnyRun}
use Rattle.parametric_run.specs.Standing.{IsWorkspaceOf}
use Rattle.parametric_run.proofs.faces.faces.Given as goal

abbrev pub decreases-turns : goal.decreases-turns
decreases-turns g l = l.left

abbrev pub invariant-turns : goal.invariant-turns
invariant-turns g l = record {
  rates : HasRates (g.R.Rates.state l.rates).matrix (g.R.Rates.state l.rates).basics (g.M.Parametric.problem l.method).program l.basis;
  workspace : IsWorkspaceOf (g.M.Parametric.problem l.method) l.basis l.workspace;
  optimal : IsOptimalBasis ((g.M.Parametric.problem l.method).family l.fn.theta) l.basis;
  reach : FacesReach (g.M.Parametric.problem l.method) l.fn.theta l.fn.basis l.basis l.fn.begun l.left;
  any : AnyRun (g.M.Parametric.problem l.method) l.fn.theta l.fn.basis l.basis (g.R.Rates.state l.fn.rates).waypoints
      (g.R.Rates.state l.rates).waypoints l.fn.begun l.left;
}
