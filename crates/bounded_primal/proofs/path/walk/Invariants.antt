use Rattle.std.proofs.Common.{◌≡◌, ◌+◌}
use Rattle.simplex_definitions.specs.Path.{turn}
use Rattle.basis_values.specs.Calls.{HasRates}
use Rattle.basis_values.specs.Wants.{AreWants}
use Rattle.bounded_primal.specs.Standing.{StandsAt}
use Rattle.bounded_primal.proofs.PathWalk.{HasReached}
use Rattle.bounded_primal.proofs.path.walk.Given as goal

abbrev pub decreases-loop-outcome : goal.decreases-loop-outcome
decreases-loop-outcome g l = l.standing.left

abbrev pub invariant-loop-outcome : goal.invariant-loop-outcome
invariant-loop-outcome g l = record {
  rates : HasRates (g.R.Rates.state l.rates).matrix (g.R.Rates.state l.rates).basics l.lp l.basis;
  wants : AreWants l.lp l.basis l.wanted;
  stands : StandsAt l.lp l.basis l.workspace l.standing;
  counted : l.standing.steps + l.standing.left ≡ l.limit;
  reached : HasReached turn l.lp l.fn.basis (g.R.Rates.state l.fn.rates).waypoints l.basis (g.R.Rates.state l.rates).waypoints l.standing.steps;
}
