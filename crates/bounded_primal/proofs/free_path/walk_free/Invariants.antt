use Rattle.std.proofs.Common.{◌≡◌, ◌-◌, ◌<◌}
use Rattle.simplex_definitions.specs.Counts.{counted_steps}
use Rattle.simplex_definitions.specs.Path.{turn}
use Rattle.termination_laws.specs.Laws.{lists_of}
use Rattle.basis_values.specs.Calls.{HasRates}
use Rattle.basis_values.specs.Wants.{AreWants}
use Rattle.bounded_primal.specs.Standing.{StandsAt}
use Rattle.bounded_primal.proofs.PathWalk.{HasReached}
use Rattle.bounded_primal.proofs.free_path.walk_free.Given as goal

-- how many steps are left before a basis would have to come twice
abbrev pub decreases-loop-share : goal.decreases-loop-share
decreases-loop-share g l = lists_of l.lp - l.book.total

abbrev pub invariant-loop-share : goal.invariant-loop-share
invariant-loop-share g l = record {
  some : 0 < l.share.parts;
  counted : l.standing.steps ≡ counted_steps l.book.total;
  rates : HasRates (g.R.Rates.state l.rates).matrix (g.R.Rates.state l.rates).basics l.lp l.basis;
  wants : AreWants l.lp l.basis l.wanted;
  stands : StandsAt l.lp l.basis l.workspace l.standing;
  one_left : l.standing.left ≡ 1;
  reached : HasReached turn l.lp l.fn.basis (g.R.Rates.state l.fn.rates).waypoints l.basis (g.R.Rates.state l.rates).waypoints l.book.total;
}
