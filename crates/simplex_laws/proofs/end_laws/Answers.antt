use Rattle.simplex_laws.proofs.Ends.{optimal_end}
use Rattle.simplex_laws.proofs.UnboundedEnds.{crossed_end, unbounded_end}
use Rattle.simplex_laws.proofs.Rays.{infeasible_end}
use Rattle.simplex_laws.proofs.end_laws.Goals as goal

pub returns : goal.returns
returns c = record {
  optimal = optimal_end;
  crossed = crossed_end;
  infeasible = λ p s w at ends. infeasible_end p s w at.is_basis at.nonsingular ends;
  unbounded = unbounded_end;
}
