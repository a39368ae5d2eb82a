use Rattle.lp_laws.proofs.Duality.{for_min-along}
use Rattle.lp_laws.proofs.Optimal.{prices_prove_optimal, best_by_basis}
use Rattle.lp_laws.proofs.Rays.{ray_above, ray_below}
use Rattle.lp_laws.proofs.end_laws.Goals as goal

pub returns : goal.returns
returns c = record {
  certificate = prices_prove_optimal;
  best = best_by_basis;
  ray_above = ray_above;
  ray_below = ray_below;
  step = for_min-along;
}
