use Rattle.lp_laws.proofs.Duality.{best_by_prices, infeasible_by_proof, unbounded_by_direction}
use Rattle.lp_laws.proofs.certificate_laws.Goals as goal

pub returns : goal.returns
returns c = record { best = best_by_prices; infeasible = infeasible_by_proof; unbounded = unbounded_by_direction }
