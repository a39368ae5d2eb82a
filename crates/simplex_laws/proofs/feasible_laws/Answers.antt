use Rattle.simplex_laws.proofs.Second.{feasible_step, feasible_path}
use Rattle.simplex_laws.proofs.feasible_laws.Goals as goal

pub returns : goal.returns
returns c = record { step = feasible_step; path = feasible_path }
