use Rattle.parametric_laws.proofs.TrueRuns.{objective_runs, rhs_runs}
use Rattle.parametric_laws.proofs.truth_laws.Goals as goal

pub returns : goal.returns
returns c = record { objective = objective_runs; rhs = rhs_runs }
