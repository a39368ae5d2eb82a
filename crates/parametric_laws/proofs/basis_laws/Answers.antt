use Rattle.parametric_laws.proofs.Runs.{objective_runs, rhs_runs}
use Rattle.parametric_laws.proofs.basis_laws.Goals as goal

pub returns : goal.returns
returns c = record { objective = objective_runs; rhs = rhs_runs }
