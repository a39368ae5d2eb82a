use Rattle.parametric_existence_laws.proofs.ObjectiveParts.{objective_reports}
use Rattle.parametric_existence_laws.proofs.RhsParts.{rhs_reports}
use Rattle.parametric_existence_laws.proofs.parametric_runs_exist.Goals as goal

pub returns : goal.returns
returns c = record { objective = objective_reports; rhs = rhs_reports }
