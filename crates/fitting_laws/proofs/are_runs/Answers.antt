use Rattle.fitting_laws.proofs.Runs.{are_runs as law}
use Rattle.fitting_laws.proofs.are_runs.Goals as goal

pub returns : goal.returns
returns c = law
