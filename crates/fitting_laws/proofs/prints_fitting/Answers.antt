use Rattle.fitting_laws.proofs.Runs.{prints_fitting as law}
use Rattle.fitting_laws.proofs.prints_fitting.Goals as goal

pub returns : goal.returns
returns c = law
