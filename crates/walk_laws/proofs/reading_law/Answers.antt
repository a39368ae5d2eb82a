use Rattle.walk_laws.proofs.Runs.{reading_laws as laws}
use Rattle.walk_laws.proofs.reading_law.Goals as goal

pub returns : goal.returns
returns c = laws
