use Rattle.interval_laws.proofs.Families.{between_laws as laws}
use Rattle.interval_laws.proofs.between_laws.Goals as goal

pub returns : goal.returns
returns c = laws
