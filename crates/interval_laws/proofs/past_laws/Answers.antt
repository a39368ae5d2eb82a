use Rattle.interval_laws.proofs.Past.{past_laws as laws}
use Rattle.interval_laws.proofs.past_laws.Goals as goal

pub returns : goal.returns
returns c = laws
