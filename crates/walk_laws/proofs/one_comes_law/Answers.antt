use Rattle.walk_laws.proofs.OneComes.{one_comes_laws as laws}
use Rattle.walk_laws.proofs.one_comes_law.Goals as goal

pub returns : goal.returns
returns c = laws
