use Rattle.any_length_laws.proofs.Refused.{refuses_long as long}
use Rattle.any_length_laws.proofs.refuses_long.Goals as goal

pub returns : goal.returns
returns c = long
