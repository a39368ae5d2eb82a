use Rattle.walk_laws.proofs.Proved.{judged_is_true}
use Rattle.walk_laws.proofs.judged_laws.Goals as goal

pub returns : goal.returns
returns c = λ C. judged_is_true C c.between_laws.ensures c.past_laws.ensures
