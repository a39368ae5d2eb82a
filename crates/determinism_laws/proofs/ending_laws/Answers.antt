use Rattle.answer_definitions.specs.Real.{linear_programming}
use Rattle.determinism_laws.proofs.OwnEnds.{own_end}
use Rattle.determinism_laws.proofs.ending_laws.Goals as goal

pub returns : goal.returns
returns c = own_end linear_programming
