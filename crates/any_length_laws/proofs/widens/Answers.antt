use Rattle.any_length_laws.proofs.Walked.{all_widens}
use Rattle.any_length_laws.proofs.widens.Goals as goal

pub returns : goal.returns
returns c = all_widens
