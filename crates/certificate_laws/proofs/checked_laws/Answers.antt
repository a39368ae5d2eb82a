use Rattle.certificate_laws.proofs.Whole.{all_laws}
use Rattle.certificate_laws.proofs.checked_laws.Goals as goal

pub returns : goal.returns
returns c = all_laws
