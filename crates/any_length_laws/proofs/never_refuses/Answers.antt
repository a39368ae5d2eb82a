use Rattle.any_length_laws.proofs.Never.{never_refuses as never}
use Rattle.any_length_laws.proofs.never_refuses.Goals as goal

pub returns : goal.returns
returns c = never
