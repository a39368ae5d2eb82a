use Rattle.walk_laws.proofs.Attested.{attested}
use Rattle.walk_laws.proofs.attested_law.Goals as goal

pub returns : goal.returns
returns c = λ C. attested C (c.reading_law.ensures C) (c.judged_laws.ensures C)
