use Rattle.one_story_laws.proofs.Stories.{stories}
use Rattle.one_story_laws.proofs.one_story_laws.Goals as goal

pub returns : goal.returns
returns c = stories c.attested_law.ensures c.soundness_laws.ensures
