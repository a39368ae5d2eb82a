-- A revision of a lawful problem is lawful.
use Rattle.revise_laws.proofs.Revisions.{revision-problem}
use Rattle.revise_laws.proofs.revision_laws.Goals as goal

pub returns : goal.returns
returns c = revision-problem
