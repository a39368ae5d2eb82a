use Rattle.own_listing_laws.proofs.Whole.{comes_attested as law}
use Rattle.own_listing_laws.proofs.comes_attested.Goals as goal

pub returns : goal.returns
returns c = law
