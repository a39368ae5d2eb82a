use Rattle.own_listing_laws.proofs.Onward.{walks_on as law}
use Rattle.own_listing_laws.proofs.walks_on.Goals as goal

pub returns : goal.returns
returns c = law
