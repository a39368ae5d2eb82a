use Rattle.own_listing_laws.proofs.Own.{never_wrong as law}
use Rattle.own_listing_laws.proofs.never_wrong.Goals as goal

pub returns : goal.returns
returns c = law
