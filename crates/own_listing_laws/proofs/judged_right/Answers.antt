use Rattle.own_listing_laws.proofs.Rightly.{judged_right as law}
use Rattle.own_listing_laws.proofs.judged_right.Goals as goal

pub returns : goal.returns
returns c = law
