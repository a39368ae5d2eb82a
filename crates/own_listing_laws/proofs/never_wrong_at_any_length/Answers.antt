use Rattle.own_listing_laws.proofs.Own.{never_wrong_at_any_length as law}
use Rattle.own_listing_laws.proofs.never_wrong_at_any_length.Goals as goal

pub returns : goal.returns
returns c = law
