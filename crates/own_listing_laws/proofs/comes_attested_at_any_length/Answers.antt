use Rattle.own_listing_laws.proofs.Attested.{comes_attested_at_any_length as law}
use Rattle.own_listing_laws.proofs.comes_attested_at_any_length.Goals as goal

pub returns : goal.returns
returns c = law
