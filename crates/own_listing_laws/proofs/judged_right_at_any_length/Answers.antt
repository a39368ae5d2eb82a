use Rattle.own_listing_laws.proofs.Rightly.{judged_right_at_any_length as law}
use Rattle.own_listing_laws.proofs.judged_right_at_any_length.Goals as goal

pub returns : goal.returns
returns c = law
