use Rattle.listing_walk.proofs.Stepping.{closes_first}
use Rattle.listing_walk.proofs.course.closes.Goals as goal

pub returns : goal.returns
returns c =
    closes_first c.args.listing.now c.new-place.result c.new-place.ensures.rest c.new-place.ensures.pending c.new-place.ensures.reports _ c.close.result
    c.close.ensures.closes
