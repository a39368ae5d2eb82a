use Rattle.listing_walk.proofs.FollowOn.{finished_next, finished_jump}
use Rattle.listing_walk.proofs.follow.finish.Goals as goal

pub returns-in-Next-clause-finishes : goal.returns-in-Next-clause-finishes
returns-in-Next-clause-finishes c = rw c.in-Next.is (finished_next c.args.place.now)

pub returns-in-Jump-clause-finishes : goal.returns-in-Jump-clause-finishes
returns-in-Jump-clause-finishes c = rw c.in-Jump.is (finished_jump c.args.place.now c.in-Jump.to)
