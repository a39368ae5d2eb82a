use Rattle.listing_walk.proofs.follow.refuse.Goals as goal

pub returns-in-Fault-clause-held : goal.returns-in-Fault-clause-held
returns-in-Fault-clause-held c = λ last. rw c.in-Fault.is (c.fault.ensures.held last)
