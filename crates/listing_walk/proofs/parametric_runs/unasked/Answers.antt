use Rattle.listing_walk.proofs.parametric_runs.unasked.Goals as goal

pub returns-in-Fault-clause-unasked : goal.returns-in-Fault-clause-unasked
returns-in-Fault-clause-unasked c = λ last. rw c.in-Fault.is (c.fault.ensures.held last)
