use Rattle.listing_answers.proofs.openings.take_head.Goals as goal

pub returns : goal.returns
returns c = c.take_each.ensures
