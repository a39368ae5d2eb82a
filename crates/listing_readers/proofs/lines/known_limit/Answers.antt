use Rattle.listing_readers.proofs.lines.known_limit.Goals as goal

pub returns-in-Some : goal.returns-in-Some
returns-in-Some c = rw c.in-Some.is c.known_number.ensures
