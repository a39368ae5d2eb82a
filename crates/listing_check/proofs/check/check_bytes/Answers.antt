use Rattle.std.proofs.Common.{None, Some}
use Rattle.std.specs.Prelude.{codes}
use Rattle.walk_definitions.specs.Found.{answer_text}
use Rattle.listing_walk.specs.Ended.{found_view}
use Rattle.listing_check.specs.declared.status.CheckStatus.TheVariants.{Long}
use Rattle.listing_check.specs.Statuses.{status_of}
use Rattle.listing_check.specs.Reads.{found, says}
use Rattle.listing_check.proofs.Lengths.{long_answer, found_answer}
use Rattle.listing_check.proofs.check.check_bytes.Goals as goal

pub returns-then-listing-gt-MAX_LISTING : goal.returns-then-listing-gt-MAX_LISTING
returns-then-listing-gt-MAX_LISTING g c =
    says (codes "LONG LISTING\n") Long
    (found None (codes "LONG LISTING\n") tt tt tt tt
    (λ bytes lines is e. long_answer g.T.Checks.checker bytes c.args.listing.now lines e c.if-listing-gt-MAX_LISTING.true)) c.end_with.ensures

pub returns-in-Ok : goal.returns-in-Ok
returns-in-Ok g c =
    let viewed = found_view c.in-Ok.found in
    says (answer_text c.args.listing.now (Some viewed)) (status_of (Some viewed))
    (found (Some viewed) (answer_text c.args.listing.now (Some viewed)) tt tt tt tt
    (λ bytes lines is e. found_answer g.T.Checks.checker bytes c.args.listing.now lines viewed e c.if-listing-gt-MAX_LISTING.false
    (c.in-Ok.ensures bytes is))) c.end_found.ensures
