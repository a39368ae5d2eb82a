use Rattle.listing_check.proofs.Beginning.{by_walk, by_card, by_control}
use Rattle.listing_check.proofs.start.find.Goals as goal

pub returns-in-Program : goal.returns-in-Program
returns-in-Program g c = by_walk g.T.Checks.checker c.args.listing.now c.args.start.now c.in-Program.prepared c.in-Program.is c.walk.result c.walk.ensures

pub returns-in-Card : goal.returns-in-Card
returns-in-Card g c = by_card g.T.Checks.checker c.args.listing.now c.args.start.now c.in-Card.fault c.in-Card.is c.closes.result c.closes.ensures

pub returns-in-Control : goal.returns-in-Control
returns-in-Control g c =
    by_control g.T.Checks.checker c.args.listing.now c.args.start.now c.in-Control.fault c.in-Control.is c.closes-in-Control.result c.closes-in-Control.ensures
