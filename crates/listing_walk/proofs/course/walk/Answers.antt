-- The walk goes on statement by statement, and ends.
use Rattle.std.proofs.Common.{arith}
use Rattle.listing_walk.specs.Standing.{holding}
use Rattle.listing_walk.proofs.Stepping.{underway_first, underway_more, underway_found, over_by, at_limit_by}
use Rattle.listing_walk.proofs.course.walk.Goals as goal

pub loop-position-init : goal.loop-position-init
loop-position-init g c =
    underway_first g.T.Checks.checker c.args.program.now c.args.cards.now c.args.listing.now c.new-machine.result c.new-place.result c.new-machine.ensures.sound
    (rw c.decks_from.ensures at c.new-machine.ensures.start)
    c.new-place.ensures.rest c.new-place.ensures.pending c.new-place.ensures.reports

pub returns-then-executed-ge-MAX_EXECUTED : goal.returns-then-executed-ge-MAX_EXECUTED
returns-then-executed-ge-MAX_EXECUTED g c =
    at_limit_by g.T.Checks.checker c.args.program.now c.args.cards.now c.args.listing.now c.loop-position.invariant _
    (omega (arith, c.count.ensures.count, c.loop-position-test.true)) (omega arith) c.close.ensures.closes

pub loop-position-preserved : goal.loop-position-preserved
loop-position-preserved g c =
    underway_more g.T.Checks.checker c.args.program.now c.args.cards.now c.args.listing.now c.loop-position.invariant c.step.new.last c.step.new.machine
    c.step.new.place c.in-Ok-Goes.to (omega arith) c.step.ensures.sound c.step.ensures.few
    (rw c.in-Ok-Goes.field-0-is at c.in-Ok-Goes.ensures.steps)

pub returns-in-Ok-Finds : goal.returns-in-Ok-Finds
returns-in-Ok-Finds g c =
    underway_found g.T.Checks.checker c.args.program.now c.args.cards.now c.args.listing.now c.loop-position.invariant
    (holding c.step.new.last c.step.new.machine) c.step.new.place c.in-Ok-Finds.found (omega arith)
    (rw c.in-Ok-Finds.field-0-is at c.in-Ok-Finds.ensures.steps)

pub returns : goal.returns
returns g c =
    over_by g.T.Checks.checker c.args.program.now c.args.cards.now c.args.listing.now c.loop-position.invariant _
    (omega (arith, c.count.ensures.count, c.loop-position-test.false)) c.close-2.ensures.closes
