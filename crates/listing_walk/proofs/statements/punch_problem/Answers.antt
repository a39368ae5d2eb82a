use Rattle.control_definitions.specs.Program as program
use Rattle.listing_walk.proofs.Stating.{plain_bcdout, walks_punching}
use Rattle.listing_walk.proofs.statements.punch_problem.Goals as goal

pub returns-clause-walks : goal.returns-clause-walks
returns-clause-walks c = λ C cards.
    walks_punching C program.Bcdout c.args.card cards c.args.machine.now c.args.machine.now c.args.place.now c.follow.new.place c.in-Ok.act c.bytes.result.now
    (plain_bcdout c.args.card) c.in_ok-printed.printed c.punch_problem.new.print
    c.in_ok-printed.ensures.bytes c.bytes.ensures c.follow.result c.follow.ensures.passes _ _ (c.in-Ok.ensures cards)
