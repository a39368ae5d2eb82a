use Rattle.control_definitions.specs.Program as program
use Rattle.listing_walk.proofs.Stating.{plain_title, walks_loudly}
use Rattle.listing_walk.proofs.statements.title.Goals as goal

pub returns-clause-walks : goal.returns-clause-walks
returns-clause-walks c = λ C card cards.
    walks_loudly C
    (program.Title c.args.text.now) card cards c.args.machine.now c.args.machine.now c.args.place.now c.follow.new.place c.in-Ok.act c.bytes.result.now
    (plain_title c.args.text.now card) c.in_ok-printed.printed c.print_title.new.print
    c.in_ok-printed.ensures.bytes c.bytes.ensures c.follow.result c.follow.ensures.passes (c.in-Ok.ensures card cards)
