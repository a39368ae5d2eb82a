use Rattle.run_machine.specs.Describing.{verb_of}
use Rattle.listing_walk.proofs.Stating.{plain_deck_verb, walks_loudly}
use Rattle.listing_walk.proofs.statements.make_problem.Goals as goal

pub returns-clause-walks : goal.returns-clause-walks
returns-clause-walks c = λ C.
    walks_loudly C (verb_of c.args.verb) c.args.card c.args.cards.now c.args.machine.now c.make_problem.new.self c.args.place.now c.follow.new.place
    c.in-Ok.act c.bytes.result.now (plain_deck_verb c.args.verb c.args.card) c.in_ok-printed.printed c.make_problem.new.print
    c.in_ok-printed.ensures.bytes c.bytes.ensures c.follow.result c.follow.ensures.passes c.in-Ok.ensures.acts
