-- What CONVERT finds.
use Rattle.run_machine.proofs.Filing.{finds_no_deck, finds_a_deck}
use Rattle.run_machine.proofs.machine.Machine.converted.Goals as goal

pub returns-in_default : goal.returns-in_default
returns-in_default g c =
    rw c.refused.ensures
    (finds_no_deck g.S.Kept.shows c.args.card c.args.cards.now c.args.self.now c.name-wanted.result c.name-wanted.ensures c.in_default.ensures.taken)

pub returns : goal.returns
returns g c =
    rw c.described_as.ensures
    (finds_a_deck g.S.Kept.shows c.args.card c.args.cards.now c.args.self.now c.name-wanted.result c.name-wanted.ensures c.convert-given.result _
    c.in-Some.deck.last c.next_card.result c.in-Some.ensures.taken
    (rw c.name-named.ensures at c.convert-given.ensures.problem)
    (rw c.name-named.ensures at c.convert-given.ensures.stop) c.in-Some.ensures.within.2 c.next_card.ensures)
