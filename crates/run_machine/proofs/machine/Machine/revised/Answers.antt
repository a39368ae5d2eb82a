-- What REVISE finds.
use Rattle.std.proofs.Common.{sym}
use Rattle.run_machine.proofs.Revising.{finds_no_problem, finds_no_revision, finds_a_revision}
use Rattle.run_machine.proofs.machine.Machine.revised.Goals as goal

pub returns-in_default : goal.returns-in_default
returns-in_default g c =
    rw c.refused.ensures (finds_no_problem g.S.Kept.shows c.args.card c.args.cards.now c.args.self.now (sym c.in_default.ensures))

pub returns-in_default-take_deck : goal.returns-in_default-take_deck
returns-in_default-take_deck g c =
    rw c.refused-in_default-take_deck.ensures
    (finds_no_revision g.S.Kept.shows c.args.card c.args.cards.now c.args.self.now c.in-Some.old.now
    (sym c.in-Some.ensures) c.name-wanted.result c.name-wanted.ensures c.in_default-take_deck.ensures.taken)

pub returns : goal.returns
returns g c =
    rw c.described_as.ensures
    (finds_a_revision g.S.Kept.shows c.args.card c.args.cards.now c.args.self.now c.in-Some.old.now
    (sym c.in-Some.ensures) c.name-wanted.result c.name-wanted.ensures c.revise-given.result _
    c.in-Some-take_deck.deck.last c.next_card.result c.in-Some-take_deck.ensures.taken (rw c.name-name.ensures at c.revise-given.ensures.problem)
    (rw c.name-name.ensures at c.revise-given.ensures.stop)
    c.in-Some-take_deck.ensures.within.2 c.next_card.ensures)
