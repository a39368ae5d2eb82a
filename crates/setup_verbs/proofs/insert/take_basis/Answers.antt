-- The deck that is taken, and what it gives.
use Rattle.std.proofs.Common.{inl, inr, refl, ap, subst, arith, ◌∙◌}
use Rattle.card_definitions.specs.Cards.{cards_between}
use Rattle.basis_deck.specs.Reading.{Refuses}
use Rattle.run_machine.specs.declared.end.End.TheVariants as ends
use Rattle.setup_verbs.proofs.insert.take_basis.Goals as goal

pub returns-in_default : goal.returns-in_default
returns-in_default c = inl (c.take_deck.ensures.taken ∙ rw c.in_default.is refl, refl)

pub read_basis-requires-clause-from_one : goal.read_basis-requires-clause-from_one
read_basis-requires-clause-from_one c = omega (arith, c.requires.from_one, c.in-Some.ensures.within.0)

pub read_basis-requires-clause-ordered : goal.read_basis-requires-clause-ordered
read_basis-requires-clause-ordered c = c.in-Some.ensures.within.1

pub read_basis-requires-clause-within : goal.read_basis-requires-clause-within
read_basis-requires-clause-within c = c.in-Some.ensures.within.2

pub returns-in-Ok : goal.returns-in-Ok
returns-in-Ok c = record {
  taken = c.in-Some.ensures.taken;
  is_read = c.in-Ok.ensures.basis;
  lawful = c.in-Ok.ensures.lawful;
  from_one = omega (arith, c.requires.from_one, c.in-Some.ensures.within.0);
  ordered = c.in-Some.ensures.within.1;
  within = c.in-Some.ensures.within.2;
}

pub returns-in-Err-Fault : goal.returns-in-Err-Fault
returns-in-Err-Fault c =
    let stop =
    subst (Refuses c.args.problem.now c.args.lp.now
    (cards_between c.in-Some.deck.first c.in-Some.deck.last c.args.cards.now)) c.in-Err-Fault.field-0-is c.in-Err-Fault.ensures.stop in
    inr (_, _, c.in-Err-Fault.fault, c.in-Some.ensures.taken, stop, ap ends.Deck c.in-Err-Fault.fault-is)
