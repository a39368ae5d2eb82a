-- The draft is made of the cards so far, which have no fault and are printable.
use Rattle.std.proofs.Common.{◌≡◌, [], None}
use Rattle.card_definitions.specs.Cards.{live}
use Rattle.deck_definitions.specs.Conversion.{first_faulty}
use Rattle.deck_definitions.specs.Readings.{ArePrintableCards}
use Rattle.deck_fields.proofs.Between.{cards_up_to}
use Rattle.deck_fields.proofs.reader.read_cards.Given as goal

abbrev pub invariant-loop-number : goal.invariant-loop-number
invariant-loop-number g l = record {
  made : g.D.Draft.is_made_of l.fn.draft l.draft (live (cards_up_to l.first l.number l.cards));
  no_fault : first_faulty (g.D.Draft.test l.fn.draft) [] (live (cards_up_to l.first l.number l.cards)) ≡ None;
  printable : ArePrintableCards (cards_up_to l.first l.number l.cards);
}
