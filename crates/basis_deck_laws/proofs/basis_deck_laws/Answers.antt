use Rattle.basis_deck_laws.proofs.Lawful.{lawful}
use Rattle.basis_deck_laws.proofs.GivesBack.{gives_back}
use Rattle.basis_deck_laws.proofs.OneDeck.{reads_back, one_deck}
use Rattle.basis_deck_laws.proofs.basis_deck_laws.Goals as goal

pub returns : goal.returns
returns c = record {
  lawful = lawful;
  gives_back = gives_back;
  reads_back = reads_back;
  one_deck = one_deck;
}
