-- A written deck converts back, and is read back from its text.
use Rattle.basis_deck_laws.proofs.Decks.{one-deck, deck-called}
use Rattle.basis_deck_laws.proofs.Texts.{reads-back}
use Rattle.basis_deck_laws.proofs.Whole.{converts-back}
use Rattle.basis_deck_laws.proofs.written_deck_laws.Goals as goal

pub returns-clause-converts_back : goal.returns-clause-converts_back
returns-clause-converts_back c = converts-back

pub returns-clause-reads_back : goal.returns-clause-reads_back
returns-clause-reads_back c = reads-back

pub returns-clause-one_deck : goal.returns-clause-one_deck
returns-clause-one_deck c = λ problem first is. (one-deck problem first, deck-called problem first is)
