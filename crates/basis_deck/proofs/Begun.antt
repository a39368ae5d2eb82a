-- A basis deck that was read from a draft after no card.
use Rattle.std.proofs.Common.{◌≡◌, ℕ, List, [], None, Ok, sym, ap, subst, ◌∙◌}
use Rattle.card_definitions.specs.Words.{unless}
use Rattle.card_definitions.specs.Cards.{Card, live}
use Rattle.lp_definitions.specs.LinearProgram.{LinearProgram}
use Rattle.problem_definitions.specs.Problem.{Problem}
use Rattle.deck_definitions.specs.Conversion.{fault_by}
use Rattle.deck_definitions.specs.declared.DeckFault.{DeckFault}
use Rattle.card_reader.specs.declared.stop.CardStop.{CardStop}
use Rattle.card_reader.specs.declared.stop.CardStop.TheVariants.{Fault, NoMemory}
use Rattle.deck_fields.specs.Stops.{Stops}
use Rattle.basis_deck_definitions.specs.Reading.{stands_for, basis_card_fault, basis_reading}
use Rattle.basis_deck.specs.Reading.{State, state_of, Refuses}

module _ (problem : Problem ℕ) (lp : LinearProgram) (deck : List Card) where
  -- the fault of the deck is what it gives
  refused : (stop : CardStop DeckFault) → Stops (basis_card_fault problem lp) deck stop → Refuses problem lp deck stop
  unfolding basis_reading
  refused NoMemory h = tt
  refused (Fault found) h = ap (λ o. unless o (stands_for problem lp (live deck))) h

  -- without one it gives the statuses that it stands for
  whole : fault_by (basis_card_fault problem lp) deck ≡ None → basis_reading problem lp deck ≡ Ok (stands_for problem lp (live deck))
  unfolding basis_reading
  whole fine = ap (λ o. unless o (stands_for problem lp (live deck))) fine

  module _ (start : State) (begins : start ≡ state_of problem lp []) where
    pub faulty : (stop : CardStop DeckFault) → Stops (basis_card_fault start.problem start.lp) deck stop → Refuses problem lp deck stop
    faulty stop h = refused stop (subst (λ (s : State). Stops (basis_card_fault s.problem s.lp) deck stop) begins h)

    pub gives : (now : State) → fault_by (basis_card_fault start.problem start.lp) deck ≡ None → now ≡ state_of start.problem start.lp (live deck) →
        basis_reading problem lp deck ≡ Ok now.statuses
    gives now fine is =
        whole (subst (λ (s : State). fault_by (basis_card_fault s.problem s.lp) deck ≡ None) begins fine)
        ∙ ap (λ (s : State). Ok s.statuses) (sym (subst (λ (s : State). now ≡ state_of s.problem s.lp (live deck)) begins is))
