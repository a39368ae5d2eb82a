-- The revision by a whole deck, by its parts: the first faulty card, its end and its name.
use Rattle.std.proofs.Common.{◌≡◌, ℕ, List, [], Option, None, Ok, refl, ap, sym, subst, ◌∙◌, unwrap_or}
use Rattle.card_definitions.specs.Words.{unless}
use Rattle.card_definitions.specs.Cards.{Card, live}
use Rattle.card_definitions.proofs.FirstFaults.{no_first}
use Rattle.problem_definitions.specs.Names.{Name}
use Rattle.problem_definitions.specs.Problem.{Problem}
use Rattle.problem_definitions.specs.Numbering.{numbered, by_names}
use Rattle.problem_definitions.specs.Valid.{IsName, IsProblem}
use Rattle.problem_definitions.proofs.Lawful.{lawful-numbered}
use Rattle.deck_definitions.specs.declared.Style.TheVariants.{FixedFields}
use Rattle.deck_definitions.specs.Conversion.{first_faulty, fault_by, deck_name}
use Rattle.deck_definitions.proofs.Converted.{printable_live}
use Rattle.deck_definitions.specs.Readings.{ArePrintableCards}
use Rattle.deck_definitions.specs.declared.DeckFault.{DeckFault}
use Rattle.card_reader.specs.declared.stop.CardStop.{CardStop}
use Rattle.card_reader.specs.declared.stop.CardStop.TheVariants.{Fault, NoMemory}
use Rattle.revise_definitions.specs.Revision.{revised, revise_card_fault, revise_fault, revision}
use Rattle.revise_laws.proofs.ByNames.{named-lawful}
use Rattle.revise_laws.proofs.Revisions.{revised-lawful, renamed}
use Rattle.revise_edits.specs.Summary.{under_of}
use Rattle.deck_fields.specs.Stops.{Stops}
use Rattle.revise_deck.specs.State.{State, state_of}
use Rattle.revise_deck.specs.Revision.{Refuses}

module _ (old : Problem ℕ) (deck : List Card) (name : Option Name) where
  made : Problem ℕ
  made = numbered (record (revised (by_names old) (live deck)) { name = unwrap_or name (deck_name (live deck)) })

  by_fault : revision old deck name ≡ unless (fault_by (revise_card_fault (by_names old)) deck) made
  unfolding revision revise_fault made
  by_fault = refl

  -- the fault of the deck is what the revision gives
  pub faulty : (stop : CardStop DeckFault) → Stops (revise_card_fault (by_names old)) deck stop → Refuses old deck name stop
  faulty NoMemory h = tt
  faulty (Fault found) h = by_fault ∙ ap (λ o. unless o made) h

  -- without one it gives the revised problem
  pub whole : fault_by (revise_card_fault (by_names old)) deck ≡ None
      → revision old deck name ≡ Ok (numbered (record (revised (by_names old) (live deck)) { name = unwrap_or name (deck_name (live deck)) }))
  unfolding made
  whole fine = by_fault ∙ ap (λ o. unless o made) fine

  -- and no card is faulty
  pub cards_fine : fault_by (revise_card_fault (by_names old)) deck ≡ None → first_faulty (revise_card_fault (by_names old)) [] (live deck) ≡ None
  cards_fine fine = no_first (first_faulty (revise_card_fault (by_names old)) [] (live deck)) _ fine

-- the revised problem, under a name, is a problem
pub is_problem : (old : Problem ℕ) (deck : List Card) (own : Name) (problem : Problem Name) → IsProblem old → IsName own → ArePrintableCards deck
    → fault_by (revise_card_fault (by_names old)) deck ≡ None
    → problem ≡ revised (by_names old) (live deck) → IsProblem (numbered (record problem { name = own }))
is_problem old deck own problem lawful named printable fine is =
    subst (λ (p : Problem Name). IsProblem (numbered (record p { name = own }))) (sym is)
    (lawful-numbered (record (revised (by_names old) (live deck)) { name = own }) named
    (renamed own (revised (by_names old) (live deck))
    (revised-lawful (by_names old) (live deck) (named-lawful old lawful) (printable_live deck printable) (cards_fine old deck None fine))))

-- and the revision gives it
pub gives : (old : Problem ℕ) (deck : List Card) (name : Option Name) (own : Name) (viewed : Problem Name) (problem : Problem ℕ)
    → fault_by (revise_card_fault (by_names old)) deck ≡ None
    → viewed ≡ revised (by_names old) (live deck) → own ≡ unwrap_or name (deck_name (live deck)) → problem ≡ numbered (record viewed { name = own })
    → revision old deck name ≡ Ok problem
gives old deck name own viewed problem fine is own_is problem_is =
    whole old deck name fine
    ∙ ap (λ (p : Problem ℕ). Ok p)
    (ap (λ n. numbered (record (revised (by_names old) (live deck)) { name = n })) (sym own_is)
    ∙ ap (λ (p : Problem Name). numbered (record p { name = own })) (sym is) ∙ sym problem_is)

-- after no card
pub nothing_read : (state : State) (problem : Problem Name) →
    state ≡ record { style = FixedFields; section = None; action = None; under = under_of [] []; problem = problem } → state ≡ state_of state.problem []
unfolding revised
nothing_read state problem e =
    e ∙ ap (λ p. record { style = FixedFields; section = None; action = None; under = under_of [] []; problem = p }) (ap (λ (s : State). s.problem) (sym e))
