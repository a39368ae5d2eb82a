-- A draft that shows as a state, which each card takes a step on: what it has to show of a card, from what it shows of a step.
use Rattle.std.proofs.Common.{◌≡◌, ℕ, List, [], ◌∷◌, ◌++◌, Option, None, Result, Ok, Err, OnOk, IfErr, sym, ap, subst, ◌∙◌}
use Rattle.card_definitions.specs.Cards.{Card}
use Rattle.deck_definitions.specs.declared.DeckFaultKind.{DeckFaultKind}
use Rattle.card_reader.specs.declared.stop.CardStop.{CardStop}
use Rattle.deck_fields.specs.Reported.{ReportsDeckFault}

module _ {S : Type 0} (test : List Card → List ℕ → Option DeckFaultKind) (state_of : List Card → S) (fault_at : S → List ℕ → Option DeckFaultKind)
    (state_with : S → List ℕ → S)
    (same : (seen : List Card) (card : List ℕ) → test seen card ≡ fault_at (state_of seen) card)
    (step : (seen : List Card) (card : Card) → fault_at (state_of seen) card.bytes ≡ None →
    state_of (seen ++ card ∷ []) ≡ state_with (state_of seen) card.bytes) where
  fault-same : (old : S) (seen : List Card) (card : List ℕ) → old ≡ state_of seen → fault_at old card ≡ test seen card
  fault-same old seen card is = ap (λ s. fault_at s card) is ∙ sym (same seen card)

  pub no_fault : {T : Type 0} (result : Result T (CardStop DeckFaultKind)) (old : S) (seen : List Card) (card : List ℕ) → old ≡ state_of seen →
      OnOk result (fault_at old card ≡ None) → OnOk result (test seen card ≡ None)
  no_fault result old seen card is h = subst (λ fault. OnOk result (fault ≡ None)) (fault-same old seen card is) h

  pub stop : {T : Type 0} (result : Result T (CardStop DeckFaultKind)) (old : S) (seen : List Card) (card : List ℕ) → old ≡ state_of seen →
      IfErr result (ReportsDeckFault (fault_at old card)) → IfErr result (ReportsDeckFault (test seen card))
  stop result old seen card is h = subst (λ fault. IfErr result (ReportsDeckFault fault)) (fault-same old seen card is) h

  pub made : {T : Type 0} (result : Result T (CardStop DeckFaultKind)) (old new : S) (seen : List Card) (card : Card) → old ≡ state_of seen
      → OnOk result (fault_at old card.bytes ≡ None) → OnOk result (new ≡ state_with old card.bytes)
      → OnOk result (new ≡ state_of (seen ++ card ∷ []))
  made (Ok x) old new seen card is fine h = h ∙ ap (λ s. state_with s card.bytes) is ∙ sym (step seen card (ap (λ s. fault_at s card.bytes) (sym is) ∙ fine))
  made (Err e) old new seen card is fine h = tt
