-- The first fault of the cards of a deck, one more card at a time.
use Rattle.std.proofs.Common.{◌≡◌, ℕ, ◌+◌, ◌-◌, ◌≤◌, Bool, true, false, cond, not, List, [], ◌∷◌, ◌++◌, Option, Some, None, length, take, drop, slice_get, refl}
use Rattle.std.proofs.Common.{ap, ◌∙◌}
use Rattle.std.specs.Option.{option_or, option_map}
use Rattle.card_definitions.specs.Words.{◌⟹◌}
use Rattle.card_definitions.specs.Cards.{Card, live, numbered_cards, cards_between, is_skipped, last_number}
use Rattle.card_definitions.proofs.Numbered.{live-append}
use Rattle.deck_definitions.specs.declared.DeckFault.{DeckFault}
use Rattle.deck_definitions.specs.declared.DeckFaultKind.{DeckFaultKind}
use Rattle.deck_definitions.specs.declared.DeckFaultKind.TheVariants.{NoEndata}
use Rattle.deck_definitions.specs.declared.Section.TheVariants.{Endata}
use Rattle.deck_definitions.specs.Sections.{is_section_after}
use Rattle.deck_definitions.specs.Conversion.{first_faulty, fault_by}
use Rattle.deck_definitions.proofs.Steps.{first_faulty-append}
use Rattle.card_reader.specs.declared.stop.CardStop.{CardStop}
use Rattle.card_reader.specs.declared.stop.CardStop.TheVariants.{Fault, NoMemory}
use Rattle.deck_fields.specs.Stops.{StopsAt, Stops}
use Rattle.deck_fields.proofs.Between.{cards_up_to, cards_more, cards_split, last_is}

module _ (test : List Card → List ℕ → Option DeckFaultKind) where
  reported : ℕ → Option DeckFaultKind → Option DeckFault
  reported number o = option_map (λ kind. record { card = number; kind = kind }) o

  reported-or : (number : ℕ) (o : Option DeckFaultKind) → option_or {T = DeckFault} (reported number o) None ≡ reported number o
  unfolding reported
  reported-or number None = refl
  reported-or number (Some kind) = refl

  -- ---- one card after others

  -- a skipped card has no fault, and isn't seen
  pub skipped_fine : (seen : List Card) (card : Card) → is_skipped card.bytes ≡ true → first_faulty test seen (live (card ∷ [])) ≡ None
  skipped_fine seen card e = ap (λ b. first_faulty test seen (cond (not b) (card ∷ []) [])) e

  -- another has the fault that the test finds
  pub fault_alone : (seen : List Card) (card : Card) → is_skipped card.bytes ≡ false
      → first_faulty test seen (live (card ∷ [])) ≡ option_map (λ kind. record { card = card.number; kind = kind }) (test seen card.bytes)
  unfolding reported
  fault_alone seen card e = ap (λ b. first_faulty test seen (cond (not b) (card ∷ []) [])) e ∙ reported-or card.number (test seen card.bytes)

  -- ---- a deck up to a card

  -- the first fault of the cards of a deck up to a card, and with it
  more : (cards : List Card) (card : Card) → first_faulty test [] (live cards) ≡ None
      → first_faulty test [] (live (cards ++ card ∷ [])) ≡ first_faulty test (live cards) (live (card ∷ []))
  more cards card none =
      ap (first_faulty test []) (live-append cards (card ∷ [])) ∙ first_faulty-append test [] (live cards) (live (card ∷ []))
      ∙ ap (λ o. option_or o (first_faulty test (live cards) (live (card ∷ [])))) none

  -- a deck has the fault of the first part that has one
  whole : (cards more all : List Card) (found : DeckFault) → all ≡ cards ++ more → first_faulty test [] (live cards) ≡ Some found →
      fault_by test all ≡ Some found
  whole cards more all found split is =
      ap (λ o. option_or o (option_or (not (is_section_after Endata (live all)) ⟹ record { card = last_number all; kind = NoEndata }) None))
      (ap (λ list. first_faulty test [] (live list)) split ∙ ap (first_faulty test []) (live-append cards more)
      ∙ first_faulty-append test [] (live cards) (live more) ∙ ap (λ o. option_or o (first_faulty test (live cards) (live more))) is)

  module _ (first number : ℕ) (cards : List (List ℕ)) (card : List ℕ) (from_one : 1 ≤ first) (from : first ≤ number)
      (at : slice_get cards (number - 1) ≡ Some card)
      (none : first_faulty test [] (live (cards_up_to first number cards)) ≡ None) where
    -- one more card without a fault
    pub next_fine : first_faulty test (live (cards_up_to first number cards)) (live (record { number = number; bytes = card } ∷ [])) ≡ None
        → first_faulty test [] (live (cards_up_to first (number + 1) cards)) ≡ None
    next_fine fine =
        ap (λ list. first_faulty test [] (live list)) (cards_more first number cards card from_one from at)
        ∙ more (cards_up_to first number cards) (record { number = number; bytes = card }) none ∙ fine

    -- what stops at a card stops the deck
    pub stop_at : (last : ℕ) (stop : CardStop DeckFault) → number ≤ last
        → StopsAt test (live (cards_up_to first number cards)) (record { number = number; bytes = card }) stop
        → Stops test (cards_between first last cards) stop
    stop_at last NoMemory below holds = tt
    stop_at last (Fault found) below holds =
        whole (cards_up_to first number cards ++ record { number = number; bytes = card } ∷ []) rest (cards_between first last cards) found
        (cards_split first number last cards below from ∙ ap (λ list. list ++ rest) (cards_more first number cards card from_one from at))
        (more (cards_up_to first number cards) (record { number = number; bytes = card }) none ∙ holds)
      where
        rest : List Card
        rest = take (last + 1 - first - (number + 1 - first)) (drop (number + 1 - first) (drop (first - 1) (numbered_cards cards)))

  -- ---- the end of a deck

  module _ (first last : ℕ) (cards : List (List ℕ)) (from_one : 1 ≤ first) (ordered : first ≤ last) (within : last ≤ length cards)
      (none : first_faulty test [] (live (cards_between first last cards)) ≡ None) where
    by_end : (ended : Bool) → is_section_after Endata (live (cards_between first last cards)) ≡ ended
        → fault_by test (cards_between first last cards) ≡ (not ended ⟹ record { card = last; kind = NoEndata })
    by_end ended is =
        ap (λ o. option_or o
        (option_or (not
        (is_section_after Endata (live (cards_between first last cards))) ⟹ record {
          card = last_number
              (cards_between first last cards);
          kind = NoEndata;
        }) None)) none
        ∙ ap (λ b. option_or (not b ⟹ record { card = last_number (cards_between first last cards); kind = NoEndata }) None) is
        ∙ ap (λ n. option_or (not ended ⟹ record { card = n; kind = NoEndata }) None) (last_is first last cards from_one ordered within)
        ∙ alone ended
      where
        alone : (b : Bool) →
            option_or {T = DeckFault} (not b ⟹ record { card = last; kind = NoEndata }) None ≡ (not b ⟹ record { card = last; kind = NoEndata })
        alone true = refl
        alone false = refl

    -- a deck without a faulty card has no fault where it ends with ENDATA, and else that on its last card
    pub ended_fine : is_section_after Endata (live (cards_between first last cards)) ≡ true → fault_by test (cards_between first last cards) ≡ None
    ended_fine is = by_end true is

    pub unended : is_section_after Endata (live (cards_between first last cards)) ≡ false
        → fault_by test (cards_between first last cards) ≡ Some (record { card = last; kind = NoEndata })
    unended is = by_end false is
