-- What one more card does to the state of a reader.
use Rattle.std.proofs.Common.{◌≡◌, ℕ, Bool, true, false, cond, List, [], ◌∷◌, ◌++◌, Option, Some, None, unwrap_or, refl, ap, sym, ◌∙◌}
use Rattle.std.specs.Option.{option_or}
use Rattle.card_definitions.specs.Cards.{Card}
use Rattle.card_definitions.specs.Fields.{reading_of}
use Rattle.deck_definitions.specs.declared.Section.{Section}
use Rattle.deck_definitions.specs.declared.Section.TheVariants.{Header}
use Rattle.deck_definitions.specs.declared.Style.{Style}
use Rattle.deck_definitions.specs.DataCards.{style_begun, style_of, form_on}
use Rattle.deck_definitions.specs.Sections.{is_section_card, section_begun, section_after}
use Rattle.deck_definitions.specs.Described.{described}
use Rattle.deck_definitions.specs.Conversion.{card_fault, data_card_fault}
use Rattle.deck_definitions.proofs.Steps.{section_after-push, style_of-push, described-data, described-section}
use Rattle.deck_definitions.specs.Steps.{with_card}
use Rattle.mps_convert.specs.State.{state_of, state_with, with_data, fault_at}

-- the fault of a card after others is that at the state after them
pub fault-state : (cards : List Card) (card : List ℕ) → card_fault cards card ≡ fault_at (state_of cards) card
unfolding card_fault
fault-state cards card = refl

-- a data card without a fault stands in a section
stands : (cards : List Card) (style : Style) (card : List ℕ) (section : Option Section) → data_card_fault (described [] cards) style section card ≡ None →
    (place : Section) × (section ≡ Some place)
stands cards style card None h = absurd (cc h)
stands cards style card (Some place) h = (place, refl)

-- a card without a fault takes the state one step on
pub state-step : (cards : List Card) (card : Card) → fault_at (state_of cards) card.bytes ≡ None →
    state_of (cards ++ card ∷ []) ≡ state_with (state_of cards) card.bytes
state-step cards card fine = by (is_section_card card.bytes) refl fine
  where
    build : (b : Bool) → is_section_card card.bytes ≡ b
        → described [] (cards ++ card ∷ []) ≡ cond b (described [] cards) (with_data (section_after cards) (style_of cards) card.bytes (described [] cards))
        → state_of (cards ++ card ∷ []) ≡ state_with (state_of cards) card.bytes
    build b e h = (λ i. record { section = section_after-push cards card i; style = style_of-push cards card i; problem = h i }) ∙ ap (λ c. record {
      section = option_or (section_begun card.bytes) (section_after cards);
      style = unwrap_or (style_begun card.bytes) (style_of cards);
      problem = cond c (described [] cards) (with_data (section_after cards) (style_of cards) card.bytes (described [] cards));
    }) (sym e)

    by : (b : Bool) → is_section_card card.bytes ≡ b → fault_at (state_of cards) card.bytes ≡ None →
        state_of (cards ++ card ∷ []) ≡ state_with (state_of cards) card.bytes
    by true e h = build true e (described-section [] cards card e)
    by false e h =
        let place = stands cards (style_of cards) card.bytes (section_after cards) (rw e at h) in
        build false e (described-data [] cards card place.0 e place.1
        ∙ ap (λ section. with_card place.0 (reading_of (form_on (style_of cards) (unwrap_or section Header) false card.bytes) card.bytes)
        (described [] cards)) place.1
        ∙ ap (λ section. with_data section (style_of cards) card.bytes (described [] cards)) (sym place.1))
