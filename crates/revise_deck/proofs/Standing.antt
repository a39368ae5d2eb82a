-- The fault of a card that begins no section, by the section in which it stands.
use Rattle.std.proofs.Common.{◌≡◌, ℕ, true, false, List, Some, refl, ap, sym, ◌∙◌}
use Rattle.deck_definitions.specs.declared.DeckFaultKind.TheVariants.{SectionOrder}
use Rattle.deck_definitions.specs.declared.Section.{Section}
use Rattle.deck_definitions.specs.declared.Section.TheVariants.{Header, Rows, Columns, Rhs, Ranges, Bounds, Endata}
use Rattle.deck_definitions.specs.Sections.{is_section}
use Rattle.revise_deck.specs.State.{State, standing_fault, inner_fault}

-- in a section with data cards
pub standing : (state : State) (section : Section) (card : List ℕ) → state.section ≡ Some section → is_section Header section ≡ false →
    standing_fault state section card ≡ inner_fault state card
standing state section card stands e = by section e ∙ ap (λ o. inner_fault (record state { section = o }) card) (sym stands)
  where
    by : (section : Section) → is_section Header section ≡ false →
        standing_fault state section card ≡ inner_fault (record state { section = Some section }) card
    by Header e = absurd (cc e)
    by Rows e = refl
    by Columns e = refl
    by Rhs e = refl
    by Ranges e = refl
    by Bounds e = refl
    by Endata e = refl

-- directly after NAME
pub out_of_order : (state : State) (section : Section) (card : List ℕ) → state.section ≡ Some section → is_section Header section ≡ true →
    inner_fault state card ≡ Some SectionOrder
out_of_order state section card stands e = ap (λ o. inner_fault (record state { section = o }) card) stands ∙ by section e
  where
    by : (section : Section) → is_section Header section ≡ true → inner_fault (record state { section = Some section }) card ≡ Some SectionOrder
    by Header e = refl
    by Rows e = absurd (cc e)
    by Columns e = absurd (cc e)
    by Rhs e = absurd (cc e)
    by Ranges e = absurd (cc e)
    by Bounds e = absurd (cc e)
    by Endata e = absurd (cc e)
