-- The fault of a data card in a section, and the count of entries.
use Rattle.std.proofs.Common.{◌≡◌, ℕ, ◌+◌, ◌≤◌, true, false, not, ◌&&◌, List, [], ◌∷◌, Some, None, length, nat_le, refl, ap, sym, ◌∙◌}
use Rattle.std.specs.Option.{option_or}
use Rattle.card_definitions.specs.Words.{is_empty, ◌⟹◌}
use Rattle.card_definitions.specs.Fields.{Reading, reading_of}
use Rattle.card_definitions.proofs.FirstFaults.{passes, or_none}
use Rattle.problem_definitions.specs.declared.TheConstants.{MAX_COLUMNS, MAX_ENTRIES}
use Rattle.problem_definitions.specs.Names.{Name}
use Rattle.problem_definitions.specs.Problem.{Problem, has_group, entry_count}
use Rattle.problem_definitions.specs.Groups.{items_of}
use Rattle.deck_definitions.specs.declared.DeckFaultKind.{DeckFaultKind}
use Rattle.deck_definitions.specs.declared.DeckFaultKind.TheVariants.{SectionOrder, EmptyName, ColumnSplit, TooManyColumns}
use Rattle.deck_definitions.specs.declared.Section.{Section}
use Rattle.deck_definitions.specs.declared.Section.TheVariants.{Header, Rows, Columns, Rhs, Ranges, Bounds, Endata}
use Rattle.deck_definitions.specs.Sections.{is_section}
use Rattle.deck_definitions.specs.declared.Style.{Style}
use Rattle.deck_definitions.specs.DataCards.{form_on, entries_of, pairs_of}
use Rattle.deck_definitions.specs.Tests.{kind_filled, marks, all_but_last, columns_fault, pairs_fault}
use Rattle.deck_definitions.specs.Conversion.{form_fault, section_fault, data_card_fault}
use Rattle.deck_definitions.proofs.Accepted.{pairs-few}

module _ (seen : Problem Name) (style : Style) (card : List ℕ) where
  read : Section → Reading
  read section = reading_of (form_on style section false card) card

  -- a data card that has its form, in a section that has data cards, has the fault of its section
  pub fault_in_section : (section : Section) (reading : Reading) → is_section Header section ≡ false → form_fault style section false card ≡ None
      → reading ≡ reading_of (form_on style section false card) card
      → section_fault seen section reading ≡ data_card_fault seen style (Some section) card
  unfolding read
  fault_in_section section reading standing formed is = ap (section_fault seen section) is ∙ by section standing formed
    where
      by : (section : Section) → is_section Header section ≡ false → form_fault style section false card ≡ None →
          section_fault seen section (read section) ≡ data_card_fault seen style (Some section) card
      by Header e formed = absurd (cc e)
      by Rows e formed =
          sym (ap (λ o. option_or o (option_or (section_fault seen Rows (read Rows)) None)) formed ∙ or_none (section_fault seen Rows (read Rows)))
      by Columns e formed =
          sym (ap (λ o. option_or o (option_or (section_fault seen Columns (read Columns)) None)) formed ∙ or_none (section_fault seen Columns (read Columns)))
      by Rhs e formed = sym (ap (λ o. option_or o (option_or (section_fault seen Rhs (read Rhs)) None)) formed ∙ or_none (section_fault seen Rhs (read Rhs)))
      by Ranges e formed =
          sym (ap (λ o. option_or o (option_or (section_fault seen Ranges (read Ranges)) None)) formed ∙ or_none (section_fault seen Ranges (read Ranges)))
      by Bounds e formed =
          sym (ap (λ o. option_or o (option_or (section_fault seen Bounds (read Bounds)) None)) formed ∙ or_none (section_fault seen Bounds (read Bounds)))
      by Endata e formed = sym (ap (λ o. option_or o (Some SectionOrder)) formed)

  -- a data card that hasn't its form has that fault
  pub fault_of_form : (section : Section) (kind : DeckFaultKind) → is_section Header section ≡ false → form_fault style section false card ≡ Some kind →
      data_card_fault seen style (Some section) card ≡ Some kind
  unfolding read
  fault_of_form section kind standing unformed = by section standing unformed
    where
      by : (section : Section) → is_section Header section ≡ false → form_fault style section false card ≡ Some kind →
          data_card_fault seen style (Some section) card ≡ Some kind
      by Header e unformed = absurd (cc e)
      by Rows e unformed = ap (λ o. option_or o (option_or (section_fault seen Rows (read Rows)) None)) unformed
      by Columns e unformed = ap (λ o. option_or o (option_or (section_fault seen Columns (read Columns)) None)) unformed
      by Rhs e unformed = ap (λ o. option_or o (option_or (section_fault seen Rhs (read Rhs)) None)) unformed
      by Ranges e unformed = ap (λ o. option_or o (option_or (section_fault seen Ranges (read Ranges)) None)) unformed
      by Bounds e unformed = ap (λ o. option_or o (option_or (section_fault seen Bounds (read Bounds)) None)) unformed
      by Endata e unformed = ap (λ o. option_or o (Some SectionOrder)) unformed

  -- a data card directly after NAME is out of order
  pub out_of_order : (section : Section) → is_section Header section ≡ true → data_card_fault seen style (Some section) card ≡ Some SectionOrder
  out_of_order Header e = refl
  out_of_order Rows e = absurd (cc e)
  out_of_order Columns e = absurd (cc e)
  out_of_order Rhs e = absurd (cc e)
  out_of_order Ranges e = absurd (cc e)
  out_of_order Bounds e = absurd (cc e)
  out_of_order Endata e = absurd (cc e)

-- the entries with those of an accepted card are no more than the limit allows
pub few_left : (seen : Problem Name) (card : Reading) → columns_fault seen card ≡ None → entry_count seen ≤ MAX_ENTRIES →
    entry_count seen + length (entries_of card) ≤ MAX_ENTRIES
few_left seen card fine few =
    pairs-few seen Columns (items_of card.name1 seen.columns) (entry_count seen) (pairs_of card) refl few
    (passes (
    kind_filled card ∷
    marks card ∷
    (is_empty card.name1 ⟹ EmptyName) ∷
    (has_group (all_but_last seen.columns) card.name1 ⟹ ColumnSplit) ∷
    (not (has_group seen.columns card.name1) && nat_le MAX_COLUMNS (length seen.columns) ⟹ TooManyColumns) ∷
    pairs_fault seen Columns (items_of card.name1 seen.columns) (entry_count seen) (pairs_of card) ∷ []) fine).1.1.1.1.1.0
