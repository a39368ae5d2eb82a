-- The tests of a card of COLUMNS, in parts.
use Rattle.std.proofs.Common.{◌≡◌, Bool, true, false, not, ◌&&◌, List, [], ◌∷◌, Option, length, ap, ap₂, sym, ◌∙◌, nat_le}
use Rattle.std.specs.List.{sum_by}
use Rattle.std.specs.Option.{option_or}
use Rattle.card_definitions.specs.Words.{is_empty, ◌⟹◌, first_fault}
use Rattle.card_definitions.specs.Fields.{Reading}
use Rattle.card_definitions.proofs.FirstFaults.{first_fault-append, or_none}
use Rattle.problem_definitions.specs.declared.TheConstants.{MAX_COLUMNS}
use Rattle.problem_definitions.specs.Names.{Name}
use Rattle.problem_definitions.specs.Problem.{Entry, Group, Problem, has_row, has_combination, has_group}
use Rattle.problem_definitions.specs.Groups.{items_of}
use Rattle.deck_definitions.specs.declared.DeckFaultKind.{DeckFaultKind}
use Rattle.deck_definitions.specs.declared.DeckFaultKind.TheVariants.{BadRowType, ColumnSplit, RangeOnFree, EmptyName, TooManyColumns, ModifyMissing}
use Rattle.deck_definitions.specs.declared.Section.TheVariants.{Columns}
use Rattle.deck_definitions.specs.DataCards.{pairs_of}
use Rattle.deck_definitions.specs.Tests.{kind_filled, marks, pairs_fault}
use Rattle.revise_definitions.specs.Tests.{has_range, frees, has_type_for, puts_fault, modified_fields_fault, modify_rows_fault, modify_columns_fault}
use Rattle.revise_edits.specs.EditTests.{insert_columns_test}

module _ (seen : Problem Name) (card : Reading) where
  abbrev head : List (Option DeckFaultKind)
  head = kind_filled card ∷ marks card ∷ (is_empty card.name1 ⟹ EmptyName) ∷ []

  abbrev put_rest : List (Group (Entry Name)) → List (Option DeckFaultKind)
  put_rest columns =
      (not (has_group columns card.name1) ⟹ ModifyMissing) ∷ puts_fault seen Columns (items_of card.name1 columns)
      (sum_by (λ column. length column.items) columns) (pairs_of card) ∷ []

  abbrev insert_rest : Bool → List (Group (Entry Name)) → List (Option DeckFaultKind)
  insert_rest goes columns =
      (has_group columns card.name1 && not goes ⟹ ColumnSplit) ∷
      (not (has_group columns card.name1) && nat_le MAX_COLUMNS (length columns) ⟹ TooManyColumns) ∷
      pairs_fault seen Columns (items_of card.name1 columns) (sum_by (λ column. length column.items) columns) (pairs_of card) ∷ []

  pub modified_parts : (whole first rest : Option DeckFaultKind) (columns : List (Group (Entry Name))) → whole ≡ option_or first rest → first ≡ first_fault head
      → rest ≡ first_fault (put_rest columns) → columns ≡ seen.columns
      → whole ≡ modify_columns_fault seen card
  modified_parts whole first rest columns w f r c =
      w ∙ ap₂ option_or f (r ∙ ap (λ list. first_fault (put_rest list)) c) ∙ sym (first_fault-append head (put_rest seen.columns))

  pub inserted_parts : (goes : Bool) (whole first rest : Option DeckFaultKind) (columns : List (Group (Entry Name))) → whole ≡ option_or first rest
      → first ≡ first_fault head → rest ≡ first_fault (insert_rest goes columns)
      → columns ≡ seen.columns → whole ≡ insert_columns_test seen goes card
  inserted_parts goes whole first rest columns w f r c =
      w ∙ ap₂ option_or f (r ∙ ap (λ list. first_fault (insert_rest goes list)) c) ∙ sym (first_fault-append head (insert_rest goes seen.columns))

-- two tests and one more
pub one_more : (whole two more : Option DeckFaultKind) (a b c : Option DeckFaultKind) → whole ≡ option_or two more → two ≡ first_fault (a ∷ b ∷ []) → more ≡ c →
    whole ≡ first_fault (a ∷ b ∷ c ∷ [])
one_more whole two more a b c w t h =
    w ∙ ap₂ option_or t h ∙ sym (first_fault-append (a ∷ b ∷ []) (c ∷ []) ∙ ap (option_or (first_fault (a ∷ b ∷ []))) (or_none c))

-- a card that modifies a row, of which the earlier tests find nothing
pub modify_parts : (seen : Problem Name) (card : Reading) (whole : Option DeckFaultKind) → is_empty card.name1 ≡ false → has_row seen.rows card.name1 ≡ true
    → has_type_for (has_combination seen.rows card.name1) card ≡ true
    → (frees card && has_range seen card.name1) ≡ false → whole ≡ modified_fields_fault seen card → whole ≡ modify_rows_fault seen card
modify_parts seen card whole named there typed free fields =
    fields ∙ sym
    (after (is_empty card.name1) (has_row seen.rows card.name1) (has_type_for (has_combination seen.rows card.name1) card)
    (frees card && has_range seen card.name1) named there typed free)
  where
    after : (a b c d : Bool) → a ≡ false → b ≡ true → c ≡ true → d ≡ false
        → first_fault
        ((a ⟹ EmptyName) ∷ (not b ⟹ ModifyMissing) ∷ (not c ⟹ BadRowType) ∷
        (d ⟹ RangeOnFree) ∷ modified_fields_fault seen card ∷ []) ≡ modified_fields_fault seen card
    after false true true false e f g h = or_none (modified_fields_fault seen card)
    after true b c d e f g h = absurd (cc e)
    after false false c d e f g h = absurd (cc f)
    after false true false d e f g h = absurd (cc g)
    after false true true true e f g h = absurd (cc h)
