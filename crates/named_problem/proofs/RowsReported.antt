-- The faults of a card of ROWS, where it begins a row, and where it goes on with the last.
use Rattle.std.proofs.Common.{◌≡◌, ℕ, Bool, true, false, not, ◌&&◌, List, [], ◌∷◌, ◌++◌, Option, Some, None, is_none, is_some, codes, bytes_eq, nat_le, length}
use Rattle.std.proofs.Common.{if◌then◌else◌, refl, ap, ap₂, sym, subst, ◌∙◌}
use Rattle.std.specs.Option.{option_or}
use Rattle.card_definitions.specs.Words.{is_empty, named, ◌⟹◌, first_fault}
use Rattle.card_definitions.specs.Fields.{Reading}
use Rattle.problem_definitions.specs.declared.TheConstants.{MAX_ROWS}
use Rattle.problem_definitions.specs.declared.RowKind.{RowKind}
use Rattle.problem_definitions.specs.Names.{Name, same}
use Rattle.problem_definitions.specs.Problem.{Row, Entry, combination, has_row}
use Rattle.problem_definitions.specs.Parts.{parts_of, rows_before}
use Rattle.problem_definitions.proofs.Names.{same_eq}
use Rattle.problem_definitions.proofs.Parts.{parts_of-new, rows_before-new}
use Rattle.deck_definitions.specs.declared.DeckFaultKind.{DeckFaultKind}
use Rattle.deck_definitions.specs.declared.DeckFaultKind.TheVariants.{BadRowType, EmptyName, DuplicateRow, TooManyRows}
use Rattle.deck_definitions.specs.DataCards.{row_kinds, combination_kinds, part_pairs_of, parts_on, is_card_of, goes_on_last, with_row}
use Rattle.deck_definitions.specs.Tests.{filled_from_3, row_fault}
use Rattle.deck_definitions.proofs.GoesOn.{goes_on-last, is_name, with_row-more, row_fault-more}
use Rattle.named_problem.specs.Views.{rows_alone, new_row_fault, begun_fault, parts_fault}

-- a word for a plain row names no combination
plain_apart : (word : List ℕ) (kind : RowKind) → named row_kinds word ≡ Some kind → named combination_kinds word ≡ None
plain_apart word kind is =
    by (bytes_eq (codes "N") word) (bytes_eq (codes "G") word) (bytes_eq (codes "L") word) (bytes_eq (codes "E") word) refl refl refl refl
  where
    of : (text : List ℕ) → bytes_eq text word ≡ true → named combination_kinds text ≡ None → named combination_kinds word ≡ None
    of text equal none = subst (λ word. named combination_kinds word ≡ None) (same_eq text word equal) none

    by : (n g l e : Bool) → bytes_eq (codes "N") word ≡ n → bytes_eq (codes "G") word ≡ g → bytes_eq (codes "L") word ≡ l → bytes_eq (codes "E") word ≡ e →
        named combination_kinds word ≡ None
    by true g l e is_n is_g is_l is_e = of (codes "N") is_n refl
    by false true l e is_n is_g is_l is_e = of (codes "G") is_g refl
    by false false true e is_n is_g is_l is_e = of (codes "L") is_l refl
    by false false false true is_n is_g is_l is_e = of (codes "E") is_e refl
    by false false false false is_n is_g is_l is_e = absurd (cc (rw (is_n, is_g, is_l, is_e) at is))

module _ (rows : List (Row Name)) (card : Reading) where
  -- the tests of a card, by whether it goes on and by what its type is for
  abbrev tests : Bool → Option RowKind → Option RowKind → Option DeckFaultKind
  tests goes_on plain combines = first_fault (
      (is_none (option_or plain combines) ⟹ BadRowType) ∷
      (is_empty card.name1 ⟹ EmptyName) ∷
      (not goes_on && has_row rows card.name1 ⟹ DuplicateRow) ∷
      (not goes_on && nat_le MAX_ROWS (length rows) ⟹ TooManyRows) ∷
      (if is_some combines then parts_fault (rows_before card.name1 rows) (parts_of card.name1 rows) (part_pairs_of card) else filled_from_3 card) ∷ [])

  regrouped : (empty there full rest : Option DeckFaultKind) →
      first_fault (None ∷ empty ∷ there ∷ full ∷ rest ∷ []) ≡ first_fault (first_fault (empty ∷ there ∷ full ∷ []) ∷ rest ∷ [])
  regrouped None None None None = refl
  regrouped None None None (Some kind) = refl
  regrouped None None (Some kind) rest = refl
  regrouped None (Some kind) full rest = refl
  regrouped (Some kind) there full rest = refl

  -- a row's name without a fault is new
  is_new : new_row_fault rows card.name1 ≡ None → has_row rows card.name1 ≡ false
  is_new fine = by (is_empty card.name1) (has_row rows card.name1) (nat_le MAX_ROWS (length rows)) fine
    where
      by : (empty there full : Bool) → first_fault ((empty ⟹ EmptyName) ∷ (there ⟹ DuplicateRow) ∷ (full ⟹ TooManyRows) ∷ []) ≡ None → there ≡ false
      by true there full fine = absurd (cc fine)
      by false true full fine = absurd (cc fine)
      by false false full fine = refl

  -- where the name has no fault the rest counts alone
  same_rest : (name rest other : Option DeckFaultKind) → (name ≡ None → rest ≡ other) → first_fault (name ∷ rest ∷ []) ≡ first_fault (name ∷ other ∷ [])
  same_rest None rest other same = ap (λ fault. first_fault (None ∷ fault ∷ [])) (same refl)
  same_rest (Some kind) rest other same = refl

  module _ (goes_on : goes_on_last rows card ≡ false) where
    pub begins_plain : (kind : RowKind) → named row_kinds card.kind ≡ Some kind →
        row_fault (rows_alone rows) card ≡ begun_fault rows card.name1 (filled_from_3 card)
    begins_plain kind is =
        (λ i. tests (goes_on i) (is i) (plain_apart card.kind kind is i))
        ∙ regrouped (is_empty card.name1 ⟹ EmptyName) (has_row rows card.name1 ⟹ DuplicateRow) (nat_le MAX_ROWS (length rows) ⟹ TooManyRows)
        (filled_from_3 card)

    pub begins_combination : (kind : RowKind) → named row_kinds card.kind ≡ None → named combination_kinds card.kind ≡ Some kind
        → row_fault (rows_alone rows) card ≡ begun_fault rows card.name1 (parts_fault rows [] (part_pairs_of card))
    begins_combination kind none is =
        (λ i. tests (goes_on i) (none i) (is i))
        ∙ regrouped (is_empty card.name1 ⟹ EmptyName) (has_row rows card.name1 ⟹ DuplicateRow) (nat_le MAX_ROWS (length rows) ⟹ TooManyRows)
        (parts_fault (rows_before card.name1 rows) (parts_of card.name1 rows) (part_pairs_of card))
        ∙ same_rest (new_row_fault rows card.name1) _ (parts_fault rows [] (part_pairs_of card))
        (λ fine. ap₂ (λ earlier parts. parts_fault earlier parts (part_pairs_of card)) (rows_before-new card.name1 rows (is_new fine))
        (parts_of-new card.name1 rows (is_new fine)))

-- ---- a card that goes on with the last row, which was taken out

module _ (card : Reading) (old rest : List (Row Name)) (kind : RowKind) (name : Name) (parts : List (Entry Name)) (goes_on : goes_on_last old card ≡ true)
    (taken : old ≡ rest ++ combination kind name parts ∷ []) (apart : has_row rest name ≡ false) where
  is_card : is_card_of kind name card ≡ true
  is_card = sym (goes_on-last rest (combination kind name parts) card) ∙ ap (λ rows. goes_on_last rows card) (sym taken) ∙ goes_on

  no_other : has_row rest card.name1 ≡ false
  no_other = subst (λ name. has_row rest name ≡ false) (same_eq name card.name1 (is_name card rest kind name parts is_card)) apart

  pub more_parts : with_row old card ≡ rest ++ combination kind name (parts ++ parts_on card) ∷ []
  more_parts = ap (λ rows. with_row rows card) taken ∙ with_row-more card rest kind name parts is_card no_other

  pub tells_more : is_empty card.name1 ≡ false → row_fault (rows_alone old) card ≡ parts_fault rest parts (part_pairs_of card)
  tells_more filled =
      ap (λ rows. row_fault (rows_alone rows) card) taken ∙ row_fault-more card rest kind name parts is_card (rows_alone []) no_other
      ∙ ap (λ b. first_fault ((b ⟹ EmptyName) ∷ parts_fault rest parts (part_pairs_of card) ∷ [])) filled
      ∙ last_one (parts_fault rest parts (part_pairs_of card))
    where
      last_one : (fault : Option DeckFaultKind) → option_or fault None ≡ fault
      last_one None = refl
      last_one (Some kind) = refl

-- no card goes on with a plain row
pub not_plain : (card : Reading) (old rest : List (Row Name)) (row : Row Name) → old ≡ rest ++ row ∷ [] → row.parts ≡ None → goes_on_last old card ≡ false
not_plain card old rest row taken plain =
    ap (λ rows. goes_on_last rows card) taken ∙ goes_on-last rest row card ∙ ap (λ parts. is_some parts && is_card_of row.kind row.name card) plain
