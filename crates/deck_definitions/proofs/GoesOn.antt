-- A card of ROWS after a combination of its type and name goes on with it; a card with a new name begins a row.
use Rattle.std.proofs.Common.{◌≡◌, Bool, true, false, ◌&&◌, ◌||◌, List, [], ◌∷◌, ◌++◌, Option, Some, None, length, refl, ap, ◌∙◌, subst, is_none, is_some}
use Rattle.std.proofs.Common.{nat_le, unwrap_or, bytes_eq, if◌then◌else◌}
use Rattle.std.specs.List.{last_or}
use Rattle.std.specs.Option.{option_map, option_to_list}
use Rattle.card_definitions.specs.Words.{is_empty, named, ◌⟹◌, first_fault}
use Rattle.card_definitions.specs.Fields.{Reading}
use Rattle.problem_definitions.specs.declared.TheConstants.{MAX_ROWS}
use Rattle.problem_definitions.specs.declared.RowKind.{RowKind}
use Rattle.problem_definitions.specs.declared.RowKind.TheVariants.{N, G, L, E}
use Rattle.problem_definitions.specs.Names.{Name, same}
use Rattle.problem_definitions.specs.Problem.{Row, combination, Entry, Problem, has_row}
use Rattle.problem_definitions.proofs.Names.{same_eq, same_sym}
use Rattle.problem_definitions.proofs.Parts.{parts_of-new, parts_of-last, rows_before-new, rows_before-last, in_row-last}
use Rattle.deck_definitions.specs.declared.DeckFaultKind.TheVariants.{BadRowType, EmptyName, TooManyRows}
use Rattle.deck_definitions.specs.declared.Section.TheVariants.{Rows}
use Rattle.deck_definitions.specs.DataCards.{combination_kinds, combination_text, parts_on, part_pairs_of, kind_on, row_of, is_card_of, goes_on_last, with_row}
use Rattle.deck_definitions.specs.Tests.{filled_from_3, pairs_fault, row_fault}
use Rattle.deck_definitions.proofs.Steps.{last_or-push}

-- what the last row tells
pub goes_on-last : (rows : List (Row Name)) (row : Row Name) (card : Reading) →
    goes_on_last (rows ++ row ∷ []) card ≡ (is_some row.parts && is_card_of row.kind row.name card)
goes_on-last rows row card =
    ap (λ o. unwrap_or (option_map (λ (row : Row Name). is_some row.parts && is_card_of row.kind row.name card) o) false) (last_or-push None rows (Some row))

-- a card with a new name goes on with none
pub goes_on-new : (rows : List (Row Name)) (card : Reading) → has_row rows card.name1 ≡ false → goes_on_last rows card ≡ false
goes_on-new rows card new = last None rows refl new
  where
    and_false : (a b c : Bool) → c ≡ false → (a && (b && c)) ≡ false
    and_false true true c e = e
    and_false true false c e = refl
    and_false false b c e = refl

    first : (a b : Bool) → (a || b) ≡ false → a ≡ false
    first true b e = e
    first false b e = refl

    second : (a b : Bool) → (a || b) ≡ false → b ≡ false
    second true b e = absurd (cc e)
    second false b e = e

    last : (o : Option (Row Name)) (rows : List (Row Name))
        → unwrap_or (option_map (λ (row : Row Name). is_some row.parts && is_card_of row.kind row.name card) o) false ≡ false → has_row rows card.name1 ≡ false
        → unwrap_or (option_map (λ (row : Row Name). is_some row.parts && is_card_of row.kind row.name card) (last_or o rows)) false ≡ false
    last o [] before none = before
    last o (row ∷ rows) before none = last (Some row) rows
        (and_false (is_some row.parts) (bytes_eq (combination_text row.kind) card.kind) (same row.name card.name1)
        (same_sym row.name card.name1 ∙ first (same card.name1 row.name) (has_row rows card.name1) none))
        (second (same card.name1 row.name) (has_row rows card.name1) none)

-- ---- a card that begins a row

module _ (card : Reading) where
  pub with_row-new : (rows : List (Row Name)) → has_row rows card.name1 ≡ false → with_row rows card ≡ rows ++ option_to_list (row_of card)
  with_row-new rows new = rw (goes_on-new rows card new) refl

  -- its parts stand on the rows that are there, and there are none yet
  pub row_fault-new : (seen : Problem Name) → has_row seen.rows card.name1 ≡ false → row_fault seen card ≡ first_fault (
      (is_none (kind_on card) ⟹ BadRowType) ∷
      (is_empty card.name1 ⟹ EmptyName) ∷
      (nat_le MAX_ROWS (length seen.rows) ⟹ TooManyRows) ∷
      (if is_some (named combination_kinds card.kind) then pairs_fault seen Rows [] 0 (part_pairs_of card) else filled_from_3 card) ∷ [])
  row_fault-new seen new = rw (goes_on-new seen.rows card new, new, rows_before-new card.name1 seen.rows new, parts_of-new card.name1 seen.rows new) refl

-- ---- a card that goes on

module _ (card : Reading) (rows : List (Row Name)) (kind : RowKind) (name : Name) (parts : List (Entry Name)) (is : is_card_of kind name card ≡ true) where
  is_type : bytes_eq (combination_text kind) card.kind ≡ true
  is_type = by (bytes_eq (combination_text kind) card.kind) is
    where
      by : (b : Bool) → (b && same name card.name1) ≡ true → b ≡ true
      by true e = refl
      by false e = e

  pub is_name : same name card.name1 ≡ true
  is_name = by (bytes_eq (combination_text kind) card.kind) is
    where
      by : (b : Bool) → (b && same name card.name1) ≡ true → same name card.name1 ≡ true
      by true e = e
      by false e = absurd (cc e)

  named_so : same card.name1 name ≡ true
  named_so = same_sym card.name1 name ∙ is_name

  pub goes_on : goes_on_last (rows ++ combination kind name parts ∷ []) card ≡ true
  goes_on = goes_on-last rows (combination kind name parts) card ∙ is

  -- its parts are added to the last row
  pub with_row-more : has_row rows card.name1 ≡ false →
      with_row (rows ++ combination kind name parts ∷ []) card ≡ rows ++ combination kind name (parts ++ parts_on card) ∷ []
  with_row-more new = rw goes_on (in_row-last card.name1 (combination kind name parts) named_so (λ parts. parts ++ parts_on card) rows new)

  kind_known : is_none (kind_on card) ≡ false
  kind_known = subst (λ word. is_none (kind_on (record card { kind = word })) ≡ false) (same_eq (combination_text kind) card.kind is_type) (by kind)
    where
      by : (kind : RowKind) → is_none (kind_on (record card { kind = combination_text kind })) ≡ false
      by N = refl
      by G = refl
      by L = refl
      by E = refl

  pub combines : is_some (named combination_kinds card.kind) ≡ true
  combines = subst (λ word. is_some (named combination_kinds word) ≡ true) (same_eq (combination_text kind) card.kind is_type) (by kind)
    where
      by : (kind : RowKind) → is_some (named combination_kinds (combination_text kind)) ≡ true
      by N = refl
      by G = refl
      by L = refl
      by E = refl

  -- its parts stand on the rows before the last, after those that the last has
  pub row_fault-more : (seen : Problem Name) → has_row rows card.name1 ≡ false →
      row_fault (record seen { rows = rows ++ combination kind name parts ∷ [] }) card ≡ first_fault (
      (is_empty card.name1 ⟹ EmptyName) ∷
      pairs_fault (record seen { rows = rows }) Rows parts 0 (part_pairs_of card) ∷ [])
  row_fault-more seen new =
      rw (
        goes_on,
        kind_known,
        combines,
        rows_before-last card.name1 (combination kind name parts) named_so rows new,
        parts_of-last card.name1
            (combination kind name parts) named_so rows new,
      ) refl
