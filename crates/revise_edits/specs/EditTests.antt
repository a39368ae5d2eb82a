-- What the tests of a data card look at, beside the problem and the card.
use Rattle.std.specs.Prelude.{ℕ, Bool, not, ◌&&◌, List, [], ◌∷◌, nat_le, Option, if◌then◌else◌, length, take}
use Rattle.card_definitions.specs.Words.{is_empty, ◌⟹◌, first_fault}
use Rattle.card_definitions.specs.Fields.{Reading}
use Rattle.problem_definitions.specs.declared.TheConstants.{MAX_COLUMNS, MAX_ENTRIES}
use Rattle.problem_definitions.specs.Names.{Name}
use Rattle.problem_definitions.specs.Problem.{Row, Entry, Group, Problem, has_row, has_group, entry_count}
use Rattle.problem_definitions.specs.Parts.{rows_before}
use Rattle.problem_definitions.specs.Groups.{items_of}
use Rattle.deck_definitions.specs.declared.DeckFaultKind.{DeckFaultKind}
use Rattle.deck_definitions.specs.declared.DeckFaultKind.TheVariants.{UnknownRow, DuplicateEntry, TooManyEntries, ColumnSplit, EmptyName, TooManyColumns}
use Rattle.deck_definitions.specs.declared.Section.{Section}
use Rattle.deck_definitions.specs.declared.Section.TheVariants.{Rows, Columns}
use Rattle.deck_definitions.specs.Sections.{is_section}
use Rattle.deck_definitions.specs.DataCards.{Pair, pairs_of}
use Rattle.deck_definitions.specs.Tests.{kind_filled, marks, pair_row_fault, value_fault, pairs_fault, rows_fault}
use Rattle.revise_definitions.specs.declared.Action.{Action}
use Rattle.revise_definitions.specs.declared.Action.TheVariants.{Delete, Before, After}
use Rattle.revise_definitions.specs.Tests.{modify_sets_fault, delete_sets_fault, edit_fault}
use Rattle.revise_edits.specs.Summary.{Under, goes_on_from, goes_on_row_from, row_place_among}

-- The tests of a pair that replaces an item or adds one, where one on its row is there already or isn't.
abbrev pub put_test : Problem Name → Section → Bool → ℕ → Pair → Option DeckFaultKind
put_test seen section there count pair = first_fault (
    pair_row_fault seen section pair.row ∷
    value_fault pair.column pair.value ∷
    (is_section Columns section && not there && nat_le MAX_ENTRIES count ⟹ TooManyEntries) ∷ [])

-- the tests of a pair that adds an item, where its column or set has one on its row already or hasn't
abbrev pub pair_test : Problem Name → Section → Bool → ℕ → Pair → Option DeckFaultKind
pair_test seen section taken count pair = first_fault (
    pair_row_fault seen section pair.row ∷
    (taken ⟹ DuplicateEntry) ∷
    value_fault pair.column pair.value ∷
    (is_section Columns section && nat_le MAX_ENTRIES count ⟹ TooManyEntries) ∷ [])

-- the tests of a part, where these are the earlier rows, and its row has a part already or hasn't
abbrev pub part_test : List (Row Name) → Bool → Pair → Option DeckFaultKind
part_test earlier taken pair = first_fault (
    first_fault ((is_empty pair.row ⟹ EmptyName) ∷ (not (has_row earlier pair.row) ⟹ UnknownRow) ∷ []) ∷
    (taken ⟹ DuplicateEntry) ∷
    value_fault pair.column pair.value ∷ [])

-- the tests of a card that inserts a column, or goes on with that of the card before
abbrev pub insert_columns_test : Problem Name → Bool → Reading → Option DeckFaultKind
insert_columns_test seen goes card = first_fault (
    kind_filled card ∷
    marks card ∷
    (is_empty card.name1 ⟹ EmptyName) ∷
    (has_group seen.columns card.name1 && not goes ⟹ ColumnSplit) ∷
    (not (has_group seen.columns card.name1) && nat_le MAX_COLUMNS (length seen.columns) ⟹ TooManyColumns) ∷
    pairs_fault seen Columns (items_of card.name1 seen.columns) (entry_count seen) (pairs_of card) ∷ [])

-- the rows before the one that a card goes on with, or before the place of its own
abbrev pub earlier_among : Action → Under → Reading → List (Row Name) → List (Row Name)
earlier_among action under card rows =
    if goes_on_row_from under card then rows_before card.name1 rows else take (row_place_among action under rows) rows

-- the tests of a card of RHS or RANGES, with these sets
abbrev pub sets_test : Problem Name → Section → List (Group (Entry Name)) → Action → Reading → Option DeckFaultKind
sets_test seen section sets Delete card = delete_sets_fault seen sets card
sets_test seen section sets _ card = modify_sets_fault seen section card

-- the tests of a data card under an action of its section
abbrev pub edit_test : Problem Name → Section → Action → Under → Reading → Option DeckFaultKind
edit_test seen Rows Before under card = rows_fault seen (goes_on_row_from under card) (earlier_among Before under card seen.rows) card
edit_test seen Rows After under card = rows_fault seen (goes_on_row_from under card) (earlier_among After under card seen.rows) card
edit_test seen Columns Before under card = insert_columns_test seen (goes_on_from under card) card
edit_test seen Columns After under card = insert_columns_test seen (goes_on_from under card) card
edit_test seen section action under card = edit_fault seen section action [] [] card
