-- What the parts of a problem by names show, in the words of the definitions.
use Rattle.std.specs.Prelude.{◌≡◌, ◌≤◌, ℕ, ◌+◌, not, ◌&&◌, Option, Result, Ok, Err, List, [], ◌∷◌, map, length, nat_le, unwrap_or}
use Rattle.std.specs.List.{sum_by}
use Rattle.std.specs.Map.{lookup}
use Rattle.indexmap.specs.IndexMap.{insert_entry}
use Rattle.card_definitions.specs.Words.{is_empty, ◌⟹◌, first_fault}
use Rattle.card_definitions.specs.Fields.{Reading}
use Rattle.problem_definitions.specs.declared.TheConstants.{MAX_ROWS, MAX_COLUMNS, MAX_ENTRIES}
use Rattle.problem_definitions.specs.declared.BoundKind.{BoundKind}
use Rattle.problem_definitions.specs.Names.{Name, same, number_in}
use Rattle.problem_definitions.specs.Problem.{Row, Entry, Bound, Group, Problem, has_row, has_group, group_names}
use Rattle.deck_definitions.specs.declared.DeckFaultKind.{DeckFaultKind}
use Rattle.deck_definitions.specs.declared.DeckFaultKind.TheVariants.{DuplicateRow, ColumnSplit, BoundTwice, EmptyName, TooManyRows, TooManyColumns}
use Rattle.deck_definitions.specs.declared.DeckFaultKind.TheVariants.{TooManyEntries}
use Rattle.deck_definitions.specs.declared.Section.{Section}
use Rattle.deck_definitions.specs.declared.Section.TheVariants.{Rows, Columns}
use Rattle.deck_definitions.specs.Sections.{is_section}
use Rattle.deck_definitions.specs.DataCards.{Pair}
use Rattle.named_problem.specs.declared.on_row.OnRow.{OnRow}
use Rattle.deck_definitions.specs.Tests.{value_fault, pairs_fault, all_but_last, is_bound_already, bound_value_fault, filled_from_5}

-- the number of the row, or of the column, of a name, from 1; 0 where it isn't there
abbrev pub row_number : List (Row Name) → Name → ℕ
row_number rows name = number_in (map (λ row. row.name) rows) name

abbrev pub column_number : List (Group (Entry Name)) → Name → ℕ
column_number columns name = number_in (group_names columns) name

-- the entry that a row's name with a number stands for
abbrev pub entry_at : Name × OnRow → Entry Name
entry_at e = record { row = e.0; value = e.1.value }

-- a problem of rows alone: tests of a row's name look at nothing else
abbrev pub rows_alone : List (Row Name) → Problem Name
rows_alone rows = record { name = []; rows = rows; columns = []; rhs = []; ranges = []; bounds = [] }

-- the column or set that a name with items stands for
abbrev pub group_at : {X : Type 0} → Name × List X → Group X
group_at e = record { name = e.0; items = e.1 }

-- a problem of rows and columns alone: the tests of a card of COLUMNS look at nothing else
abbrev pub columns_alone : List (Row Name) → List (Group (Entry Name)) → Problem Name
columns_alone rows columns = record { name = []; rows = rows; columns = columns; rhs = []; ranges = []; bounds = [] }

-- a problem of columns and bounds alone: the tests of a card of BOUNDS look at nothing else
abbrev pub bounds_alone : List (Group (Entry Name)) → List (Group (Bound Name)) → Problem Name
bounds_alone columns bounds = record { name = []; rows = []; columns = columns; rhs = []; ranges = []; bounds = bounds }

-- the tests of a card of BOUNDS that come after that of its column, against the items of its set
abbrev pub bound_rest_fault : List (Bound Name) → Reading → BoundKind → Option DeckFaultKind
bound_rest_fault items card kind = first_fault (
    (is_bound_already items card.name2 kind ⟹ BoundTwice) ∷
    bound_value_fault card kind ∷
    filled_from_5 card ∷ [])

-- the tests of a pair that come after those of its row
abbrev pub pair_value_fault : Section → ℕ → Pair → Option DeckFaultKind
pair_value_fault section count pair = first_fault (
    value_fault pair.column pair.value ∷
    (is_section Columns section && nat_le MAX_ENTRIES count ⟹ TooManyEntries) ∷ [])

-- the tests of a card's column, a name of none but the last column and room for one more, and then the rest
abbrev pub column_fault : List (Group (Entry Name)) → Name → Option DeckFaultKind → Option DeckFaultKind
column_fault columns name rest = first_fault (
    (has_group (all_but_last columns) name ⟹ ColumnSplit) ∷
    (not (has_group columns name) && nat_le MAX_COLUMNS (length columns) ⟹ TooManyColumns) ∷
    rest ∷ [])

-- the tests of a card of BOUNDS that come after that of its bound
abbrev pub bound_end_fault : Reading → BoundKind → Option DeckFaultKind
bound_end_fault card kind = first_fault (bound_value_fault card kind ∷ filled_from_5 card ∷ [])

-- the tests of the name of a row that a card begins: it isn't empty, no row has it, and there is room for one more
abbrev pub new_row_fault : List (Row Name) → Name → Option DeckFaultKind
new_row_fault rows name = first_fault (
    (is_empty name ⟹ EmptyName) ∷
    (has_row rows name ⟹ DuplicateRow) ∷
    (nat_le MAX_ROWS (length rows) ⟹ TooManyRows) ∷ [])

-- the tests of a card that begins a row of this name, and then the rest
abbrev pub begun_fault : List (Row Name) → Name → Option DeckFaultKind → Option DeckFaultKind
begun_fault rows name rest = first_fault (new_row_fault rows name ∷ rest ∷ [])

-- the tests of the parts on a card, where these rows are the earlier ones and these parts are there already
abbrev pub parts_fault : List (Row Name) → List (Entry Name) → List Pair → Option DeckFaultKind
parts_fault rows parts pairs = pairs_fault (rows_alone rows) Rows parts 0 pairs

-- a count of 64 bits tells how many items each of these groups has
abbrev pub AreShort : {X : Type 0} → List (Group X) → Type 0
AreShort [] = Unit {0}
AreShort (group ∷ groups) = (length group.items ≤ 18446744073709551615) × AreShort groups

-- items are put under a name in the place of those that it had, where it had so many and has so many
abbrev pub IsPut : {X : Type 0} → Name → List X → List (Name × List X) → List (Name × List X) → ℕ → ℕ → Type 0
IsPut name items old new before after =
    (new ≡ insert_entry same old name items) × (before ≡ length (unwrap_or (lookup (same name) old) [])) × (after ≡ length items)

-- the items of these groups were so many before those of one of them changed, of which there were so many, and are so many now
abbrev pub IsCountBefore : {X : Type 0} → List (Group X) → ℕ → ℕ → ℕ → Type 0
IsCountBefore groups count before after =
    after ≤ 18446744073709551615 → (count + after ≡ sum_by (λ group. length group.items) groups + before) × (before ≤ count) × AreShort groups

-- the one is what the other is, `Ok`, or an `Err` of the same stop
abbrev pub IsSettled : {T U E : Type 0} → Result T E → Result U E → Type 0
IsSettled (Ok x) (Ok y) = Unit {0}
IsSettled (Err stop) (Err same_stop) = same_stop ≡ stop
IsSettled (Ok x) (Err stop) = ⊥
IsSettled (Err stop) (Ok y) = ⊥
