-- The lines of a written deck, by the numbers of rows and columns.
use denote.Bor.{Bor}
use Rattle.std.specs.Borrow.{MutBor}
use Rattle.std.specs.Prelude.{◌≡◌, ℕ, ◌+◌, length, sum_by, List, [], ◌∷◌, ◌++◌, codes, if◌then◌else◌, map, Option, Some, None, is_none, unwrap_or, option_map}
use Rattle.std.specs.Prelude.{Result}
use Rattle.std.specs.List.{flat_map, find}
use Rattle.std.specs.Option.{option_to_list}
use Rattle.card_definitions.specs.Words.{is_empty, padded}
use Rattle.problem_definitions.specs.declared.RowKind.{RowKind}
use Rattle.problem_definitions.specs.Names.{Name, name_at}
use Rattle.problem_definitions.specs.Problem.{Row, Entry, Bound, Group}
use Rattle.deck_definitions.specs.DataCards.{combination_text}
use Rattle.deck_definitions.specs.Written.{data_card, row_kind_text, bound_kind_text}
use Rattle.job_devices.specs.States.{SinkState}
use Rattle.job_devices.specs.Text.{Writes}
use Rattle.job_devices.specs.declared.device.WriteStop.{WriteStop}

-- a card with its line feed
abbrev pub line : List ℕ → List ℕ
line card = card ++ 10 ∷ []

-- the columns of a data card, before its trailing blanks are left out
abbrev pub columns_of : List ℕ → Name → Name → List ℕ → List ℕ
columns_of kind name1 name2 value =
    codes " " ++ padded 2 kind ++ codes " " ++ padded 8 name1 ++ codes "  " ++ padded 8 name2 ++ codes "  " ++ value

-- a row without parts, by the word of its type and its name
abbrev pub bare_line : List ℕ → Name → List ℕ
bare_line word name = line (data_card word name [] [])

-- A number on a row, where these are the problem's rows: a part of the combination of this word and name, or, with no word, an entry or item of a column
-- or set of this name.
abbrev pub item_line : List Name → List ℕ → Name → Entry ℕ → List ℕ
item_line rows word name item = line (data_card word name (name_at rows item.row) item.value.text)

-- a combination: a line for each part, or one without a part
abbrev pub combination_lines : List Name → RowKind → Name → List (Entry ℕ) → List ℕ
combination_lines rows kind name parts =
    if is_empty parts then bare_line (combination_text kind) name
    else flat_map (item_line rows (combination_text kind) name) parts

abbrev pub row_lines : List Name → Row ℕ → List ℕ
row_lines rows row = elim row.parts [ None ↦ bare_line (row_kind_text row.kind) row.name | Some parts ↦ combination_lines rows row.kind row.name parts ]

-- the first plain row, if there is one
abbrev pub first_plain : {R : Type 0} → List (Row R) → Option (Row R)
first_plain rows = find (λ row. is_none row.parts) rows

-- the entries or items of a column or set
abbrev pub entry_lines : List Name → Group (Entry ℕ) → List ℕ
entry_lines rows group = flat_map (item_line rows [] group.name) group.items

-- the number 0 on a row
abbrev pub zero_line : Name → Row ℕ → List ℕ
zero_line name row = line (data_card [] name row.name (codes "0"))

abbrev pub column_lines : List (Row ℕ) → Group (Entry ℕ) → List ℕ
column_lines rows column =
    if is_empty column.items then flat_map (zero_line column.name) (option_to_list (first_plain rows))
    else entry_lines (map (λ row. row.name) rows) column

-- the kept text of a bound's number, and none where it has no number
abbrev pub number_text : Bound ℕ → List ℕ
number_text bound = unwrap_or (option_map (λ value. value.text) bound.value) []

abbrev pub bound_line : List Name → Name → Bound ℕ → List ℕ
bound_line columns name bound = line (data_card (bound_kind_text bound.kind) name (name_at columns bound.column) (number_text bound))

abbrev pub bound_lines : List Name → Group (Bound ℕ) → List ℕ
bound_lines columns set = flat_map (bound_line columns set.name) set.items

-- a section that is there only where it has a set
abbrev pub section_lines : {X : Type 0} → List ℕ → (X → List ℕ) → List X → List ℕ
section_lines word lines sets = if is_empty sets then [] else line word ++ flat_map lines sets

-- how many cards a row has: one, and a combination one for each part where it has parts
abbrev pub row_count : Row ℕ → ℕ
row_count row = elim row.parts [ None ↦ 1 | Some parts ↦ if is_empty parts then 1 else length parts ]

-- how many cards the columns and the sets of a section have
abbrev pub column_count : List (Row ℕ) → Group (Entry ℕ) → ℕ
column_count rows column = if is_empty column.items then length (option_to_list (first_plain rows)) else length column.items

abbrev pub section_count : {X : Type 0} → List (Group X) → ℕ
section_count sets = if is_empty sets then 0 else 1 + sum_by (λ set. length set.items) sets

-- a printed count goes no further than this
abbrev pub max_counted : ℕ
max_counted = 4294967295

-- what is asked of calls that write something: each writes these lines of it
abbrev pub WritesEach : {P X : Type 0} → (P → SinkState) → (MutBor P → Bor X → Result (Unit {0}) WriteStop → MutBor P → Type 0) → (X → List ℕ) → Type 0
WritesEach taken puts lines =
    (before : MutBor _) (x : Bor _) (result : Result (Unit {0}) WriteStop) (after : MutBor _) → puts before x result after →
    Writes (taken before.now) (taken after.now) result (lines x.now)

-- what is asked of calls that count something: each finds as many as this
abbrev pub CountsEach : {X : Type 0} → (Bor X → ℕ → Type 0) → (X → ℕ) → Type 0
CountsEach finds size = (x : Bor _) (result : ℕ) → finds x result → result ≡ size x.now
