-- The deck that is written for a problem.
use Rattle.std.specs.Prelude.{ℕ, List, [], ◌∷◌, ◌++◌, codes, if◌then◌else◌, unwrap_or, option_map, is_none, Some, None, map, filter, flat_map, take}
use Rattle.card_definitions.specs.Words.{without_trailing, is_empty, padded}
use Rattle.card_definitions.specs.Cards.{is_blank}
use Rattle.problem_definitions.specs.declared.RowKind.{RowKind}
use Rattle.problem_definitions.specs.declared.RowKind.TheVariants.{N, G, L, E}
use Rattle.problem_definitions.specs.declared.BoundKind.{BoundKind}
use Rattle.problem_definitions.specs.declared.BoundKind.TheVariants.{Up, Lo, Fx, Fr, Mi, Pl}
use Rattle.problem_definitions.specs.Names.{Name}
use Rattle.problem_definitions.specs.Problem.{Row, Entry, Bound, Group, Problem}
use Rattle.deck_definitions.specs.DataCards.{combination_text}

abbrev pub row_kind_text : RowKind → List ℕ
row_kind_text N = codes "N"
row_kind_text G = codes "G"
row_kind_text L = codes "L"
row_kind_text E = codes "E"

abbrev pub bound_kind_text : BoundKind → List ℕ
bound_kind_text Up = codes "UP"
bound_kind_text Lo = codes "LO"
bound_kind_text Fx = codes "FX"
bound_kind_text Fr = codes "FR"
bound_kind_text Mi = codes "MI"
bound_kind_text Pl = codes "PL"

-- a data card with these fields 1 to 4, each at the left of its columns, up to its last byte that isn't blank
unfoldable pub data_card : List ℕ → Name → Name → List ℕ → List ℕ
data_card kind name1 name2 value =
    without_trailing is_blank (codes " " ++ padded 2 kind ++ codes " " ++ padded 8 name1 ++ codes "  " ++ padded 8 name2 ++ codes "  " ++ value)

abbrev pub row_card : Row Name → List ℕ
row_card row = data_card (row_kind_text row.kind) row.name [] []

-- one card per part of a combination, or one without a part
abbrev pub combination_cards : RowKind → Name → List (Entry Name) → List (List ℕ)
combination_cards kind name [] = data_card (combination_text kind) name [] [] ∷ []
combination_cards kind name (part ∷ parts) = map (λ part. data_card (combination_text kind) name part.row part.value.text) (part ∷ parts)

-- the cards of a row: one of a plain row
abbrev pub row_cards : Row Name → List (List ℕ)
row_cards row = elim row.parts [ None ↦ row_card row ∷ [] | Some parts ↦ combination_cards row.kind row.name parts ]

-- one card per entry of a column, or per item of a set of right-hand sides or ranges
abbrev pub entry_cards : Group (Entry Name) → List (List ℕ)
entry_cards group = map (λ entry. data_card [] group.name entry.row entry.value.text) group.items

-- a column without entries has a card with the number 0 on the first plain row, if there is one
abbrev pub column_cards : List (Row Name) → Group (Entry Name) → List (List ℕ)
column_cards rows column =
    if is_empty column.items then map (λ row. data_card [] column.name row.name (codes "0")) (take 1 (filter (λ row. is_none row.parts) rows))
    else entry_cards column

-- the kept text of a bound's number, and none where it has no number
abbrev pub bound_text : Bound Name → List ℕ
bound_text bound = unwrap_or (option_map (λ value. value.text) bound.value) []

-- one card per item of a set of bounds
abbrev pub bound_cards : Group (Bound Name) → List (List ℕ)
bound_cards set = map (λ bound. data_card (bound_kind_text bound.kind) set.name bound.column (bound_text bound)) set.items

-- a section of sets, which is there only where there is a set
abbrev pub set_section : {X : Type 0} → List ℕ → (Group X → List (List ℕ)) → List (Group X) → List (List ℕ)
set_section word cards sets = if is_empty sets then [] else word ∷ flat_map cards sets

-- the card that a deck begins with
abbrev pub name_card : Name → List ℕ
name_card name = without_trailing is_blank (codes "NAME          " ++ name)

-- The cards written for a problem: one per row or part of one, one per entry and one per item of a set, each under its section's card.
unfoldable pub written : Problem Name → List (List ℕ)
written problem =
    name_card problem.name ∷
    codes "ROWS" ∷ (flat_map row_cards problem.rows ++
    codes "COLUMNS" ∷ (flat_map (column_cards problem.rows) problem.columns ++
    set_section (codes "RHS") entry_cards problem.rhs ++
    set_section (codes "RANGES") entry_cards problem.ranges ++
    set_section (codes "BOUNDS") bound_cards problem.bounds ++
    codes "ENDATA" ∷ []))

-- the text of cards: each ends with a line feed
abbrev pub card_text : List (List ℕ) → List ℕ
card_text cards = flat_map (λ card. card ++ 10 ∷ []) cards
