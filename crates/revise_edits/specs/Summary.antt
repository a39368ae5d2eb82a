-- What is known of the data cards under an action, and what one more makes of the problem.
use Rattle.std.specs.Prelude.{ℕ, ◌+◌, ◌-◌, Bool, false, List, ◌++◌, Option, Some, None, if◌then◌else◌, unwrap_or, option_map, map, length, insert}
use Rattle.std.specs.List.{last_or}
use Rattle.std.specs.Option.{option_and_then}
use Rattle.indexmap.specs.IndexSet.{insert_key}
use Rattle.card_definitions.specs.Words.{named, is_empty}
use Rattle.card_definitions.specs.Fields.{Reading}
use Rattle.problem_definitions.specs.declared.RowKind.{RowKind}
use Rattle.problem_definitions.specs.Names.{Name, same, number_in, different}
use Rattle.problem_definitions.specs.Problem.{Row, Entry, Group, Problem, group_names}
use Rattle.problem_definitions.specs.Parts.{in_row}
use Rattle.problem_definitions.specs.Groups.{in_group}
use Rattle.deck_definitions.specs.declared.Section.{Section}
use Rattle.deck_definitions.specs.declared.Section.TheVariants.{Header, Rows, Columns, Rhs, Ranges, Bounds, Endata}
use Rattle.deck_definitions.specs.DataCards.{entries_of, parts_on, row_of, is_card_of, combination_kinds}
use Rattle.revise_definitions.specs.declared.Action.{Action}
use Rattle.revise_definitions.specs.declared.Action.TheVariants.{Modify, Delete, After}
use Rattle.revise_definitions.specs.Edits.{edit_sets, edit_bounds, modify_row, delete_row, delete_column, put_entries, without_row, rows_begun}

-- the type and the name on a card of ROWS, if it makes a combination or goes on with one
abbrev pub combination_on : Reading → Option (RowKind × Name)
combination_on card = option_map (λ kind. (kind, card.name1)) (named combination_kinds card.kind)

-- What is known of the data cards so far under an action: the name on its card, how many rows they begin as cards of ROWS,
-- the different names in their fields 2, the last of these, and the combination on the last card.
pub record Under : Type 0 where
  pub anchor : Name
  pub there : ℕ
  pub names : List Name
  pub last : Option Name
  pub combination : Option (RowKind × Name)

abbrev pub under_of : Name → List Reading → Under
under_of anchor cards = record {
  anchor = anchor;
  there = rows_begun cards;
  names = different (map (λ card. card.name1) cards);
  last = last_or None (map (λ card. card.name1) cards);
  combination = option_and_then combination_on (last_or None cards);
}

-- whether a card has the name of the last
abbrev pub goes_on_from : Under → Reading → Bool
goes_on_from under card = unwrap_or (option_map (same card.name1) under.last) false

-- whether a card of ROWS goes on with the combination on the last
abbrev pub goes_on_row_from : Under → Reading → Bool
goes_on_row_from under card = unwrap_or (option_map (λ made. is_card_of made.0 made.1 card) under.combination) false

-- one more card
abbrev pub with_card_under : Under → Reading → Under
with_card_under under card = record {
  anchor = under.anchor;
  there = under.there + (if goes_on_row_from under card then 0 else 1);
  names = insert_key same under.names card.name1;
  last = Some card.name1;
  combination = combination_on card;
}

-- The place of the next new thing among so many, where so many stand there already and the anchor has this number.
abbrev pub place_at : Action → Name → ℕ → ℕ → ℕ → ℕ
place_at After anchor there count number = if is_empty anchor then count else number + there
place_at _ anchor there count number = if is_empty anchor then there else number - 1

abbrev pub place_among : Action → Name → ℕ → List Name → ℕ
place_among action anchor there names = place_at action anchor there (length names) (number_in names anchor)

-- the place of the next new row
abbrev pub row_place_among : Action → Under → List (Row Name) → ℕ
row_place_among action under rows = place_among action under.anchor under.there (map (λ row. row.name) rows)

-- the rows with the card's row put next to the anchor, or with the card's parts added to the combination that it goes on with
abbrev pub row_inserted : Action → Under → Reading → List (Row Name) → List (Row Name)
row_inserted action under card rows =
    if goes_on_row_from under card then in_row card.name1 (λ parts. parts ++ parts_on card) rows
    else unwrap_or (option_map (insert rows (row_place_among action under rows)) (row_of card)) rows

-- the columns with the card's column put next to the anchor, or with its entries added to the column that it goes on with
abbrev pub column_inserted : Action → Under → Reading → List (Group (Entry Name)) → List (Group (Entry Name))
column_inserted action under card columns =
    if goes_on_from under card then in_group card.name1 (λ entries. entries ++ entries_of card) columns
    else insert columns (place_among action under.anchor (length under.names) (group_names columns)) (record { name = card.name1; items = entries_of card })

abbrev pub rows_edited : Action → Under → Reading → Problem Name → Problem Name
rows_edited Modify under card problem = record problem { rows = modify_row card problem.rows }
rows_edited Delete under card problem = delete_row card.name1 problem
rows_edited action under card problem = record problem { rows = row_inserted action under card problem.rows }

abbrev pub columns_edited : Action → Under → Reading → Problem Name → Problem Name
columns_edited Modify under card problem = record problem { columns = in_group card.name1 (put_entries (entries_of card)) problem.columns }
columns_edited Delete under card problem =
    if is_empty card.name2 then delete_column card.name1 problem
    else record problem { columns = in_group card.name1 (without_row card.name2) problem.columns }
columns_edited action under card problem = record problem { columns = column_inserted action under card problem.columns }

-- the problem after the edit of a data card
abbrev pub edited_by : Section → Action → Under → Reading → Problem Name → Problem Name
edited_by Rows action under card problem = rows_edited action under card problem
edited_by Columns action under card problem = columns_edited action under card problem
edited_by Rhs action under card problem = record problem { rhs = edit_sets action card problem.rhs }
edited_by Ranges action under card problem = record problem { ranges = edit_sets action card problem.ranges }
edited_by Bounds action under card problem = record problem { bounds = edit_bounds action card problem.bounds }
edited_by Header action under card problem = problem
edited_by Endata action under card problem = problem
