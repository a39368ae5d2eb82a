-- The bodies of rows, and the rows that names with bodies stand for.
use Rattle.std.specs.Prelude.{List, option_map, unwrap_or}
use Rattle.card_definitions.specs.Fields.{Reading}
use Rattle.problem_definitions.specs.Names.{Name}
use Rattle.problem_definitions.specs.Problem.{Row, Entry}
use Rattle.deck_definitions.specs.DataCards.{kind_on, parts_on}
use Rattle.revise_definitions.specs.Edits.{put_entries}
use Rattle.named_problem.specs.declared.rows.RowBody.{RowBody}

-- the row that a name with a body stands for
abbrev pub row_at : Name × RowBody → Row Name
row_at e = record { kind = e.1.kind; name = e.0; parts = e.1.parts }

-- a body with other parts, if it is that of a combination
abbrev pub body_with : (List (Entry Name) → List (Entry Name)) → RowBody → RowBody
body_with change body = record { kind = body.kind; parts = option_map change body.parts }

-- a body with the type in field 1 of a card, and that of a combination with the card's parts put in
abbrev pub body_retyped : Reading → RowBody → RowBody
body_retyped card body = record { kind = unwrap_or (kind_on card) body.kind; parts = option_map (put_entries (parts_on card)) body.parts }
