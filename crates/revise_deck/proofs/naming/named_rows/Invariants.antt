-- The list so far is that of the elements before the present one.
use Rattle.std.proofs.Common.{◌≡◌, map, take}
use Rattle.problem_definitions.specs.Names.{name_at}
use Rattle.problem_definitions.specs.Numbering.{row_by}
use Rattle.revise_deck.proofs.naming.named_rows.Given as goal

abbrev pub invariant-loop-row : goal.invariant-loop-row
invariant-loop-row l = l.list ≡ map (row_by (name_at (map (λ row. row.name) l.rows))) (take l.row-index l.rows)
