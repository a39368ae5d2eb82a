-- The names so far.
use Rattle.std.proofs.Common.{◌≡◌, map, take}
use Rattle.basis_deck.proofs.names.names_of_rows.Given as goal

abbrev pub invariant-loop-row : goal.invariant-loop-row
invariant-loop-row l = l.names ≡ map (λ row. row.name) (take l.row-index l.rows)
