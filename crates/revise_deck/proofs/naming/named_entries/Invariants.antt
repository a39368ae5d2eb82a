-- The list so far is that of the elements before the present one.
use Rattle.std.proofs.Common.{◌≡◌, map, take}
use Rattle.problem_definitions.specs.Names.{name_at}
use Rattle.problem_definitions.specs.Numbering.{entry_by}
use Rattle.revise_deck.proofs.naming.named_entries.Given as goal

abbrev pub invariant-loop-entry : goal.invariant-loop-entry
invariant-loop-entry l = l.list ≡ map (entry_by (name_at (map (λ row. row.name) l.rows))) (take l.entry-index l.entries)
