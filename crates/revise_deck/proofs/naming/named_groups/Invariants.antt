-- The list so far is that of the elements before the present one.
use Rattle.std.proofs.Common.{◌≡◌, map, take}
use Rattle.problem_definitions.specs.Names.{name_at}
use Rattle.problem_definitions.specs.Numbering.{entry_by, group_by}
use Rattle.revise_deck.proofs.naming.named_groups.Given as goal

abbrev pub invariant-loop-group : goal.invariant-loop-group
invariant-loop-group l = l.list ≡ map (group_by (entry_by (name_at (map (λ row. row.name) l.rows)))) (take l.group-index l.groups)
