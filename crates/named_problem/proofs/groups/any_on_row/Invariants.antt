-- Whether one of the groups that are left has an item on the row is whether one of all has.
use Rattle.std.proofs.Common.{◌≡◌, map}
use Rattle.std.specs.List.{list_any}
use Rattle.problem_definitions.specs.Problem.{has_entry}
use Rattle.named_problem.specs.Views.{group_at}
use Rattle.named_problem.proofs.groups.any_on_row.Given as goal

abbrev pub invariant-loop-items : goal.invariant-loop-items
invariant-loop-items l =
    list_any (λ group. has_entry group.items l.row) (map group_at l.items-iterator) ≡ list_any (λ group. has_entry group.items l.row)
    (map group_at l.groups.entries)
