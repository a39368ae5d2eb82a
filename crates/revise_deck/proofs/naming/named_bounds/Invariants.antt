-- The list so far is that of the elements before the present one.
use Rattle.std.proofs.Common.{◌≡◌, map, take}
use Rattle.problem_definitions.specs.Names.{name_at}
use Rattle.problem_definitions.specs.Numbering.{bound_by}
use Rattle.problem_definitions.specs.Problem.{group_names}
use Rattle.revise_deck.proofs.naming.named_bounds.Given as goal

abbrev pub invariant-loop-bound : goal.invariant-loop-bound
invariant-loop-bound l = l.list ≡ map (bound_by (name_at (group_names l.columns))) (take l.bound-index l.bounds)
