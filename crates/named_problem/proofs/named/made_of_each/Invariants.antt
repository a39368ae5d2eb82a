-- What was made so far, and what is to be made of the names that are left, are all.
use Rattle.std.proofs.Common.{◌≡◌, ◌++◌, map}
use Rattle.named_problem.specs.Made.{MakesEach}
use Rattle.named_problem.proofs.named.made_of_each.Given as goal

abbrev pub invariant-loop-name : goal.invariant-loop-name
invariant-loop-name g l =
    (made : _) → MakesEach (goal.F-post g l.make) made → l.list.items ++ map made l.name-iterator ≡ map made l.values.entries
