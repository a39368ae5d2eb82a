use Rattle.std.proofs.Common.{◌≡◌, ℕ, take}
use Rattle.std.specs.List.{enumerate_from, filter_map}
use Rattle.problem_definitions.specs.Problem.{Row}
use Rattle.selection_definitions.specs.Combinations.{value_in, on_combination}
use Rattle.lp_setup.proofs.combined.numbers_on_combinations.Given as goal

-- the numbers on the combinations among the rows so far are there
abbrev pub invariant-loop-place : goal.invariant-loop-place
invariant-loop-place l =
    l.numbers.items ≡ filter_map (λ (row : ℕ × Row ℕ). on_combination row.0 (value_in l.values row.0) row.1.parts) (take l.place (enumerate_from 1 l.rows))
