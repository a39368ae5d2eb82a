use Rattle.std.proofs.Common.{◌≡◌, ◌≤◌, ℕ, vec_len}
use Rattle.lp_definitions.specs.LinearProgram.{value_at}
use Rattle.bounded_primal.specs.Turns.{ray_from}
use Rattle.bounded_primal.proofs.turns.ray_of.Given as goal

abbrev pub invariant-loop-k : goal.invariant-loop-k
invariant-loop-k l =
    record { places : vec_len l.values ≡ l.k; ray : (j : ℕ) → 1 ≤ j → j ≤ l.k → value_at l.values.items j ≡ ray_from (value_at l.rates) l.r l.below j }
