-- Prices less a multiple of a row, place by place.
use Rattle.std.proofs.Common.{◌≡◌, ℕ, ◌+◌, sym, ◌∙◌}
use Rattle.exact_values.specs.Rational.{ℚ, zero_ℚ, ◌-ℚ◌, ◌*ℚ◌}
use Rattle.lp_definitions.specs.LinearProgram.{Vector}
use Rattle.lp_laws.proofs.Idle.{right_nothing, right_difference}
use Rattle.bounded_primal.proofs.Still.{and_next}
use Rattle.dual_step.specs.Prices.{IsTaken}

-- one place more, whose rate is 0
pub taken_past : (t : ℚ) (x w v : Vector) (n : ℕ) → x (n + 1) ≡ zero_ℚ → v (n + 1) ≡ w (n + 1) → IsTaken t x w n v → IsTaken t x w (n + 1) v
taken_past t x w v n none same h =
    and_next (λ k. v k ≡ w k -ℚ t *ℚ x k) n h (same ∙ right_difference (w (n + 1)) (t *ℚ x (n + 1)) (sym (right_nothing t (x (n + 1)) none) ∙ none))
