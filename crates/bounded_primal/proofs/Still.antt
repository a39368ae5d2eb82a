-- What stands still in a motion reaches no limit; and a fact of each number up to the next.
use Rattle.std.proofs.Common.{◌≡◌, ℕ, ◌+◌, ◌≤◌, Bool, sym, ap, ◌∙◌, subst, add-one}
use Rattle.std.specs.Prelude.{None}
use Rattle.exact_values.specs.Rational.{ℚ, zero_ℚ, ◌+ℚ◌, ◌*ℚ◌}
use Rattle.exact_values.proofs.RingLaws.{zero-mul, zero-add, add-zero}
use Rattle.lp_definitions.specs.LinearProgram.{LinearProgram, Vector}
use Rattle.simplex_definitions.specs.Moves.{step_length, signed}
use Rattle.simplex_laws.proofs.Steps.{signed_zero}
use Rattle.basis_values.specs.Motions.{motion}
use Rattle.basis_values.proofs.Lengths.{none_ahead, no_length}
use Rattle.basis_values.proofs.Nearest.{up_to}

pub no_step_length : (p : LinearProgram) (z d : Vector) (up : Bool) (k : ℕ) → d k ≡ zero_ℚ → None ≡ step_length p z (motion d up) k
no_step_length p z d up k still = no_length p z (motion d up) k (none_ahead p k (motion d up k) (ap (signed up) still ∙ signed_zero up))

-- a fact of each number up to n, and of the next
pub and_next : (P : ℕ → Type 0) (n : ℕ) → ((k : ℕ) → 1 ≤ k → k ≤ n → P k) → P (n + 1) → (k : ℕ) → 1 ≤ k → k ≤ n + 1 → P k
and_next P n before here = subst (λ (m : ℕ). (k : ℕ) → 1 ≤ k → k ≤ m → P k) (sym (add-one n)) (up_to P n before (subst P (add-one n) here))

-- a step of 0
pub no_step : (t x d : ℚ) → t ≡ zero_ℚ → x ≡ x +ℚ t *ℚ d
no_step t x d e = sym (ap (λ u. x +ℚ u *ℚ d) e ∙ ap (λ u. x +ℚ u) (zero-mul d) ∙ add-zero x)

-- the sum with 0
pub from_nothing : (x y z : ℚ) → x ≡ zero_ℚ → z ≡ y → z ≡ x +ℚ y
from_nothing x y z e is = is ∙ sym (ap (λ u. u +ℚ y) e ∙ zero-add y)
