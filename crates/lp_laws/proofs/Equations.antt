-- The vectors that keep the equations: sums, differences and multiples of them keep the equations too.
use Rattle.std.proofs.Common.{◌≡◌, ℕ, suc, ◌+◌, refl, sym, ap, ap₂, ◌∙◌, arith}
use Rattle.exact_values.specs.Rational.{ℚ, zero_ℚ, ◌+ℚ◌, ◌-ℚ◌, ◌*ℚ◌}
use Rattle.exact_values.proofs.Ring.{by_ring3, ◌⊕◌, ◌⊖◌, ◌⊗◌, ◌≐◌}
use Rattle.exact_values.proofs.RingLaws.{mul-zero, mul_left_comm}
use Rattle.exact_values.proofs.Sums.{sum_to-same, sum_to-zero, sum_to-add, sum_to-sub, sum_to-mul_left}
use Rattle.lp_definitions.specs.LinearProgram.{Matrix, Vector, entry, IsVariable, KeepsEquations}
use Rattle.lp_laws.specs.Vectors.{along}

module _ (a : Matrix) where
  pub KeepsEquations-add : (d e : Vector) → KeepsEquations a d → KeepsEquations a e → KeepsEquations a (λ k. d k +ℚ e k)
  KeepsEquations-add d e first second i row =
      ap₂ ◌+ℚ◌ (first i row) (second i row)
      ∙ sym (sum_to-add a.cols (λ j. entry a i (suc j) *ℚ d (a.rows + suc j)) (λ j. entry a i (suc j) *ℚ e (a.rows + suc j)))
      ∙ sum_to-same a.cols _ _ (λ j _. by_ring3 (entry a i (suc j)) (d (a.rows + suc j)) (e (a.rows + suc j)) (λ a d e. a ⊗ d ⊕ a ⊗ e ≐ a ⊗ (d ⊕ e)) refl)

  pub KeepsEquations-sub : (d e : Vector) → KeepsEquations a d → KeepsEquations a e → KeepsEquations a (λ k. d k -ℚ e k)
  KeepsEquations-sub d e first second i row =
      ap₂ ◌-ℚ◌ (first i row) (second i row)
      ∙ sym (sum_to-sub a.cols (λ j. entry a i (suc j) *ℚ d (a.rows + suc j)) (λ j. entry a i (suc j) *ℚ e (a.rows + suc j)))
      ∙ sum_to-same a.cols _ _ (λ j _. by_ring3 (entry a i (suc j)) (d (a.rows + suc j)) (e (a.rows + suc j)) (λ a d e. a ⊗ d ⊖ a ⊗ e ≐ a ⊗ (d ⊖ e)) refl)

  pub KeepsEquations-scale : (u : ℚ) (d : Vector) → KeepsEquations a d → KeepsEquations a (λ k. u *ℚ d k)
  KeepsEquations-scale u d keeps i row =
      ap (λ x. u *ℚ x) (keeps i row)
      ∙ sym (sum_to-mul_left a.cols u (λ j. entry a i (suc j) *ℚ d (a.rows + suc j)))
      ∙ sum_to-same a.cols _ _ (λ j _. mul_left_comm u (entry a i (suc j)) (d (a.rows + suc j)))

  pub KeepsEquations-along : (z : Vector) (t : ℚ) (d : Vector) → KeepsEquations a z → KeepsEquations a d → KeepsEquations a (along z t d)
  KeepsEquations-along z t d first second = KeepsEquations-add z (λ k. t *ℚ d k) first (KeepsEquations-scale t d second)

  pub KeepsEquations-zero : KeepsEquations a (λ k. zero_ℚ)
  KeepsEquations-zero i row = sym (sum_to-zero a.cols _ (λ j _. mul-zero (entry a i (suc j))))

  -- a vector with the same values
  pub KeepsEquations-same : (d e : Vector) → ((k : ℕ) → IsVariable a k → d k ≡ e k) → KeepsEquations a d → KeepsEquations a e
  KeepsEquations-same d e same keeps i row =
      sym (same i (row.0, omega (arith, row.1)))
      ∙ keeps i row
      ∙ sum_to-same a.cols _ _ (λ j below. ap (λ x. entry a i (suc j) *ℚ x) (same (a.rows + suc j) (omega arith, omega (arith, below))))
