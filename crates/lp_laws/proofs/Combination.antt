-- A vector that keeps the equations is the sum of the directions, each times the value of its nonbasic.
use Rattle.std.proofs.Common.{◌≡◌, ◌≢◌, ℕ, zero, suc, ◌+◌, ◌<◌, pos, refl, sym, ◌∙◌, ap, Bool, true, false, cond, arith}
use Rattle.std.specs.Prelude.{nat_eq, if◌then◌else◌}
use Rattle.exact_values.specs.Rational.{ℚ, zero_ℚ, one_ℚ, ◌-ℚ◌, ◌*ℚ◌, neg_ℚ}
use Rattle.exact_values.specs.Sums.{sum_to}
use Rattle.exact_values.proofs.Ring.{by_ring2, opposite, number, ◌⊖◌, ◌⊗◌, ◌≐◌}
use Rattle.exact_values.proofs.RingLaws.{mul-one, mul-zero, zero-mul, mul_left_comm}
use Rattle.exact_values.proofs.Sums.{sum_to-same, sum_to-zero, sum_to-sub, sum_to-mul_left, sum_to-exchange, sum_to-only}
use Rattle.lp_definitions.specs.LinearProgram.{Matrix, Vector, size, entry, IsRow, IsColumn, IsVariable, KeepsEquations}
use Rattle.lp_definitions.specs.Basis.{Basics, is_in, IsBasic, IsNonbasic, IsNonsingular, AreRates}
use Rattle.lp_definitions.specs.RatesEvidence.{multiplier}
use Rattle.lp_laws.specs.Vectors.{functional, column_value, unit}
use Rattle.lp_laws.specs.Rates.{weight, combination}
use Rattle.lp_laws.proofs.Values.{clash, sub-self}
use Rattle.lp_laws.proofs.Equations.{KeepsEquations-same}
use Rattle.lp_laws.proofs.Functionals.{functional_at_unit, KeepsEquations-unit}
use Rattle.lp_laws.proofs.Uniqueness.{same_from_nonbasics}

module _ (a : Matrix) (b : Basics) (rate : ℕ → ℕ → ℚ) (are : AreRates a b rate) where
  -- the part of a row's equation that one variable has
  part : (v : Vector) (i : ℕ) → IsRow a i → (j : ℕ) → IsVariable a j → (mark : Bool) → is_in b j ≡ mark
      → cond mark zero_ℚ (v j) *ℚ rate i j ≡ sum_to a.cols (λ c. entry a i (suc c) *ℚ (cond mark zero_ℚ (v j) *ℚ rate (a.rows + suc c) j))
  part v i row j var true mark =
      zero-mul (rate i j)
      ∙ sym (sum_to-zero a.cols _ (λ c _. ap (λ y. entry a i (suc c) *ℚ y) (zero-mul (rate (a.rows + suc c) j)) ∙ mul-zero (entry a i (suc c))))
  part v i row j var false mark =
      ap (λ x. v j *ℚ x) ((are j (var, mark)).keeps i row)
      ∙ sym (sum_to-mul_left a.cols (v j) (λ c. entry a i (suc c) *ℚ rate (a.rows + suc c) j))
      ∙ sum_to-same a.cols _ _ (λ c _. mul_left_comm (v j) (entry a i (suc c)) (rate (a.rows + suc c) j))

  pub combination_keeps : (v : Vector) → KeepsEquations a (combination a b rate v)
  combination_keeps v i row =
      sum_to-same (size a) _ _ (λ j below. part v i row (suc j) (omega arith, omega (arith, below)) (is_in b (suc j)) refl)
      ∙ sum_to-exchange (size a) a.cols (λ j c. entry a i (suc c) *ℚ (weight b v (suc j) *ℚ rate (a.rows + suc c) (suc j)))
      ∙ sum_to-same a.cols _ _ (λ c _. sum_to-mul_left (size a) (entry a i (suc c)) (λ j. weight b v (suc j) *ℚ rate (a.rows + suc c) (suc j)))

  -- at a nonbasic it has the value given
  pub combination_at : (v : Vector) (k : ℕ) → IsNonbasic a b k → combination a b rate v k ≡ v k
  combination_at v zero out = absurd (omega (arith, out.0.0))
  combination_at v (suc k) out =
      sum_to-only (size a) k (λ j. weight b v (suc j) *ℚ rate (suc k) (suc j)) (omega (arith, out.0.1))
      (λ j below other. apart j below other (is_in b (suc j)) refl)
      ∙ rw out.1 (ap (λ x. v (suc k) *ℚ x) (are (suc k) out).own ∙ mul-one (v (suc k)))
    where
      apart : (j : ℕ) → j < size a → j ≢ k → (mark : Bool) → is_in b (suc j) ≡ mark → cond mark zero_ℚ (v (suc j)) *ℚ rate (suc k) (suc j) ≡ zero_ℚ
      apart j below other true mark = zero-mul (rate (suc k) (suc j))
      apart j below other false mark =
          ap (λ x. v (suc j) *ℚ x) ((are (suc j) ((omega arith, omega (arith, below)), mark)).others (suc k) out (λ e. other (omega (arith, e))))
          ∙ mul-zero (v (suc j))

  module _ (one : IsNonsingular a b) where
    -- each value of a vector that keeps the equations is the sum of the rates, each times the value of its nonbasic
    pub by_nonbasics : (x : Vector) → KeepsEquations a x → (i : ℕ) → IsVariable a i → x i ≡ combination a b rate x i
    by_nonbasics x keeps = same_from_nonbasics a b x (combination a b rate x) one keeps (combination_keeps x) (λ k out. sym (combination_at x k out))

    -- ---- the row of a basic, as a functional that vanishes

    -- what the multipliers of the basic r count, variable by variable: r itself, and then the nonbasics
    counted : (r : ℕ) → IsBasic a b r → (x : Vector) (k : ℕ) → multiplier b rate r k *ℚ x k ≡ (if nat_eq k r then x k else zero_ℚ) -ℚ weight b x k *ℚ rate r k
    counted r basic x k = at (is_in b k) refl (nat_eq k r) refl
      where
        r_is : (k ≡ r) → is_in b k ≡ true
        r_is e = ap (is_in b) e ∙ basic.1

        same_number : nat_eq k r ≡ true → k ≡ r
        same_number e = grind arith

        at : (mark : Bool) → is_in b k ≡ mark → (same : Bool) → nat_eq k r ≡ same
            → cond mark (cond same one_ℚ zero_ℚ) (neg_ℚ (rate r k)) *ℚ x k ≡ cond same (x k) zero_ℚ -ℚ cond mark zero_ℚ (x k) *ℚ rate r k
        at true mark true same = by_ring2 (x k) (rate r k) (λ x r. number (pos 1) ⊗ x ≐ x ⊖ number (pos 0) ⊗ r) refl
        at true mark false same = by_ring2 (x k) (rate r k) (λ x r. number (pos 0) ⊗ x ≐ number (pos 0) ⊖ number (pos 0) ⊗ r) refl
        at false mark true same = absurd (clash (sym (r_is (same_number same)) ∙ mark))
        at false mark false same = by_ring2 (x k) (rate r k) (λ x r. opposite r ⊗ x ≐ number (pos 0) ⊖ x ⊗ r) refl

    -- the multipliers of a basic's row value each vector that keeps the equations at nothing
    pub multiplier_vanishes : (r : ℕ) → IsBasic a b r → (x : Vector) → KeepsEquations a x → functional a (multiplier b rate r) x ≡ zero_ℚ
    multiplier_vanishes zero basic x keeps = absurd (omega (arith, basic.0.0))
    multiplier_vanishes (suc r) basic x keeps =
        sum_to-same (size a) _ _ (λ k _. counted (suc r) basic x (suc k))
        ∙ sum_to-sub (size a) (λ k. if nat_eq (suc k) (suc r) then x (suc k) else zero_ℚ) (λ k. weight b x (suc k) *ℚ rate (suc r) (suc k))
        ∙ ap (λ s. s -ℚ combination a b rate x (suc r)) own
        ∙ ap (λ s. s -ℚ combination a b rate x (suc r)) (by_nonbasics x keeps (suc r) basic.0)
        ∙ sub-self (combination a b rate x (suc r))
      where
        at_own : nat_eq (suc r) (suc r) ≡ true
        at_own = grind arith

        elsewhere : (k : ℕ) → k ≢ r → nat_eq (suc k) (suc r) ≡ false
        elsewhere k other = grind arith

        own : sum_to (size a) (λ k. if nat_eq (suc k) (suc r) then x (suc k) else zero_ℚ) ≡ x (suc r)
        own =
            sum_to-only (size a) r (λ k. if nat_eq (suc k) (suc r) then x (suc k) else zero_ℚ) (omega (arith, basic.0.1))
            (λ k below other. ap (λ t. cond t (x (suc k)) zero_ℚ) (elsewhere k other))
            ∙ ap (λ t. cond t (x (suc r)) zero_ℚ) at_own

    -- so they vanish on each column
    pub multiplier_on_column : (r : ℕ) → IsBasic a b r → (j : ℕ) → IsColumn a j → column_value a (multiplier b rate r) j ≡ zero_ℚ
    multiplier_on_column r basic j is =
        sym (functional_at_unit a (multiplier b rate r) j is) ∙ multiplier_vanishes r basic (unit a j) (KeepsEquations-unit a j is)

-- a vector that has, at each variable, the sum of the rates times the values of its nonbasics keeps the equations
pub KeepsEquations-from_nonbasics : (a : Matrix) (b : Basics) (rate : ℕ → ℕ → ℚ) → AreRates a b rate → (x : Vector) →
    ((i : ℕ) → IsVariable a i → x i ≡ combination a b rate x i) → KeepsEquations a x
KeepsEquations-from_nonbasics a b rate are x is = KeepsEquations-same a (combination a b rate x) x (λ k var. sym (is k var)) (combination_keeps a b rate are x)
