-- The prices of a basis prove its point best where their signs are right.
use Rattle.std.proofs.Common.{◌≡◌, ℕ, suc, ◌+◌, List, pos, refl, sym, ◌∙◌, ap, ap₂, subst, Option, Some, None, Bool, true, false, cond, ◌⊎◌, inl, inr, arith}
use Rattle.exact_values.specs.Rational.{ℚ, zero_ℚ, ◌+ℚ◌, ◌-ℚ◌, ◌*ℚ◌, ◌<ℚ◌}
use Rattle.exact_values.specs.Sums.{sum_to}
use Rattle.exact_values.proofs.Ring.{by_ring1, by_ring2, by_ring4, opposite, number, ◌⊕◌, ◌⊖◌, ◌⊗◌, ◌≐◌}
use Rattle.exact_values.proofs.RingLaws.{mul_comm, zero-mul}
use Rattle.exact_values.proofs.Order.{lt_not_le, le_of_eq, lt_irrefl}
use Rattle.exact_values.proofs.Sums.{sum_to-same, sum_to-add, sum_to-mul_left}
use Rattle.lp_definitions.specs.LinearProgram.{LinearProgram, Vector, size, entry, cost, objective_value, with_change_row, for_min, lower_of, upper_of, IsRow}
use Rattle.lp_definitions.specs.LinearProgram.{IsColumn, IsVariable, KeepsEquations, IsLinearProgram}
use Rattle.lp_definitions.specs.Solutions.{IsBest, IsDualCertificate}
use Rattle.lp_definitions.specs.Basis.{Basics, is_in, is_basic, basics_of, status_of, IsAllowed, StandsAt, IsBasis, IsNonsingular, AreRates, IsPointOf, IsFixed}
use Rattle.lp_definitions.specs.Basis.{IsRightAt, IsOptimalBasis, objective_rate, price_at}
use Rattle.lp_definitions.specs.declared.Change.{Change}
use Rattle.lp_definitions.specs.declared.Sense.{Sense}
use Rattle.lp_definitions.specs.declared.Sense.TheVariants.{Min, Max}
use Rattle.lp_definitions.specs.declared.Status.{Status}
use Rattle.lp_definitions.specs.declared.Status.TheVariants.{Bs, Ll, Ul, Fr}
use Rattle.lp_laws.specs.Vectors.{functional, column_value, unit}
use Rattle.lp_laws.specs.Rates.{weight, combination}
use Rattle.lp_laws.proofs.Values.{clash}
use Rattle.lp_laws.proofs.Functionals.{change_row, functional_at_unit, objective_of_unit, KeepsEquations-unit}
use Rattle.lp_laws.proofs.Combination.{by_nonbasics}
use Rattle.lp_laws.proofs.Duality.{best_by_prices}
use Rattle.lp_laws.proofs.Statuses.{status_of_nonbasic}

module _ (p : LinearProgram) (lawful : IsLinearProgram p) (b : Basics) (one : IsNonsingular p.matrix b) (rate : ℕ → ℕ → ℚ)
    (are : AreRates p.matrix b rate) where
  -- the objective of a vector that keeps the equations is the sum of the objective's rates, each times the value of its nonbasic
  pub objective_by_nonbasics : (x : Vector) → KeepsEquations p.matrix x →
      objective_value p x ≡ sum_to (size p.matrix) (λ k. weight b x (suc k) *ℚ objective_rate p rate (suc k))
  objective_by_nonbasics x keeps = at p.change (change_row p p.change lawful.change_free)
    where
      row : (i : ℕ) → IsRow p.matrix i → x i ≡ combination p.matrix b rate x i
      row i is = by_nonbasics p.matrix b rate are one x keeps i (is.0, omega (arith, is.1))

      at : (c : Option Change) → ((d : Change) → c ≡ Some d → IsRow p.matrix d.row)
          → with_change_row c x (x p.objective) ≡ sum_to (size p.matrix)
          (λ k. weight b x (suc k) *ℚ with_change_row c (λ i. rate i (suc k)) (rate p.objective (suc k)))
      at None free = row p.objective lawful.objective_row
      at (Some c) free =
          ap₂ (λ u v. u +ℚ c.theta *ℚ v) (row p.objective lawful.objective_row) (row c.row (free c refl))
          ∙ ap (λ s. combination p.matrix b rate x p.objective +ℚ s)
          (sym (sum_to-mul_left (size p.matrix) c.theta (λ k. weight b x (suc k) *ℚ rate c.row (suc k))))
          ∙ sym (sum_to-add (size p.matrix) (λ k. weight b x (suc k) *ℚ rate p.objective (suc k)) (λ k. c.theta *ℚ (weight b x (suc k) *ℚ rate c.row (suc k))))
          ∙ sum_to-same (size p.matrix) _ _
          (λ k _. by_ring4 (weight b x (suc k)) (rate p.objective (suc k)) c.theta (rate c.row (suc k))
          (λ w o t h. w ⊗ o ⊕ t ⊗ (w ⊗ h) ≐ w ⊗ (o ⊕ t ⊗ h)) refl)

  -- so the prices value such a vector at its objective
  pub objective_by_rates : (x : Vector) → KeepsEquations p.matrix x → functional p.matrix (price_at p b rate) x ≡ objective_value p x
  objective_by_rates x keeps = sum_to-same (size p.matrix) _ _ (λ k _. term (suc k) (is_in b (suc k))) ∙ sym (objective_by_nonbasics x keeps)
    where
      term : (k : ℕ) (mark : Bool) → cond mark zero_ℚ (objective_rate p rate k) *ℚ x k ≡ cond mark zero_ℚ (x k) *ℚ objective_rate p rate k
      term k true = zero-mul (x k) ∙ sym (zero-mul (objective_rate p rate k))
      term k false = mul_comm (objective_rate p rate k) (x k)

  -- and count each column at its cost
  pub price_of_column : (j : ℕ) → IsColumn p.matrix j → column_value p.matrix (price_at p b rate) j ≡ cost p j
  price_of_column j is =
      sym (functional_at_unit p.matrix (price_at p b rate) j is)
      ∙ objective_by_rates (unit p.matrix j) (KeepsEquations-unit p.matrix j is)
      ∙ objective_of_unit p lawful j is

-- what a right sign says of a nonbasic with a positive, or a negative, price
at_lower_by_sign : (st : Status) (low high : Option ℚ) (v r : ℚ) → is_basic st ≡ false → StandsAt st low high v → IsRightAt st r → zero_ℚ <ℚ r → low ≡ Some v
at_lower_by_sign Bs low high v r out stands right positive = absurd (clash out)
at_lower_by_sign Ll low high v r out stands right positive = stands
at_lower_by_sign Ul low high v r out stands right positive = absurd (lt_not_le positive right)
at_lower_by_sign Fr low high v r out stands right positive = absurd (lt_not_le positive (le_of_eq right))

at_upper_by_sign : (st : Status) (low high : Option ℚ) (v r : ℚ) → is_basic st ≡ false → StandsAt st low high v → IsRightAt st r → r <ℚ zero_ℚ → high ≡ Some v
at_upper_by_sign Bs low high v r out stands right negative = absurd (clash out)
at_upper_by_sign Ll low high v r out stands right negative = absurd (lt_not_le negative right)
at_upper_by_sign Ul low high v r out stands right negative = stands
at_upper_by_sign Fr low high v r out stands right negative = absurd (lt_not_le negative (le_of_eq (sym right)))

-- a nonbasic that is fixed stands at both of its limits
at_fixed : (st : Status) (low high : Option ℚ) (u v : ℚ) → is_basic st ≡ false → IsAllowed st low high → StandsAt st low high v → low ≡ Some u → high ≡ Some u →
    (low ≡ Some v) × (high ≡ Some v)
at_fixed Bs low high u v out allowed stands at_low at_high = absurd (clash out)
at_fixed Ll low high u v out allowed stands at_low at_high = (stands, at_high ∙ sym at_low ∙ stands)
at_fixed Ul low high u v out allowed stands at_low at_high = (at_low ∙ sym at_high ∙ stands, stands)
at_fixed Fr low high u v out allowed stands at_low at_high = let P : low ≡ None → low ≡ Some u → ⊥ = λ e h. cc in absurd (P allowed.0 at_low)

pub for_min-zero : (s : Sense) → for_min s zero_ℚ ≡ zero_ℚ
for_min-zero Min = refl
for_min-zero Max = by_ring1 zero_ℚ (λ z. opposite (number (pos 0)) ≐ number (pos 0)) refl

module _ (p : LinearProgram) (lawful : IsLinearProgram p) (s : List Status) (basis : IsBasis p s) (one : IsNonsingular p.matrix (basics_of s))
    (rate : ℕ → ℕ → ℚ) (are : AreRates p.matrix (basics_of s) rate) where
  pub prices_prove : (z y : Vector) → IsPointOf p s z → ((k : ℕ) → IsVariable p.matrix k → y k ≡ price_at p (basics_of s) rate k)
      → ((k : ℕ) → IsVariable p.matrix k → IsFixed p k ⊎ IsRightAt (status_of s k) (for_min p.sense (objective_rate p rate k))) → IsDualCertificate p z y
  prices_prove z y point prices right = record { reduced = reduced; at_lower = at_lower; at_upper = at_upper }
    where
      counts : (j : ℕ) → IsColumn p.matrix j → y (p.rows + j) +ℚ sum_to p.rows (λ i. y (suc i) *ℚ entry p.matrix (suc i) j) ≡ cost p j
      counts j is =
          ap₂ ◌+ℚ◌ (prices (p.rows + j) (omega (arith, is.0), omega (arith, is.1)))
          (sum_to-same p.rows _ _ (λ i below. ap (λ x. x *ℚ entry p.matrix (suc i) j) (prices (suc i) (omega arith, omega (arith, below)))))
          ∙ price_of_column p lawful (basics_of s) one rate are j is

      reduced : (j : ℕ) → IsColumn p.matrix j → y (p.rows + j) ≡ cost p j -ℚ sum_to p.rows (λ i. y (suc i) *ℚ entry p.matrix (suc i) j)
      reduced j is =
          by_ring2 (y (p.rows + j)) (sum_to p.rows (λ i. y (suc i) *ℚ entry p.matrix (suc i) j)) (λ y s. y ≐ y ⊕ s ⊖ s) refl
          ∙ ap (λ c. c -ℚ sum_to p.rows (λ i. y (suc i) *ℚ entry p.matrix (suc i) j)) (counts j is)

      -- the price of a basic is 0, and that of a nonbasic the objective's rate
      of_basic : (k : ℕ) → IsVariable p.matrix k → is_in (basics_of s) k ≡ true → for_min p.sense (y k) ≡ zero_ℚ
      of_basic k is mark = ap (for_min p.sense) (prices k is ∙ ap (λ m. cond m zero_ℚ (objective_rate p rate k)) mark) ∙ for_min-zero p.sense

      of_nonbasic : (k : ℕ) → IsVariable p.matrix k → is_in (basics_of s) k ≡ false → for_min p.sense (y k) ≡ for_min p.sense (objective_rate p rate k)
      of_nonbasic k is mark = ap (for_min p.sense) (prices k is ∙ ap (λ m. cond m zero_ℚ (objective_rate p rate k)) mark)

      out_of : (k : ℕ) → IsVariable p.matrix k → is_in (basics_of s) k ≡ false → is_basic (status_of s k) ≡ false
      out_of k is mark = status_of_nonbasic p s basis k (is, mark)

      at_lower : (k : ℕ) → IsVariable p.matrix k → zero_ℚ <ℚ for_min p.sense (y k) → lower_of p k ≡ Some (z k)
      at_lower k is positive = at (is_in (basics_of s) k) refl (right k is)
        where
          at : (mark : Bool) → is_in (basics_of s) k ≡ mark → IsFixed p k ⊎ IsRightAt (status_of s k) (for_min p.sense (objective_rate p rate k)) →
              lower_of p k ≡ Some (z k)
          at true mark _ = absurd (lt_irrefl (subst (λ v. zero_ℚ <ℚ v) (of_basic k is mark) positive))
          at false mark (inl fixed) =
              (at_fixed (status_of s k) (lower_of p k) (upper_of p k) fixed.0 (z k) (out_of k is mark) (basis.allowed k is)
              (point.placed k is) fixed.1 fixed.2).0
          at false mark (inr signed) =
              at_lower_by_sign (status_of s k) (lower_of p k) (upper_of p k) (z k) (for_min p.sense (objective_rate p rate k)) (out_of k is mark)
              (point.placed k is) signed
              (subst (λ v. zero_ℚ <ℚ v) (of_nonbasic k is mark) positive)

      at_upper : (k : ℕ) → IsVariable p.matrix k → for_min p.sense (y k) <ℚ zero_ℚ → upper_of p k ≡ Some (z k)
      at_upper k is negative = at (is_in (basics_of s) k) refl (right k is)
        where
          at : (mark : Bool) → is_in (basics_of s) k ≡ mark → IsFixed p k ⊎ IsRightAt (status_of s k) (for_min p.sense (objective_rate p rate k)) →
              upper_of p k ≡ Some (z k)
          at true mark _ = absurd (lt_irrefl (subst (λ v. v <ℚ zero_ℚ) (of_basic k is mark) negative))
          at false mark (inl fixed) =
              (at_fixed (status_of s k) (lower_of p k) (upper_of p k) fixed.0 (z k) (out_of k is mark) (basis.allowed k is)
              (point.placed k is) fixed.1 fixed.2).1
          at false mark (inr signed) =
              at_upper_by_sign (status_of s k) (lower_of p k) (upper_of p k) (z k) (for_min p.sense (objective_rate p rate k)) (out_of k is mark)
              (point.placed k is) signed
              (subst (λ v. v <ℚ zero_ℚ) (of_nonbasic k is mark) negative)

-- the point of an optimal basis is best, and its prices prove it
pub prices_prove_optimal : (p : LinearProgram) → IsLinearProgram p → (s : List Status) → (optimal : IsOptimalBasis p s) →
    IsDualCertificate p optimal.tableau.point (price_at p (basics_of s) optimal.tableau.rate)
prices_prove_optimal p lawful s optimal =
    prices_prove p lawful s optimal.is_basis optimal.nonsingular optimal.tableau.rate optimal.is_tableau.are_rates
    optimal.tableau.point (price_at p (basics_of s) optimal.tableau.rate) optimal.is_tableau.is_point (λ k is. refl) optimal.right

pub best_by_basis : (p : LinearProgram) → IsLinearProgram p → (s : List Status) → (optimal : IsOptimalBasis p s) → IsBest p optimal.tableau.point
best_by_basis p lawful s optimal =
    best_by_prices p lawful optimal.tableau.point (price_at p (basics_of s) optimal.tableau.rate) optimal.feasible (prices_prove_optimal p lawful s optimal)
