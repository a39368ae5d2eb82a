-- The value of a functional at a vector that keeps the equations, column by column.
use Rattle.std.proofs.Common.{◌≡◌, ◌≢◌, ℕ, zero, suc, ◌+◌, ◌≤◌, refl, sym, ap, ap₂, ◌∙◌, arith, true, false, Some, None, Option}
use Rattle.std.specs.Prelude.{nat_eq, nat_le, cond}
use Rattle.exact_values.specs.Rational.{ℚ, zero_ℚ, one_ℚ, ◌+ℚ◌, ◌*ℚ◌}
use Rattle.exact_values.specs.Sums.{sum_to}
use Rattle.exact_values.proofs.Ring.{by_ring3, by_ring4, ◌⊕◌, ◌⊗◌, ◌≐◌}
use Rattle.exact_values.proofs.RingLaws.{add_comm, mul-one, mul-zero, mul_assoc}
use Rattle.exact_values.proofs.Sums.{sum_to-same, sum_to-add, sum_to-mul_left, sum_to-mul_right, sum_to-exchange, sum_to-append, sum_to-only}
use Rattle.lp_definitions.specs.LinearProgram.{Matrix, LinearProgram, Vector, entry, cost, objective_value, with_change_row, IsRow, IsColumn, KeepsEquations}
use Rattle.lp_definitions.specs.LinearProgram.{ChangeIsFree, IsLinearProgram}
use Rattle.lp_definitions.specs.declared.Change.{Change}
use Rattle.lp_laws.specs.Vectors.{functional, column_value, unit}

module _ (a : Matrix) where
  -- what the rows' multipliers come to over the columns is what they come to over the rows
  rows_value : (y x : Vector) → KeepsEquations a x
      → sum_to a.cols (λ j. sum_to a.rows (λ i. y (suc i) *ℚ entry a (suc i) (suc j)) *ℚ x (a.rows + suc j)) ≡ sum_to a.rows (λ i. y (suc i) *ℚ x (suc i))
  rows_value y x keeps =
      sum_to-same a.cols _ _ (λ j _. sym (sum_to-mul_right a.rows (x (a.rows + suc j)) (λ i. y (suc i) *ℚ entry a (suc i) (suc j))))
      ∙ sum_to-exchange a.cols a.rows (λ j i. y (suc i) *ℚ entry a (suc i) (suc j) *ℚ x (a.rows + suc j))
      ∙ sum_to-same a.rows _ _ (λ i within.
      sum_to-same a.cols _ _ (λ j _. mul_assoc (y (suc i)) (entry a (suc i) (suc j)) (x (a.rows + suc j)))
      ∙ sum_to-mul_left a.cols (y (suc i)) (λ j. entry a (suc i) (suc j) *ℚ x (a.rows + suc j))
      ∙ ap (λ s. y (suc i) *ℚ s) (sym (keeps (suc i) (omega arith, omega (arith, within)))))

  pub functional_by_columns : (y x : Vector) → KeepsEquations a x → functional a y x ≡ sum_to a.cols (λ j. column_value a y (suc j) *ℚ x (a.rows + suc j))
  functional_by_columns y x keeps =
      sum_to-append a.rows a.cols (λ k. y (suc k) *ℚ x (suc k))
      ∙ add_comm (sum_to a.rows (λ i. y (suc i) *ℚ x (suc i))) (sum_to a.cols (λ j. y (suc (a.rows + j)) *ℚ x (suc (a.rows + j))))
      ∙ ap₂ ◌+ℚ◌ (sum_to-same a.cols _ _ (λ j _. ap (λ k. y k *ℚ x k) (omega arith))) (sym (rows_value y x keeps))
      ∙ sym (sum_to-add a.cols (λ j. y (a.rows + suc j) *ℚ x (a.rows + suc j))
      (λ j. sum_to a.rows (λ i. y (suc i) *ℚ entry a (suc i) (suc j)) *ℚ x (a.rows + suc j)))
      ∙ sum_to-same a.cols _ _
      (λ j _. by_ring3 (y (a.rows + suc j)) (sum_to a.rows (λ i. y (suc i) *ℚ entry a (suc i) (suc j))) (x (a.rows + suc j))
      (λ y s x. y ⊗ x ⊕ s ⊗ x ≐ (y ⊕ s) ⊗ x) refl)

  -- ---- units

  row_part : (j k : ℕ) → k ≤ a.rows → unit a j k ≡ entry a k j
  row_part j k low = let in_rows : nat_le k a.rows ≡ true = grind arith in rw in_rows

  column_part : (j c : ℕ) → 1 ≤ c → unit a j (a.rows + c) ≡ cond (nat_eq (a.rows + c) (a.rows + j)) one_ℚ zero_ℚ
  column_part j c some = let outside : nat_le (a.rows + c) a.rows ≡ false = grind arith in rw outside

  pub unit_own : (j : ℕ) → 1 ≤ j → unit a j (a.rows + j) ≡ one_ℚ
  unit_own j some = let same : nat_eq (a.rows + j) (a.rows + j) ≡ true = grind arith in column_part j j some ∙ ap (λ b. cond b one_ℚ zero_ℚ) same

  pub unit_other : (j c : ℕ) → 1 ≤ c → c ≢ j → unit a j (a.rows + c) ≡ zero_ℚ
  unit_other j c some other = let apart : nat_eq (a.rows + c) (a.rows + j) ≡ false = grind arith in column_part j c some ∙ ap (λ b. cond b one_ℚ zero_ℚ) apart

  pub unit_row : (j i : ℕ) → IsRow a i → unit a j i ≡ entry a i j
  unit_row j i row = row_part j i row.1

  -- a sum over the columns of a unit has one term
  sum_of_unit : (f : ℕ → ℚ) (j : ℕ) → IsColumn a j → sum_to a.cols (λ c. f (suc c) *ℚ unit a j (a.rows + suc c)) ≡ f j
  sum_of_unit f zero is = absurd (omega (arith, is.0))
  sum_of_unit f (suc j) is =
      sum_to-only a.cols j (λ c. f (suc c) *ℚ unit a (suc j) (a.rows + suc c)) (omega (arith, is.1))
      (λ c below other. ap (λ s. f (suc c) *ℚ s) (unit_other (suc j) (suc c) (omega arith) (λ e. other (omega (arith, e)))) ∙ mul-zero (f (suc c)))
      ∙ ap (λ s. f (suc j) *ℚ s) (unit_own (suc j) (omega arith)) ∙ mul-one (f (suc j))

  pub KeepsEquations-unit : (j : ℕ) → IsColumn a j → KeepsEquations a (unit a j)
  KeepsEquations-unit j is i row = unit_row j i row ∙ sym (sum_of_unit (λ c. entry a i c) j is)

  pub functional_at_unit : (y : Vector) (j : ℕ) → IsColumn a j → functional a y (unit a j) ≡ column_value a y j
  functional_at_unit y j is = functional_by_columns y (unit a j) (KeepsEquations-unit j is) ∙ sum_of_unit (column_value a y) j is

  -- functionals that agree on the vectors that keep the equations count each column the same, and the other way round
  pub same_columns : (y w : Vector) → ((x : Vector) → KeepsEquations a x → functional a y x ≡ functional a w x) → (j : ℕ) → IsColumn a j →
      column_value a y j ≡ column_value a w j
  same_columns y w agree j is = sym (functional_at_unit y j is) ∙ agree (unit a j) (KeepsEquations-unit j is) ∙ functional_at_unit w j is

  pub same_functionals : (y w : Vector) → ((j : ℕ) → IsColumn a j → column_value a y j ≡ column_value a w j) → (x : Vector) → KeepsEquations a x →
      functional a y x ≡ functional a w x
  same_functionals y w same x keeps =
      functional_by_columns y x keeps
      ∙ sum_to-same a.cols _ _ (λ j below. ap (λ s. s *ℚ x (a.rows + suc j)) (same (suc j) (omega arith, omega (arith, below))))
      ∙ sym (functional_by_columns w x keeps)

  -- ---- the objective

  -- a row, with a change row if there is one, is the sum of what the columns have on it
  combined_by_columns : (o : ℕ) (c : Option Change) (x : Vector) → KeepsEquations a x → IsRow a o → ((d : Change) → c ≡ Some d → IsRow a d.row)
      → with_change_row c x (x o) ≡ sum_to a.cols (λ j. with_change_row c (λ i. entry a i (suc j)) (entry a o (suc j)) *ℚ x (a.rows + suc j))
  combined_by_columns o None x keeps row free = keeps o row
  combined_by_columns o (Some d) x keeps row free =
      ap₂ (λ u v. u +ℚ d.theta *ℚ v) (keeps o row) (keeps d.row (free d refl))
      ∙ ap (λ s. sum_to a.cols (λ j. entry a o (suc j) *ℚ x (a.rows + suc j)) +ℚ s)
      (sym (sum_to-mul_left a.cols d.theta (λ j. entry a d.row (suc j) *ℚ x (a.rows + suc j))))
      ∙ sym (sum_to-add a.cols (λ j. entry a o (suc j) *ℚ x (a.rows + suc j)) (λ j. d.theta *ℚ (entry a d.row (suc j) *ℚ x (a.rows + suc j))))
      ∙ sum_to-same a.cols _ _
      (λ j _. by_ring4 (entry a o (suc j)) d.theta (entry a d.row (suc j)) (x (a.rows + suc j)) (λ a t h x. a ⊗ x ⊕ t ⊗ (h ⊗ x) ≐ (a ⊕ t ⊗ h) ⊗ x) refl)

pub change_row : (p : LinearProgram) (c : Option Change) → ChangeIsFree p c → (d : Change) → c ≡ Some d → IsRow p.matrix d.row
change_row p None free d e = absurd (let P : None ≡ Some d → ⊥ = λ e. cc in P e)
change_row p (Some c) free d e = let same : c ≡ d = cc in rw (← same) free.0

-- the objective is the sum of the columns' costs
pub objective_by_columns : (p : LinearProgram) → IsLinearProgram p → (x : Vector) → KeepsEquations p.matrix x
    → objective_value p x ≡ sum_to p.cols (λ j. cost p (suc j) *ℚ x (p.rows + suc j))
objective_by_columns p lawful x keeps =
    combined_by_columns p.matrix p.objective p.change x keeps lawful.objective_row (change_row p p.change lawful.change_free)

-- a column's cost is the objective of its unit
pub objective_of_unit : (p : LinearProgram) → IsLinearProgram p → (j : ℕ) → IsColumn p.matrix j → objective_value p (unit p.matrix j) ≡ cost p j
objective_of_unit p lawful j is = at p.change (change_row p p.change lawful.change_free)
  where
    at : (c : Option Change) → ((d : Change) → c ≡ Some d → IsRow p.matrix d.row)
        → with_change_row c (unit p.matrix j) (unit p.matrix j p.objective) ≡ with_change_row c (λ i. entry p.matrix i j) (entry p.matrix p.objective j)
    at None free = unit_row p.matrix j p.objective lawful.objective_row
    at (Some d) free = ap₂ (λ u v. u +ℚ d.theta *ℚ v) (unit_row p.matrix j p.objective lawful.objective_row) (unit_row p.matrix j d.row (free d refl))
