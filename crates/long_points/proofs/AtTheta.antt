-- The tests at a value of the parameter.
use Rattle.std.proofs.Common.{◌≡◌, ℕ, ◌+◌, ◌-◌, ◌≤◌, List, [], refl, sym, ap, ap₂, subst, ◌∙◌, pos, arith, All}
use Rattle.std.specs.Prelude.{ℤ, ◌&&◌}
use Rattle.exact_values.specs.Rational.{ℚ, whole, zero_ℚ, ◌-ℚ◌, ◌*ℚ◌, ◌<ℚ◌, compare_ℚ}
use Rattle.exact_values.proofs.Ring.{by_ring2, ◌⊖◌, ◌⊗◌, ◌≐◌, number}
use Rattle.exact_values.specs.Tests.{eq_ℚ}
use Rattle.lp_definitions.specs.LinearProgram.{LinearProgram, Matrix, Vector, IsMatrix, IsColumn, column, entry, cost, size, value_at}
use Rattle.lp_definitions.specs.declared.Entry.{Entry}
use Rattle.check_definitions.specs.Steps.{sum_steps, sum_of}
use Rattle.check_definitions.specs.Checks.{row_products, equation, equations, entry_products, column_products, combined_steps, reduced_cost, within_limit}
use Rattle.check_definitions.specs.Checks.{standing_price}
use Rattle.long_programs.specs.declared.programs.ChangeAt.{ChangeAt}
use Rattle.long_programs.specs.declared.programs.ChangeAt.TheVariants.{Unchanged, Row, Set}
use Rattle.long_programs.specs.Programs.{program_of}
use Rattle.long_programs.proofs.Moves.{matrix_at}
use Rattle.long_programs.proofs.Compared.{compare_scaled}
use Rattle.problem_definitions.specs.Problem.{Problem}
use Rattle.walk_definitions.specs.Tests.{slack_steps}
use Rattle.std.proofs.lemmas.Bool.{and_parts}
use Rattle.long_points.specs.Tests.{equation_test, limit_test, cost_test, price_test, slack_test, keep_test}
use Rattle.long_points.specs.Ends.{Points, kept_steps, keeping_test}
use Rattle.long_points.proofs.Holds.{Reads, append_hold, sums_hold, change_holds}
use Rattle.check_definitions.proofs.Holding.{hold-append, last_holds}

-- a number that compares with 0 as its whole number does
pub sign_over : (x d t : ℚ) → zero_ℚ <ℚ d → t ≡ x *ℚ d → compare_ℚ t zero_ℚ ≡ compare_ℚ x zero_ℚ
sign_over x d t positive is = compare_scaled x zero_ℚ d t positive (is ∙ by_ring2 x d (λ x d. x ⊗ d ≐ (x ⊖ number (pos 0)) ⊗ d) refl)

-- the rows of a column are variables
pub rows_within : (p : LinearProgram) → IsMatrix p.matrix → (j : ℕ) → IsColumn p.matrix j → (n : ℕ) → n ≡ size p.matrix → (es : List Entry) →
    es ≡ column p.matrix j → All (λ (e : Entry). (1 ≤ e.row) × (e.row ≤ n)) es
rows_within p m j is n counted es are =
    subst (λ (es : List Entry). All (λ (e : Entry). (1 ≤ e.row) × (e.row ≤ n)) es) (sym are)
    (λ k d below. let row = m.on_rows (j - 1) [] (omega (arith, m.columns_counted, is.0, is.1)) k d below in (row.0, omega (arith, row.1, counted)))

pub equations_at : (p : LinearProgram) (change : ChangeAt) (theta : ℚ) (part : ℕ) (z : Vector) →
    equations (program_of p change theta) part z ≡ equations p part z
equations_at p Unchanged theta part z = refl
equations_at p (Row h) theta part z = refl
equations_at p (Set shift) theta part z = refl

pub cost_test_at : (p : LinearProgram) (change : ChangeAt) (theta : ℚ) (y : Vector) (j : ℕ) →
    cost_test (program_of p change theta) y j ≡ eq_ℚ (cost (program_of p change theta) j -ℚ sum_of zero_ℚ (column_products p y j)) (y (p.rows + j))
cost_test_at p change theta y j =
    ap (λ (a : Matrix). eq_ℚ (cost (program_of p change theta) j -ℚ sum_of zero_ℚ (entry_products y (column a j))) (y (a.rows + j))) (matrix_at p change theta)

-- ---- the steps of each number

module _ (p : LinearProgram) where
  pub reads_equation : (part : ℕ) (z : Vector) → Reads (equation p part z) (equation_test p z)
  reads_equation part z i = (
    (λ e. append_hold (sum_steps zero_ℚ (row_products p z i)) _ (sums_hold zero_ℚ (row_products p z i)) (e, tt)),
    (λ h. last_holds (sum_steps zero_ℚ (row_products p z i)) part i (equation_test p z i) h),
  )

  pub reads_limit : (z : Vector) → Reads (within_limit p z) (limit_test p z)
  reads_limit z k = ((λ e. (e, tt)), (λ h. h.0))

  pub reads_price : (z y : Vector) → Reads (standing_price p z y) (price_test p z y)
  reads_price z y k = ((λ e. (e, tt)), (λ h. h.0))

  pub reads_cost : (y : Vector) → Reads (reduced_cost p y) (cost_test p y)
  reads_cost y j = (
    (λ e. append_hold (combined_steps p (λ i. entry p.matrix i j)) _ (change_holds p.change (λ i. entry p.matrix i j) (entry p.matrix p.objective j))
        (append_hold (sum_steps zero_ℚ (column_products p y j)) _ (sums_hold zero_ℚ (column_products p y j)) (e, tt))),
    (λ h.
        let priced = hold-append (combined_steps p (λ i. entry p.matrix i j)) _ h in
        let summed = hold-append (sum_steps zero_ℚ (column_products p y j)) _ priced.1 in
        summed.1.0),
  )

  pub reads_slack : (problem : Problem ℕ) (z slack : Vector) → Reads (slack_steps (record { problem = problem; lp = p }) z slack) (slack_test p z slack)
  reads_slack problem z slack i = ((λ e. (e, tt)), (λ h. h.0))

pub reads_keeping : (p q : LinearProgram) (first last : Points) → Reads (kept_steps p q first last) (keeping_test p q first last)
reads_keeping p q first last k = (
  (λ e.
      let both =
      and_parts (keep_test p q (value_at first.point) (value_at last.point) (value_at first.prices k) k)
      (keep_test p q (value_at first.point) (value_at last.point) (value_at last.prices k) k) e in
      (both.0, (both.1, tt))),
  (λ h. ap₂ ◌&&◌ h.0 h.1.0),
)
