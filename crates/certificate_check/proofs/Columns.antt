-- The parts of a check at one column.
use Rattle.std.proofs.Common.{◌≡◌, ℕ, ◌+◌, List, [], ◌∷◌, ◌++◌, sym, ap, ap₂, ◌∙◌, Ok, Err, Result}
use Rattle.std.specs.Prelude.{IsErrAnd}
use Rattle.exact_values.specs.Rational.{ℚ, zero_ℚ, ◌-ℚ◌}
use Rattle.exact_values.specs.Tests.{eq_ℚ}
use Rattle.frac128.specs.declared.Op.TheVariants.{Sub}
use Rattle.frac128.specs.declared.Refused.{Refused}
use Rattle.lp_definitions.specs.declared.Entry.{Entry}
use Rattle.lp_definitions.specs.LinearProgram.{LinearProgram, Vector, column, on_row, entry, combined, cost}
use Rattle.check_definitions.specs.declared.Verdict.TheVariants.{Checked, Unchecked}
use Rattle.check_definitions.specs.Steps.{Step, operation, comparison, verdict_of, sum_steps, sum_of}
use Rattle.check_definitions.specs.Checks.{entry_products, column_products, combined_steps, reduced_cost, ray_column}
use Rattle.certificate_check.specs.declared.stops.Stopped.{Stopped}
use Rattle.certificate_check.specs.declared.stops.Stopped.TheVariants.{Operation}
use Rattle.certificate_check.specs.Results.{verdict_from, Gives, SumsTo}
use Rattle.certificate_check.proofs.Each.{goes_on, value_exit}

module _ (p : LinearProgram) (y : Vector) (j : ℕ) (es : List Entry) (is_column : es ≡ column p.matrix j) where
  -- ---- the sum over the numbers of a column

  column_refused : (start s : ℚ) → s ≡ start → (refused : Refused) → SumsTo (Err refused) s (entry_products y es) →
      verdict_of (sum_steps start (column_products p y j)) ≡ Unchecked refused
  column_refused start s is refused h =
      ap (λ (c : List Entry). verdict_of (sum_steps start (entry_products y c))) (sym is_column)
      ∙ ap (λ (s : ℚ). verdict_of (sum_steps s (entry_products y es))) (sym is) ∙ h

  column_summed : (start s : ℚ) → s ≡ start → (t : ℚ) → SumsTo (Ok t) s (entry_products y es) → SumsTo (Ok t) start (column_products p y j)
  column_summed start s is t h = (
    ap (λ (c : List Entry). verdict_of (sum_steps start (entry_products y c))) (sym is_column)
        ∙ ap (λ (s : ℚ). verdict_of (sum_steps s (entry_products y es))) (sym is) ∙ h.0,
    h.1 ∙ ap (λ (s : ℚ). sum_of s (entry_products y es)) is ∙ ap (λ (c : List Entry). sum_of start (entry_products y c)) is_column,
  )

  -- ---- a ray

  -- the comparison that ends the part
  abbrev vanishing : List Step
  vanishing = comparison 1 (p.rows + j) (eq_ℚ (sum_of (y (p.rows + j)) (column_products p y j)) zero_ℚ) ∷ []

  pub ray_exit : (s : ℚ) → s ≡ y (p.rows + j) → (result : Result (Unit {0}) Stopped) (refused : Refused) → SumsTo (Err refused) s (entry_products y es)
      → IsErrAnd result (λ x. x ≡ Operation refused)
      → verdict_from result ≡ verdict_of (ray_column p y j)
  ray_exit s is result refused h handed =
      value_exit result (sum_steps (y (p.rows + j)) (column_products p y j)) vanishing refused (column_refused (y (p.rows + j)) s is refused h) handed

  pub ray_done : (s : ℚ) → s ≡ y (p.rows + j) → (t : ℚ) → SumsTo (Ok t) s (entry_products y es) → (n : ℕ) → n ≡ p.rows + j →
      verdict_of (comparison 1 n (eq_ℚ t zero_ℚ) ∷ []) ≡ verdict_of (ray_column p y j)
  ray_done s is t h n is_n =
      let summed = column_summed (y (p.rows + j)) s is t h in
      ap (λ (n : ℕ). verdict_of (comparison 1 n (eq_ℚ t zero_ℚ) ∷ [])) is_n
      ∙ ap (λ (t : ℚ). verdict_of (comparison 1 (p.rows + j) (eq_ℚ t zero_ℚ) ∷ [])) summed.1
      ∙ sym (goes_on (sum_steps (y (p.rows + j)) (column_products p y j)) vanishing summed.0)

  -- ---- a reduced cost

  module _ (a : ℚ) (priced : Gives (Ok a) (combined_steps p (λ i. on_row es i)) (combined p (λ i. on_row es i))) where
    cost_checked : verdict_of (combined_steps p (λ i. entry p.matrix i j)) ≡ Checked
    cost_checked = ap (λ (c : List Entry). verdict_of (combined_steps p (λ i. on_row c i))) (sym is_column) ∙ priced.0

    cost_is : a ≡ cost p j
    cost_is = priced.1 ∙ ap (λ (c : List Entry). combined p (λ i. on_row c i)) is_column

    -- the steps after the cost, and those after the sum
    abbrev comparing : List Step
    comparing = comparison 3 (p.rows + j) (eq_ℚ (cost p j -ℚ sum_of zero_ℚ (column_products p y j)) (y (p.rows + j))) ∷ []

    abbrev subtracting : List Step
    subtracting = operation Sub (cost p j) (sum_of zero_ℚ (column_products p y j)) ∷ comparing

    after_cost : verdict_of (reduced_cost p y j) ≡ verdict_of (sum_steps zero_ℚ (column_products p y j) ++ subtracting)
    after_cost = goes_on (combined_steps p (λ i. entry p.matrix i j)) (sum_steps zero_ℚ (column_products p y j) ++ subtracting) cost_checked

    pub sum_exit : (s : ℚ) → s ≡ zero_ℚ → (result : Result (Unit {0}) Stopped) (refused : Refused) → SumsTo (Err refused) s (entry_products y es)
        → IsErrAnd result (λ x. x ≡ Operation refused)
        → verdict_from result ≡ verdict_of (reduced_cost p y j)
    sum_exit s is result refused h handed =
        value_exit result (sum_steps zero_ℚ (column_products p y j)) subtracting refused (column_refused zero_ℚ s is refused h) handed ∙ sym after_cost

    module _ (s : ℚ) (is : s ≡ zero_ℚ) (b : ℚ) (summed : SumsTo (Ok b) s (entry_products y es)) where
      after_sum : verdict_of (reduced_cost p y j) ≡ verdict_of (operation Sub a b ∷ comparing)
      after_sum =
          let sum = column_summed zero_ℚ s is b summed in
          after_cost ∙ goes_on (sum_steps zero_ℚ (column_products p y j)) subtracting sum.0
          ∙ ap₂ (λ (a b : ℚ). verdict_of (operation Sub a b ∷ comparing)) (sym cost_is) (sym sum.1)

      pub difference_exit : (result : Result (Unit {0}) Stopped) (refused : Refused) → Gives (Err refused) (operation Sub a b ∷ []) (a -ℚ b)
          → IsErrAnd result (λ x. x ≡ Operation refused)
          → verdict_from result ≡ verdict_of (reduced_cost p y j)
      difference_exit result refused h handed = value_exit result (operation Sub a b ∷ []) comparing refused h handed ∙ sym after_sum

      pub cost_done : (d : ℚ) → Gives (Ok d) (operation Sub a b ∷ []) (a -ℚ b) → (n : ℕ) (v : ℚ) → n ≡ p.rows + j → v ≡ y n
          → verdict_of (comparison 3 n (eq_ℚ d v) ∷ []) ≡ verdict_of (reduced_cost p y j)
      cost_done d h n v is_n is_v =
          ap₂ (λ (d v : ℚ). verdict_of (comparison 3 n (eq_ℚ d v) ∷ [])) (h.1 ∙ ap₂ ◌-ℚ◌ cost_is (column_summed zero_ℚ s is b summed).1) is_v
          ∙ ap (λ (n : ℕ). verdict_of (comparison 3 n (eq_ℚ (cost p j -ℚ sum_of zero_ℚ (column_products p y j)) (y n)) ∷ [])) is_n
          ∙ sym (goes_on (operation Sub a b ∷ []) comparing h.0) ∙ sym after_sum
