-- The limits at a value of the parameter, and the points.
use Rattle.std.proofs.Common.{◌≡◌, ℕ, ◌+◌, ◌<◌, ◌≤◌, List, [], ◌∷◌, ◌++◌, map, true, false, cond, Option, Some, None, refl, sym, ap, ap₂, subst, ◌∙◌, arith}
use Rattle.std.specs.Prelude.{nat_le}
use Rattle.std.proofs.lemmas.List.{map-append}
use Rattle.std.proofs.lemmas.Bool.Decides.{nat_tests}
use Rattle.exact_values.specs.Rational.{ℚ, zero_ℚ, ◌+ℚ◌}
use Rattle.exact_values.proofs.RingLaws.{add-zero, mul-zero}
use Rattle.lp_definitions.specs.LinearProgram.{LinearProgram, Matrix, numbers_from, value_at, lower_of, upper_of}
use Rattle.lp_laws.proofs.Opening.{numbers_from-append}
use Rattle.check_definitions.specs.Steps.{Step, verdict_of, sum_steps}
use Rattle.check_definitions.specs.declared.Verdict.TheVariants.{Checked}
use Rattle.simplex_definitions.specs.RhsRun.{shift_of}
use Rattle.question_definitions.specs.Answers.{Sheet}
use Rattle.walk_definitions.specs.Tests.{moving_steps}
use Rattle.listing_claims.specs.declared.claims.Stop.{Stop}
use Rattle.listing_claims.specs.Passing.{Stops}
use Rattle.checks_of_128_bits.specs.Making.{moved, row_steps, low_at, high_at}
use Rattle.checks_of_128_bits.proofs.Passing.{steps_first, steps_next, steps_pass}

-- one more at the end of a list that a loop makes
pub one_more : {A : Type 0} (f : ℕ → A) (items : List A) (k : ℕ) (v : A) → items ≡ map f (numbers_from 1 k) → v ≡ f (k + 1) →
    items ++ v ∷ [] ≡ map f (numbers_from 1 (k + 1))
one_more {A} f items k v so_far is =
    ap₂ (λ (xs : List A) (x : A). xs ++ x ∷ []) so_far (is ∙ ap f (omega arith)) ∙ sym (map-append f (numbers_from 1 k) ((1 + k) ∷ []))
    ∙ ap (map f) (sym (numbers_from-append 1 k 1))

-- ---- shifts

pub row_shift : (a : Matrix) (shift : List ℚ) (k : ℕ) → k ≤ a.rows → shift_of a shift k ≡ value_at shift k
row_shift a shift k le = let is : nat_le k a.rows ≡ true = grind (arith, nat_tests, le) in ap (λ b. cond b (value_at shift k) zero_ℚ) is

pub column_shift : (a : Matrix) (shift : List ℚ) (k : ℕ) → a.rows < k → shift_of a shift k ≡ zero_ℚ
column_shift a shift k more = let is : nat_le k a.rows ≡ false = grind (arith, nat_tests, more) in ap (λ b. cond b (value_at shift k) zero_ℚ) is

pub stays : (theta : ℚ) (limit : Option ℚ) → moved theta zero_ℚ limit ≡ limit
stays theta None = refl
stays theta (Some l) = ap (λ z. Some (l +ℚ z)) (mul-zero theta) ∙ ap Some (add-zero l)

module _ (p : LinearProgram) (shift : List ℚ) (theta : ℚ) (k : ℕ) where
  pub row_low : k ≤ p.matrix.rows → moved theta (value_at shift k) (lower_of p k) ≡ low_at p shift theta k
  row_low le = ap (λ by. moved theta by (lower_of p k)) (sym (row_shift p.matrix shift k le))

  pub row_high : k ≤ p.matrix.rows → moved theta (value_at shift k) (upper_of p k) ≡ high_at p shift theta k
  row_high le = ap (λ by. moved theta by (upper_of p k)) (sym (row_shift p.matrix shift k le))

  pub column_low : p.matrix.rows < k → lower_of p k ≡ low_at p shift theta k
  column_low more = sym (ap (λ by. moved theta by (lower_of p k)) (column_shift p.matrix shift k more) ∙ stays theta (lower_of p k))

  pub column_high : p.matrix.rows < k → upper_of p k ≡ high_at p shift theta k
  column_high more = sym (ap (λ by. moved theta by (upper_of p k)) (column_shift p.matrix shift k more) ∙ stays theta (upper_of p k))

-- ---- the operations on the limits of a row

module _ (sheet : Sheet) (shift : List ℚ) (theta : ℚ) (i : ℕ) (by : ℚ) (is_by : by ≡ value_at shift i) (low high : Option ℚ)
    (is_low : low ≡ lower_of sheet.lp i) (is_high : high ≡ upper_of sheet.lp i) where
  abbrev lows : Type 0
  lows = verdict_of (moving_steps sheet theta by low) ≡ Checked

  low_same : verdict_of (moving_steps sheet theta by low) ≡ verdict_of (moving_steps sheet theta (value_at shift i) (lower_of sheet.lp i))
  low_same = ap₂ (λ b l. verdict_of (moving_steps sheet theta b l)) is_by is_low

  high_same : verdict_of (moving_steps sheet theta by high) ≡ verdict_of (moving_steps sheet theta (value_at shift i) (upper_of sheet.lp i))
  high_same = ap₂ (λ b l. verdict_of (moving_steps sheet theta b l)) is_by is_high

  pub low_stops : (stop : Stop) → Stops stop (verdict_of (moving_steps sheet theta by low)) → Stops stop (verdict_of (row_steps sheet shift theta i))
  low_stops stop h =
      steps_first stop (moving_steps sheet theta (value_at shift i) (lower_of sheet.lp i)) (moving_steps sheet theta (value_at shift i) (upper_of sheet.lp i))
      (subst (λ v. Stops stop v) low_same h)

  pub high_stops : (stop : Stop) → lows → Stops stop (verdict_of (moving_steps sheet theta by high)) → Stops stop (verdict_of (row_steps sheet shift theta i))
  high_stops stop passed h =
      steps_next stop (moving_steps sheet theta (value_at shift i) (lower_of sheet.lp i)) (moving_steps sheet theta (value_at shift i) (upper_of sheet.lp i))
      (sym low_same ∙ passed) (subst (λ v. Stops stop v) high_same h)

  pub row_passes : lows → verdict_of (moving_steps sheet theta by high) ≡ Checked → verdict_of (row_steps sheet shift theta i) ≡ Checked
  row_passes passed also =
      steps_pass (moving_steps sheet theta (value_at shift i) (lower_of sheet.lp i)) (moving_steps sheet theta (value_at shift i) (upper_of sheet.lp i))
      (sym low_same ∙ passed) (sym high_same ∙ also)

-- ---- points

abbrev pub along_step : ℚ → List ℚ → List ℚ → ℕ → List Step
along_step theta value rate k = sum_steps (value_at value k) (record { left = theta; right = value_at rate k } ∷ [])

-- a value and a rate that were read are those of the variable
pub along_same : (theta : ℚ) (value rate : List ℚ) (k : ℕ) (v r : ℚ) → v ≡ value_at value k → r ≡ value_at rate k →
    verdict_of (sum_steps v (record { left = theta; right = r } ∷ [])) ≡ verdict_of (along_step theta value rate k)
along_same theta value rate k v r is_v is_r = ap₂ (λ v r. verdict_of (sum_steps v (record { left = theta; right = r } ∷ []))) is_v is_r
