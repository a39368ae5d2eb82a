-- A sum over the numbers of a column, in their order, is the sum over the rows.
use Rattle.std.proofs.Common.{◌≡◌, ℕ, zero, suc, ◌-◌, ◌≤◌, List, [], ◌∷◌, map, refl, sym, ◌∙◌, ap, ap₂, true, false, cond, arith, All}
use Rattle.std.specs.Prelude.{nat_eq}
use Rattle.std.specs.List.{IsDistinct, AllByRecursion}
use Rattle.std.proofs.lemmas.Map.Keys.{IsDistinct-head, IsDistinct-tail}
use native.Mathlib.Decide.{ℕ_discrete}
use Rattle.exact_values.specs.Rational.{ℚ, zero_ℚ, ◌+ℚ◌, ◌*ℚ◌}
use Rattle.exact_values.specs.Sums.{sum_to}
use Rattle.exact_values.proofs.RingLaws.{add_assoc, add-zero, zero-add, mul-zero}
use Rattle.exact_values.proofs.Sums.{sum_to-same, sum_to-zero, sum_to-add, sum_to-only}
use Rattle.lp_definitions.specs.LinearProgram.{Matrix, on_row, column, entry, IsRow, IsColumn, IsMatrix}
use Rattle.lp_definitions.specs.RatesEvidence.{sum_from}
use Rattle.lp_definitions.specs.declared.Entry.{Entry}

-- the sum of the numbers of a list, each times the multiplier of its row
abbrev total : (ℕ → ℚ) → List Entry → ℚ
total f [] = zero_ℚ
total f (e ∷ es) = f e.row *ℚ e.value +ℚ total f es

pub sum_from_is : (f : ℕ → ℚ) (start : ℚ) (es : List Entry) → sum_from start (map (λ (e : Entry). f e.row *ℚ e.value) es) ≡ start +ℚ total f es
sum_from_is f start [] = sym (add-zero start)
sum_from_is f start (e ∷ es) = sum_from_is f (start +ℚ f e.row *ℚ e.value) es ∙ add_assoc start (f e.row *ℚ e.value) (total f es)

-- a row on which no number stands has 0
absent : (k : ℕ) (es : List Entry) → AllByRecursion (λ r. nat_eq k r ≡ false) (map (λ (e : Entry). e.row) es) → on_row es k ≡ zero_ℚ
absent k [] none = refl
absent k (e ∷ es) none =
    let other : nat_eq e.row k ≡ false = turned none.0 in
    ap (λ t. cond t e.value (on_row es k)) other ∙ absent k es none.1
  where
    turned : nat_eq k e.row ≡ false → nat_eq e.row k ≡ false
    turned h = grind (arith, h)

sum_over_rows : (f : ℕ → ℚ) (m : ℕ) (es : List Entry) → All (λ (e : Entry). (1 ≤ e.row) × (e.row ≤ m)) es → IsDistinct nat_eq (map (λ (e : Entry). e.row) es)
    → sum_to m (λ i. f (suc i) *ℚ on_row es (suc i)) ≡ total f es
sum_over_rows f m [] on apart = sum_to-zero m _ (λ i _. mul-zero (f (suc i)))
sum_over_rows f m (e ∷ es) on apart =
    sum_to-same m _ _ (λ i below. split i (ℕ_discrete e.row (suc i)))
    ∙ sum_to-add m (λ i. only i) (λ i. f (suc i) *ℚ on_row es (suc i))
    ∙ ap₂ ◌+ℚ◌ own
    (sum_over_rows f m es (λ i d below. on (suc i) d (omega (arith, below))) (IsDistinct-tail nat_eq e.row (map (λ (e : Entry). e.row) es) apart))
  where
    -- the first number, on its row alone
    only : ℕ → ℚ
    only i = cond (nat_eq e.row (suc i)) (f (suc i) *ℚ e.value) zero_ℚ

    none_more : on_row es e.row ≡ zero_ℚ
    none_more = absent e.row es (IsDistinct-head nat_eq e.row (map (λ (e : Entry). e.row) es) apart)

    split : (i : ℕ) → Dec (e.row ≡ suc i) →
        f (suc i) *ℚ cond (nat_eq e.row (suc i)) e.value (on_row es (suc i)) ≡ cond (nat_eq e.row (suc i)) (f (suc i) *ℚ e.value) zero_ℚ +ℚ f
        (suc i) *ℚ on_row es (suc i)
    split i (yes same) =
        let is : nat_eq e.row (suc i) ≡ true = grind (arith, same) in
        let gone : on_row es (suc i) ≡ zero_ℚ = ap (on_row es) (sym same) ∙ none_more in
        rw (is, gone) (sym (ap (λ x. f (suc i) *ℚ e.value +ℚ x) (mul-zero (f (suc i))) ∙ add-zero (f (suc i) *ℚ e.value)))
    split i (no other) = let is : nat_eq e.row (suc i) ≡ false = grind (arith, other) in rw is (sym (zero-add (f (suc i) *ℚ on_row es (suc i))))

    own : sum_to m only ≡ f e.row *ℚ e.value
    own = at e.row refl (on 0 e (omega arith))
      where
        at : (k : ℕ) → k ≡ e.row → (1 ≤ e.row) × (e.row ≤ m) → sum_to m only ≡ f e.row *ℚ e.value
        at zero is row = absurd (omega (arith, is, row.0))
        at (suc k) is row =
            let here : nat_eq e.row (suc k) ≡ true = grind (arith, is) in
            sum_to-only m k only (omega (arith, is, row.1))
            (λ i below other. let gone : nat_eq e.row (suc i) ≡ false = grind (arith, is, other) in ap (λ t. cond t (f (suc i) *ℚ e.value) zero_ℚ) gone)
            ∙ ap (λ t. cond t (f (suc k) *ℚ e.value) zero_ℚ) here ∙ ap (λ i. f i *ℚ e.value) is

module _ (a : Matrix) (lawful : IsMatrix a) where
  -- a column of a matrix has its numbers on different rows
  column_on_rows : (j : ℕ) → IsColumn a j → All (λ (e : Entry). IsRow a e.row) (column a j)
  column_on_rows j is = lawful.on_rows (j - 1) [] (omega (arith, is.0, is.1, lawful.columns_counted))

  column_distinct : (j : ℕ) → IsColumn a j → IsDistinct nat_eq (map (λ (e : Entry). e.row) (column a j))
  column_distinct j is = lawful.distinct (j - 1) [] (omega (arith, is.0, is.1, lawful.columns_counted))

  -- the numbers of a column, each times the multiplier of its row, added in order to what the sum began with
  pub sum_of_entries : (f : ℕ → ℚ) (start : ℚ) (j : ℕ) → IsColumn a j
      → sum_from start (map (λ (e : Entry). f e.row *ℚ e.value) (column a j)) ≡ start +ℚ sum_to a.rows (λ i. f (suc i) *ℚ entry a (suc i) j)
  sum_of_entries f start j is =
      sum_from_is f start (column a j) ∙ ap (λ s. start +ℚ s) (sym (sum_over_rows f a.rows (column a j) (column_on_rows j is) (column_distinct j is)))
