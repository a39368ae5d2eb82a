-- The sums of all rows, made column by column.
use Rattle.std.proofs.Common.{◌≡◌, ℕ, ◌+◌, ◌-◌, ◌<◌, ◌≤◌, List, [], ◌∷◌, ◌++◌, map, length, get_or, set, drop, Bool, true, false, cond, refl, sym, ap, ap₂, ◌∙◌}
use Rattle.std.proofs.Common.{pos, arith, add-one}
use Rattle.std.specs.Prelude.{nat_eq, IsTrue, ◌↔◌}
use Rattle.std.specs.List.{IsDistinct, AllByRecursion}
use Rattle.std.proofs.lemmas.List.{get_or-set_same, get_or-set_other, get_or_append_left, get_or-append_right, drop_all}
use Rattle.std.proofs.lemmas.Map.Keys.{IsDistinct-head, IsDistinct-tail}
use Rattle.std.proofs.Math.Seq.{drop-cons}
use native.Mathlib.Decide.{ℕ_discrete}
use Rattle.exact_values.specs.Rational.{ℚ, zero_ℚ, neg_ℚ, ◌+ℚ◌, ◌*ℚ◌, ◌<ℚ◌}
use Rattle.exact_values.specs.Sums.{sum_to, sum_up_to}
use Rattle.exact_values.specs.Tests.{eq_ℚ, is_equal}
use Rattle.exact_values.proofs.Ring.{by_ring2, by_ring3, by_ring4, ◌⊕◌, ◌⊖◌, ◌⊗◌, ◌≐◌, number, opposite}
use Rattle.exact_values.proofs.RingLaws.{zero-add, add-zero}
use Rattle.lp_definitions.specs.declared.Entry.{Entry}
use Rattle.lp_definitions.specs.LinearProgram.{LinearProgram, IsMatrix, IsRow, IsColumn, value_at, column, on_row, entry}
use Rattle.check_definitions.specs.Steps.{AllHold, sum_of}
use Rattle.check_definitions.specs.Checks.{row_products, equation, equations}
use Rattle.certificate_laws.proofs.Products.{sum_of-all}
use Rattle.long_programs.proofs.Compared.{compare_scaled}
use Rattle.long_points.specs.Tests.{UpTo, rate_on, rates_on, equation_test}
use Rattle.long_points.proofs.Holds.{all_passed}
use Rattle.check_definitions.proofs.Holding.{each_hold}
use Rattle.long_points.proofs.AtTheta.{reads_equation}
use Rattle.long_points.proofs.Sums.{terms}

-- ---- a list that grows

pub pushed_before : (xs : List ℚ) (x : ℚ) (i : ℕ) → 1 ≤ i → i ≤ length xs → value_at (xs ++ x ∷ []) i ≡ value_at xs i
pushed_before xs x i first last = get_or_append_left xs (x ∷ []) zero_ℚ (i - 1) (omega (arith, first, last))

pub pushed_here : (xs : List ℚ) (x : ℚ) (i : ℕ) → i ≡ length xs + 1 → value_at (xs ++ x ∷ []) i ≡ x
pushed_here xs x i is =
    let place : i - 1 - length xs ≡ 0 = omega (arith, is) in
    get_or-append_right xs (x ∷ []) (length xs) (i - 1) zero_ℚ refl (omega (arith, is)) ∙ ap (λ k. get_or (x ∷ []) k zero_ℚ) place

pub opposites_go_on : (values items : List ℚ) (d sum : ℚ) (i : ℕ) → length items ≡ i →
    ((k : ℕ) → 1 ≤ k → k ≤ i → value_at items k ≡ neg_ℚ (value_at values k *ℚ d)) → sum ≡ neg_ℚ (value_at values (i + 1) *ℚ d) →
    (k : ℕ) → 1 ≤ k → k ≤ i + 1 → value_at (items ++ sum ∷ []) k ≡ neg_ℚ (value_at values k *ℚ d)
opposites_go_on values items d sum i counted so_far is k first last = split (ℕ_discrete k (i + 1))
  where
    split : Dec (k ≡ i + 1) → value_at (items ++ sum ∷ []) k ≡ neg_ℚ (value_at values k *ℚ d)
    split (yes same) = pushed_here items sum k (omega (arith, same, counted)) ∙ is ∙ ap (λ k. neg_ℚ (value_at values k *ℚ d)) (sym same)
    split (no other) = let below : k ≤ i = omega (arith, other, last) in pushed_before items sum k first (omega (arith, below, counted)) ∙ so_far k first below

-- ---- a number on a row

pub set_at : (xs : List ℚ) (row : ℕ) (by t new : ℚ) → 1 ≤ row → row ≤ length xs → new ≡ value_at xs row +ℚ by *ℚ t → (i : ℕ) → 1 ≤ i →
    value_at (set xs (row - 1) new) i ≡ value_at xs i +ℚ rate_on row by i *ℚ t
set_at xs row by t new first last made i low = split (ℕ_discrete row i)
  where
    split : Dec (row ≡ i) → value_at (set xs (row - 1) new) i ≡ value_at xs i +ℚ rate_on row by i *ℚ t
    split (yes same) =
        let is : nat_eq row i ≡ true = grind (arith, same) in
        ap (λ k. value_at (set xs (row - 1) new) k) (sym same)
        ∙ get_or-set_same xs (row - 1) new zero_ℚ (omega (arith, first, last)) ∙ made
        ∙ ap (λ k. value_at xs k +ℚ by *ℚ t) same ∙ ap (λ b. value_at xs i +ℚ cond b by zero_ℚ *ℚ t) (sym is)
    split (no other) =
        let is : nat_eq row i ≡ false = grind (arith, other) in
        get_or-set_other xs (row - 1) (i - 1) new zero_ℚ (λ e. other (omega (arith, e, first, low)))
        ∙ by_ring2 (value_at xs i) t (λ x t. x ≐ x ⊕ number (pos 0) ⊗ t) refl ∙ ap (λ b. value_at xs i +ℚ cond b by zero_ℚ *ℚ t) (sym is)

-- one more of a column's numbers
pub numbers_go_on : (es : List Entry) (n i : ℕ) (e : Entry) (t old s new : ℚ) → n < length es → get_or es n e ≡ e →
    s +ℚ rates_on (drop n es) i *ℚ t ≡ old +ℚ rates_on es i *ℚ t → new ≡ s +ℚ rate_on e.row e.value i *ℚ t →
    new +ℚ rates_on (drop (n + 1) es) i *ℚ t ≡ old +ℚ rates_on es i *ℚ t
numbers_go_on es n i e t old s new below here so_far made =
    let left : drop n es ≡ e ∷ drop (n + 1) es = drop-cons es n e below ∙ ap₂ (λ (x : Entry) k. x ∷ drop k es) here (sym (add-one n)) in
    ap (λ q. q +ℚ rates_on (drop (n + 1) es) i *ℚ t) made
    ∙ by_ring4 s (rate_on e.row e.value i) (rates_on (drop (n + 1) es) i) t (λ s r q t. s ⊕ r ⊗ t ⊕ q ⊗ t ≐ s ⊕ (r ⊕ q) ⊗ t) refl
    ∙ ap (λ rest. s +ℚ rates_on rest i *ℚ t) (sym left) ∙ so_far

pub numbers_end : (es : List Entry) (n i : ℕ) (t old s : ℚ) → length es ≤ n → s +ℚ rates_on (drop n es) i *ℚ t ≡ old +ℚ rates_on es i *ℚ t →
    s ≡ old +ℚ rates_on es i *ℚ t
numbers_end es n i t old s end so_far =
    let none : drop n es ≡ [] = drop_all n es end in
    by_ring2 s t (λ s t. s ≐ s ⊕ number (pos 0) ⊗ t) refl ∙ ap (λ rest. s +ℚ rates_on rest i *ℚ t) (sym none) ∙ so_far

-- ---- no two numbers of a column stand on one row

absent : (k : ℕ) (es : List Entry) → AllByRecursion (λ r. nat_eq k r ≡ false) (map (λ (e : Entry). e.row) es) → on_row es k ≡ zero_ℚ
absent k [] none = refl
absent k (e ∷ es) none = let other : nat_eq e.row k ≡ false = grind (arith, none.0) in ap (λ b. cond b e.value (on_row es k)) other ∙ absent k es none.1

pub rates_are : (es : List Entry) → IsDistinct nat_eq (map (λ (e : Entry). e.row) es) → (i : ℕ) → rates_on es i ≡ on_row es i
rates_are [] apart i = refl
rates_are (e ∷ es) apart i = split (ℕ_discrete e.row i) (rates_are es (IsDistinct-tail nat_eq e.row (map (λ (e : Entry). e.row) es) apart) i)
  where
    split : Dec (e.row ≡ i) → rates_on es i ≡ on_row es i → rate_on e.row e.value i +ℚ rates_on es i ≡ cond (nat_eq e.row i) e.value (on_row es i)
    split (yes same) rest =
        let is : nat_eq e.row i ≡ true = grind (arith, same) in
        let gone : on_row es i ≡ zero_ℚ = ap (on_row es) (sym same) ∙ absent e.row es (IsDistinct-head nat_eq e.row (map (λ (e : Entry). e.row) es) apart) in
        ap₂ (λ b q. cond b e.value zero_ℚ +ℚ q) is (rest ∙ gone) ∙ add-zero e.value ∙ ap (λ b. cond b e.value (on_row es i)) (sym is)
    split (no other) rest =
        let is : nat_eq e.row i ≡ false = grind (arith, other) in
        ap (λ b. cond b e.value zero_ℚ +ℚ rates_on es i) is ∙ zero-add (rates_on es i) ∙ rest ∙ ap (λ b. cond b e.value (on_row es i)) (sym is)

-- the numbers of column j
pub column_added : (p : LinearProgram) → IsMatrix p.matrix → (j : ℕ) → IsColumn p.matrix j → (i : ℕ) (es : List Entry) → es ≡ column p.matrix j →
    (old new v d t : ℚ) → t ≡ v *ℚ d → new ≡ old +ℚ rates_on es i *ℚ t →
    new ≡ old +ℚ entry p.matrix i j *ℚ v *ℚ d
column_added p m j is i es are old new v d t is_t made =
    let apart = m.distinct (j - 1) [] (omega (arith, m.columns_counted, is.0, is.1)) in
    made ∙ (λ k. old +ℚ rates_on (are k) i *ℚ is_t k) ∙ ap (λ r. old +ℚ r *ℚ (v *ℚ d)) (rates_are (column p.matrix j) apart i)
    ∙ by_ring4 old (entry p.matrix i j) v d (λ s e v d. s ⊕ e ⊗ (v ⊗ d) ≐ s ⊕ e ⊗ v ⊗ d) refl

-- ---- all columns

module _ (p : LinearProgram) (z : ℕ → ℚ) (i : ℕ) where
  pub columns_begin : (s d : ℚ) → s ≡ s +ℚ sum_up_to 0 (terms p z i) *ℚ d
  unfolding sum_to
  columns_begin s d = by_ring2 s d (λ s d. s ≐ s ⊕ number (pos 0) ⊗ d) refl

  pub columns_go_on : (j : ℕ) (old s new d : ℚ) → s ≡ old +ℚ sum_up_to j (terms p z i) *ℚ d → new ≡ s +ℚ entry p.matrix i (j + 1) *ℚ z (p.rows + (j + 1)) *ℚ d →
      new ≡ old +ℚ sum_up_to (j + 1) (terms p z i) *ℚ d
  unfolding sum_to
  columns_go_on j old s new d so_far made =
      made ∙ ap (λ s. s +ℚ terms p z i (j + 1) *ℚ d) so_far
      ∙ by_ring4 old (sum_up_to j (terms p z i)) (terms p z i (j + 1)) d (λ o s t d. o ⊕ s ⊗ d ⊕ t ⊗ d ≐ o ⊕ (s ⊕ t) ⊗ d) refl
      ∙ ap (λ k. old +ℚ (sum_up_to j (terms p z i) +ℚ terms p z i k) *ℚ d) (add-one j)
      ∙ ap (λ k. old +ℚ sum_up_to k (terms p z i) *ℚ d) (sym (add-one j))

  pub columns_end : (j : ℕ) (old s d : ℚ) → j ≡ p.cols → s ≡ old +ℚ sum_up_to j (terms p z i) *ℚ d → s ≡ old +ℚ sum_of zero_ℚ (row_products p z i) *ℚ d
  columns_end j old s d all so_far =
      so_far ∙ ap (λ n. old +ℚ sum_up_to n (terms p z i) *ℚ d) all
      ∙ ap (λ q. old +ℚ q *ℚ d) (sym (sum_of-all (λ j. record { left = entry p.matrix i j; right = z (p.rows + j) }) p.cols))

  -- a sum is 0 just where the equation holds
  pub zero_is : (old s d : ℚ) → zero_ℚ <ℚ d → old ≡ neg_ℚ (z i *ℚ d) → s ≡ old +ℚ sum_of zero_ℚ (row_products p z i) *ℚ d → eq_ℚ s zero_ℚ ≡ equation_test p z i
  zero_is old s d positive is made =
      ap is_equal
      (compare_scaled (sum_of zero_ℚ (row_products p z i)) (z i) d s positive
      (made ∙ ap (λ o. o +ℚ sum_of zero_ℚ (row_products p z i) *ℚ d) is
      ∙ by_ring3 (sum_of zero_ℚ (row_products p z i)) (z i) d (λ s z d. opposite (z ⊗ d) ⊕ s ⊗ d ≐ (s ⊖ z) ⊗ d) refl))

-- the sums of all rows
pub sums_tell : (p : LinearProgram) (z : ℕ → ℚ) (part : ℕ) (holds : Bool) (test : ℕ → Bool) → ((i : ℕ) → IsRow p.matrix i → test i ≡ equation_test p z i) →
    IsTrue holds ↔ UpTo test p.rows → IsTrue holds ↔ AllHold (equations p part z)
sums_tell p z part holds test same tells = (
  (λ e. (all_passed (equation p part z) (equation_test p z) (reads_equation p part z) p.rows p.rows (omega arith)
      (λ i first last. sym (same i (first, last)) ∙ tells.0 e i first last)).0 refl),
  (λ h. tells.1
      (λ i first last. same i (first, last) ∙ (reads_equation p part z i).1 (each_hold (equation p part z) 1 p.rows i h first (omega (arith, last))))),
)
