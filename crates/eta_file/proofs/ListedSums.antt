-- The sums of the rows over the basics and one nonbasic, where all other numbers are 0.
use Rattle.std.proofs.Common.{◌≡◌, ◌≢◌, ℕ, zero, suc, ◌+◌, ◌-◌, ◌<◌, ◌≤◌, List, [], ◌∷◌, length, take, get_or, refl, sym, ◌∙◌, ap, ap₂, Bool, true, false, cond}
use Rattle.std.proofs.Common.{arith}
use Rattle.std.specs.Prelude.{nat_eq, nat_le}
use native.Mathlib.Decide.{ℕ_discrete}
use Rattle.exact_values.specs.Rational.{ℚ, zero_ℚ, ◌+ℚ◌, ◌*ℚ◌}
use Rattle.exact_values.specs.Sums.{sum_to, sum_up_to, sum_over, only}
use Rattle.exact_values.proofs.RingLaws.{add-zero, zero-add, add_assoc, mul-zero, mul_comm}
use Rattle.exact_values.proofs.Sums.{sum_to-same, sum_to-zero, sum_to-add, sum_to-append, sum_to-first, sum_to-only, sum_over-filter}
use Rattle.lp_definitions.specs.LinearProgram.{Matrix, Vector, size, numbers_from, entry, column, on_row}
use Rattle.lp_definitions.specs.Basis.{Basics, is_in, IsNonbasic}
use Rattle.lp_laws.proofs.Values.{clash}
use Rattle.eta_file.specs.Listed.{listed_of}
use Rattle.eta_file.specs.ColumnSums.{column_part}

-- ---- what one variable adds

module _ (a : Matrix) (z : Vector) (i k : ℕ) where
  pub row_part : k ≤ a.rows → column_part a z i k ≡ zero_ℚ
  row_part low = let is_row : nat_le k a.rows ≡ true = grind (arith, low) in ap (λ t. cond t zero_ℚ (entry a i (k - a.rows) *ℚ z k)) is_row

  pub part_of_column : a.rows < k → column_part a z i k ≡ z k *ℚ on_row (column a (k - a.rows)) i
  part_of_column high =
      let no_row : nat_le k a.rows ≡ false = grind (arith, high) in
      ap (λ t. cond t zero_ℚ (entry a i (k - a.rows) *ℚ z k)) no_row ∙ mul_comm (entry a i (k - a.rows)) (z k)

  pub no_part : z k ≡ zero_ℚ → column_part a z i k ≡ zero_ℚ
  no_part none = at (nat_le k a.rows)
    where
      at : (is_row : Bool) → cond is_row zero_ℚ (entry a i (k - a.rows) *ℚ z k) ≡ zero_ℚ
      at true = refl
      at false = ap (λ x. entry a i (k - a.rows) *ℚ x) none ∙ mul-zero (entry a i (k - a.rows))

pub with_nothing : (s x : ℚ) → x ≡ zero_ℚ → s ≡ s +ℚ x
with_nothing s x none = sym (ap (λ y. s +ℚ y) none ∙ add-zero s)

-- ---- one variable of a list more

pub nothing_yet : (f : ℕ → ℚ) (s : ℚ) → s ≡ s +ℚ sum_over [] f
unfolding sum_over
nothing_yet f s = sym (add-zero s)

pub next_part : (f : ℕ → ℚ) (ks : List ℕ) (n k d : ℕ) (s t u : ℚ) → n < length ks → k ≡ get_or ks n d → t ≡ u +ℚ f k → u ≡ s +ℚ sum_over (take n ks) f →
    t ≡ s +ℚ sum_over (take (n + 1) ks) f
unfolding sum_over
next_part f ks n k d s t u below is is_t is_u =
    is_t ∙ ap (λ x. x +ℚ f k) is_u ∙ add_assoc s (sum_over (take n ks) f) (f k)
    ∙ ap (λ x. s +ℚ x) (ap (λ m. sum_over (take n ks) f +ℚ f m) is ∙ sym (more ks n below))
  where
    place : (n : ℕ) → suc n + 1 ≡ suc (n + 1)
    place n = omega arith

    more : (ks : List ℕ) (n : ℕ) → n < length ks → sum_over (take (n + 1) ks) f ≡ sum_over (take n ks) f +ℚ f (get_or ks n d)
    more [] n below = absurd (omega arith)
    more (k ∷ ks) zero below = add-zero (f k) ∙ sym (zero-add (f k))
    more (k ∷ ks) (suc n) below = ap (λ m. sum_over (take m (k ∷ ks)) f) (place n) ∙ ap (λ x. f k +ℚ x) (more ks n (omega arith))
        ∙ sym (add_assoc (f k) (sum_over (take n ks) f) (f (get_or ks n d)))

-- ---- all of them

sum_over-numbers : (f : ℕ → ℚ) (first n : ℕ) → sum_over (numbers_from first n) f ≡ sum_to n (λ k. f (first + k))
unfolding sum_over sum_to
sum_over-numbers f first zero = refl
sum_over-numbers f first (suc n) =
    ap (λ s. f first +ℚ s) (sum_over-numbers f (suc first) n)
    ∙ sym (sum_to-first n (λ k. f (first + k)) ∙ ap₂ ◌+ℚ◌ (ap f (omega arith)) (sum_to-same n _ _ (λ k _. ap f (omega arith))))

module _ (a : Matrix) (b : Basics) (counted : length b ≡ size a) (j : ℕ) (out : IsNonbasic a b j) (z : Vector)
    (others : (k : ℕ) → IsNonbasic a b k → k ≢ j → z k ≡ zero_ℚ) (i : ℕ) where
  abbrev part : ℕ → ℚ
  part k = column_part a z i k

  listed_sum : sum_over (listed_of b) part ≡ sum_to (size a) (λ k. cond (is_in b (suc k)) (part (suc k)) zero_ℚ)
  listed_sum =
      sum_over-filter (numbers_from 1 (length b)) (is_in b) part
      ∙ sum_over-numbers (only (is_in b) part) 1 (length b)
      ∙ ap (λ n. sum_to n (λ k. only (is_in b) part (1 + k))) counted
      ∙ sum_to-same (size a) _ _ (λ k _. ap (only (is_in b) part) (omega arith))

  own_sum : sum_to (size a) (λ k. cond (nat_eq (suc k) j) (part (suc k)) zero_ℚ) ≡ part j
  own_sum =
      let place : suc (j - 1) ≡ j = omega (arith, out.0.0) in
      let here : nat_eq (suc (j - 1)) j ≡ true = grind (arith, place) in
      sum_to-only (size a) (j - 1) (λ k. cond (nat_eq (suc k) j) (part (suc k)) zero_ℚ) (omega (arith, out.0.0, out.0.1))
      (λ k below other. let apart : nat_eq (suc k) j ≡ false = grind (arith, other, place) in ap (λ t. cond t (part (suc k)) zero_ℚ) apart)
      ∙ ap (λ t. cond t (part (suc (j - 1))) zero_ℚ) here ∙ ap part place

  each : (k : ℕ) → k < size a → cond (is_in b (suc k)) (part (suc k)) zero_ℚ +ℚ cond (nat_eq (suc k) j) (part (suc k)) zero_ℚ ≡ part (suc k)
  each k below = at (is_in b (suc k)) refl (ℕ_discrete (suc k) j)
    where
      at : (mark : Bool) → is_in b (suc k) ≡ mark → Dec (suc k ≡ j)
          → cond mark (part (suc k)) zero_ℚ +ℚ cond (nat_eq (suc k) j) (part (suc k)) zero_ℚ ≡ part (suc k)
      at true is (yes same) = absurd (clash (sym is ∙ ap (is_in b) same ∙ out.1))
      at true is (no apart) =
          let other : nat_eq (suc k) j ≡ false = grind (arith, apart) in
          ap (λ t. part (suc k) +ℚ cond t (part (suc k)) zero_ℚ) other ∙ add-zero (part (suc k))
      at false is (yes same) =
          let here : nat_eq (suc k) j ≡ true = grind (arith, same) in
          ap (λ t. zero_ℚ +ℚ cond t (part (suc k)) zero_ℚ) here ∙ zero-add (part (suc k))
      at false is (no apart) =
          let other : nat_eq (suc k) j ≡ false = grind (arith, apart) in
          ap (λ t. zero_ℚ +ℚ cond t (part (suc k)) zero_ℚ) other ∙ add-zero zero_ℚ
          ∙ sym (no_part a z i (suc k) (others (suc k) ((omega arith, omega (arith, below)), is) apart))

  column_sum : sum_to (size a) (λ k. part (suc k)) ≡ sum_up_to a.cols (λ c. entry a i c *ℚ z (a.rows + c))
  column_sum =
      sum_to-append a.rows a.cols (λ k. part (suc k))
      ∙ ap₂ ◌+ℚ◌ (sum_to-zero a.rows (λ k. part (suc k)) (λ k below. row_part a z i (suc k) (omega (arith, below))))
      (sum_to-same a.cols (λ k. part (suc (a.rows + k))) (λ k. entry a i (suc k) *ℚ z (a.rows + suc k)) (λ k _.
      let high : a.rows < suc (a.rows + k) = omega arith in
      let place : suc (a.rows + k) - a.rows ≡ suc k = omega arith in
      let variable : suc (a.rows + k) ≡ a.rows + suc k = omega arith in
      part_of_column a z i (suc (a.rows + k)) high ∙ mul_comm (z (suc (a.rows + k))) (entry a i (suc (a.rows + k) - a.rows))
      ∙ ap₂ (λ c m. entry a i c *ℚ z m) place variable))
      ∙ zero-add (sum_up_to a.cols (λ c. entry a i c *ℚ z (a.rows + c)))

  pub all_parts : (s t u : ℚ) → s ≡ zero_ℚ → t ≡ s +ℚ sum_over (listed_of b) part → u ≡ t +ℚ part j
      → u ≡ sum_up_to a.cols (λ c. entry a i c *ℚ z (a.rows + c))
  all_parts s t u none is_t is_u =
      is_u ∙ ap (λ x. x +ℚ part j) (is_t ∙ ap (λ x. x +ℚ sum_over (listed_of b) part) none ∙ zero-add (sum_over (listed_of b) part) ∙ listed_sum)
      ∙ ap (λ x. sum_to (size a) (λ k. cond (is_in b (suc k)) (part (suc k)) zero_ℚ) +ℚ x) (sym own_sum)
      ∙ sym (sum_to-add (size a) (λ k. cond (is_in b (suc k)) (part (suc k)) zero_ℚ) (λ k. cond (nat_eq (suc k) j) (part (suc k)) zero_ℚ))
      ∙ sum_to-same (size a) _ _ each ∙ column_sum
