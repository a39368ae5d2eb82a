-- Sums from the left come to the sums that the definitions of a linear program speak of.
use Rattle.std.proofs.Common.{◌≡◌, ℕ, zero, suc, ◌+◌, List, [], ◌∷◌, map, refl, sym, ap, ap₂, ◌∙◌, arith, Bool, true, false, cond}
use Rattle.std.specs.Prelude.{filter}
use Rattle.exact_values.specs.Rational.{ℚ, zero_ℚ, ◌+ℚ◌, ◌*ℚ◌}
use Rattle.exact_values.specs.Sums.{sum_to, sum_up_to}
use Rattle.exact_values.proofs.RingLaws.{add_assoc, add-zero, zero-add}
use Rattle.exact_values.proofs.Sums.{sum_to-same, sum_to-first}
use Rattle.lp_definitions.specs.declared.Entry.{Entry}
use Rattle.lp_definitions.specs.LinearProgram.{numbers_from}
use Rattle.lp_definitions.specs.RatesEvidence.{sum_from}
use Rattle.check_definitions.specs.Steps.{Product, product_of, sum_of}
use Rattle.check_definitions.specs.Checks.{entry_products}

-- products in the order of numbers
pub sum_of-numbers : (f : ℕ → Product) (start : ℚ) (first n : ℕ) →
    sum_of start (map f (numbers_from first n)) ≡ start +ℚ sum_to n (λ k. product_of (f (first + k)))
unfolding sum_to
sum_of-numbers f start first zero = sym (add-zero start)
sum_of-numbers f start first (suc n) =
    sum_of-numbers f (start +ℚ product_of (f first)) (suc first) n
    ∙ add_assoc start (product_of (f first)) (sum_to n (λ k. product_of (f (suc first + k))))
    ∙ ap (λ s. start +ℚ s)
    (ap₂ ◌+ℚ◌ (ap (λ i. product_of (f i)) (omega arith)) (sum_to-same n _ _ (λ k _. ap (λ i. product_of (f i)) (omega arith)))
    ∙ sym (sum_to-first n (λ k. product_of (f (first + k)))))

pub sum_of-all : (f : ℕ → Product) (n : ℕ) → sum_of zero_ℚ (map f (numbers_from 1 n)) ≡ sum_up_to n (λ k. product_of (f k))
sum_of-all f n =
    sum_of-numbers f zero_ℚ 1 n ∙ zero-add (sum_to n (λ k. product_of (f (1 + k))))
    ∙ sum_to-same n _ _ (λ k _. ap (λ i. product_of (f i)) (omega arith))

-- products at some of the numbers, where those at the others are 0
pub sum_of-filtered : (test : ℕ → Bool) (f : ℕ → Product) → ((k : ℕ) → test k ≡ false → product_of (f k) ≡ zero_ℚ)
    → (start : ℚ) (ks : List ℕ) → sum_of start (map f (filter test ks)) ≡ sum_of start (map f ks)
sum_of-filtered test f none start [] = refl
sum_of-filtered test f none start (k ∷ ks) =
    by_test (test k) (none k) (sum_of-filtered test f none start ks) (sum_of-filtered test f none (start +ℚ product_of (f k)) ks)
  where
    by_test : (b : Bool) → (b ≡ false → product_of (f k) ≡ zero_ℚ)
        → sum_of start (map f (filter test ks)) ≡ sum_of start (map f ks)
        → sum_of (start +ℚ product_of (f k)) (map f (filter test ks)) ≡ sum_of (start +ℚ product_of (f k)) (map f ks)
        → sum_of start (map f (cond b (k ∷ filter test ks) (filter test ks))) ≡ sum_of (start +ℚ product_of (f k)) (map f ks)
    by_test true none here there = there
    by_test false none here there = here ∙ ap (λ s. sum_of s (map f ks)) (sym (ap (λ s. start +ℚ s) (none refl) ∙ add-zero start))

-- the products of a column's numbers
pub sum_of-entries : (start : ℚ) (y : ℕ → ℚ) (es : List Entry) →
    sum_of start (entry_products y es) ≡ sum_from start (map (λ (e : Entry). y e.row *ℚ e.value) es)
sum_of-entries start y [] = refl
sum_of-entries start y (e ∷ es) = sum_of-entries (start +ℚ y e.row *ℚ e.value) y es
