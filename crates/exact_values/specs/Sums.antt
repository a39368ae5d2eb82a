-- Finite sums of rational numbers.
use Rattle.std.specs.Prelude.{ℕ, zero, suc, List, [], ◌∷◌, get_or, cond, nat_eq, Bool}
use Rattle.exact_values.specs.Rational.{ℚ, zero_ℚ, ◌+ℚ◌, ◌*ℚ◌}

-- f 0 + f 1 + .. + f (n - 1)
unfoldable pub sum_to : ℕ → (ℕ → ℚ) → ℚ
sum_to zero f = zero_ℚ
sum_to (suc n) f = sum_to n f +ℚ f n

-- f 1 + f 2 + .. + f n
abbrev pub sum_up_to : ℕ → (ℕ → ℚ) → ℚ
sum_up_to n f = sum_to n (λ k. f (suc k))

-- the sum of f k over the members k of ks
unfoldable pub sum_over : List ℕ → (ℕ → ℚ) → ℚ
sum_over [] f = zero_ℚ
sum_over (k ∷ ks) f = f k +ℚ sum_over ks f

-- the entry at k of a list that stands for a vector; past its end it has zeros
abbrev pub entry : List ℚ → ℕ → ℚ
entry xs k = get_or xs k zero_ℚ

-- f, but 0 at i
abbrev pub without : ℕ → (ℕ → ℚ) → ℕ → ℚ
without i f k = cond (nat_eq k i) zero_ℚ (f k)

-- f, but x at i
abbrev pub with_at : ℕ → ℚ → (ℕ → ℚ) → ℕ → ℚ
with_at i x f k = cond (nat_eq k i) x (f k)

-- the sum of the products of the entries
unfoldable pub dot : List ℚ → List ℚ → ℚ
dot [] ys = zero_ℚ
dot (x ∷ xs) [] = zero_ℚ
dot (x ∷ xs) (y ∷ ys) = x *ℚ y +ℚ dot xs ys

-- f where the test passes, and 0 elsewhere
abbrev pub only : (ℕ → Bool) → (ℕ → ℚ) → ℕ → ℚ
only test f k = cond (test k) (f k) zero_ℚ

-- f where the test fails, and 0 elsewhere
abbrev pub except : (ℕ → Bool) → (ℕ → ℚ) → ℕ → ℚ
except test f k = cond (test k) zero_ℚ (f k)
