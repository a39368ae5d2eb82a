-- Finite sums and the order: sums are monotone, strictly where one term is, and a sum has a term of its own sign.
use Rattle.std.proofs.Common.{◌≡◌, ℕ, zero, suc, ◌<◌, refl, sym, ap, ap₂, ◌∙◌, subst, arith, pos, ◌⊎◌, inl, inr, List, [], ◌∷◌, All, Bool, true, false, cond}
use Rattle.std.proofs.Common.{eq-or-lt_of_le}
use Rattle.exact_values.specs.Rational.{ℚ, ◌+ℚ◌, ◌*ℚ◌, neg_ℚ, ◌-ℚ◌, zero_ℚ, ◌≤ℚ◌, ◌<ℚ◌}
use Rattle.exact_values.specs.Sums.{sum_to, sum_over, only}
use Rattle.exact_values.proofs.RingLaws.{zero-add, mul-zero}
use Rattle.exact_values.proofs.Ring.{by_ring1, by_ring2, by_ring3, by_ring4, ◌⊕◌, ◌⊗◌, ◌⊖◌, opposite, number, ◌≐◌}
use Rattle.exact_values.proofs.Order.{le_refl, le_antisymm, lt_or_le, lt_not_le, lt_irrefl, add-le-add, lt_by_two}
use Rattle.exact_values.proofs.Sums.{sum_to-same, sum_to-zero, sum_to-add, sum_to-le, sum_to-exchange, sum_to-mul_left, sum_to-mul_right, sum_over-add}

-- ---- sums of numbers of one sign

pub add-lt-add : {a b c d : ℚ} → a <ℚ b → c ≤ℚ d → a +ℚ c <ℚ b +ℚ d
add-lt-add {a} {b} {c} {d} h k = lt_by_two h k (by_ring4 a b c d (λ a b c d. b ⊕ d ≐ a ⊕ c ⊕ ((b ⊖ a) ⊕ (d ⊖ c))) refl)

pub add-lt-add_right : {a b c d : ℚ} → a ≤ℚ b → c <ℚ d → a +ℚ c <ℚ b +ℚ d
add-lt-add_right {a} {b} {c} {d} h k = lt_by_two k h (by_ring4 a b c d (λ a b c d. b ⊕ d ≐ a ⊕ c ⊕ ((d ⊖ c) ⊕ (b ⊖ a))) refl)

-- no term is above its partner, and one is below
pub sum_to-lt : (n i : ℕ) (f g : ℕ → ℚ) → i < n → ((k : ℕ) → k < n → f k ≤ℚ g k) → f i <ℚ g i → sum_to n f <ℚ sum_to n g
unfolding sum_to
sum_to-lt zero i f g within le below = absurd (omega arith)
sum_to-lt (suc n) i f g within le below = by_place (sum_to-lt n i f g) (eq-or-lt_of_le {n = i} {m = n} (omega arith))
  where
    by_place : (i < n → ((k : ℕ) → k < n → f k ≤ℚ g k) → f i <ℚ g i → sum_to n f <ℚ sum_to n g) → (i ≡ n) ⊎ (i < n) → sum_to n f +ℚ f n <ℚ sum_to n g +ℚ g n
    by_place before (inl last) = add-lt-add_right (sum_to-le n f g (λ k h. le k (omega arith))) (subst (λ m. f m <ℚ g m) last below)
    by_place before (inr h) = add-lt-add (before h (λ k j. le k (omega arith)) below) (le n (omega arith))

zero_sum : (n : ℕ) → sum_to n (λ k. zero_ℚ) ≡ zero_ℚ
zero_sum n = sum_to-zero n (λ k. zero_ℚ) (λ k h. refl)

pub sum_to-nonpositive : (n : ℕ) (f : ℕ → ℚ) → ((k : ℕ) → k < n → f k ≤ℚ zero_ℚ) → sum_to n f ≤ℚ zero_ℚ
sum_to-nonpositive n f le = subst (λ s. sum_to n f ≤ℚ s) (zero_sum n) (sum_to-le n f (λ k. zero_ℚ) le)

-- no term is positive, and one is negative
pub sum_to-negative : (n i : ℕ) (f : ℕ → ℚ) → i < n → ((k : ℕ) → k < n → f k ≤ℚ zero_ℚ) → f i <ℚ zero_ℚ → sum_to n f <ℚ zero_ℚ
sum_to-negative n i f within le below = subst (λ s. sum_to n f <ℚ s) (zero_sum n) (sum_to-lt n i f (λ k. zero_ℚ) within le below)

-- no term is negative, and one is positive
pub sum_to-positive : (n i : ℕ) (f : ℕ → ℚ) → i < n → ((k : ℕ) → k < n → zero_ℚ ≤ℚ f k) → zero_ℚ <ℚ f i → zero_ℚ <ℚ sum_to n f
sum_to-positive n i f within le above = subst (λ s. s <ℚ sum_to n f) (zero_sum n) (sum_to-lt n i (λ k. zero_ℚ) f within le above)

-- no term is negative and the sum is 0: each term is 0
pub sum_to-zero_terms : (n : ℕ) (f : ℕ → ℚ) → ((k : ℕ) → k < n → zero_ℚ ≤ℚ f k) → sum_to n f ≤ℚ zero_ℚ → (k : ℕ) → k < n → f k ≡ zero_ℚ
sum_to-zero_terms n f le most k within = by_case (lt_or_le zero_ℚ (f k))
  where
    by_case : (zero_ℚ <ℚ f k) ⊎ (f k ≤ℚ zero_ℚ) → f k ≡ zero_ℚ
    by_case (inl above) = absurd (lt_not_le (sum_to-positive n k f within le above) most)
    by_case (inr h) = le_antisymm h (le k within)

-- ---- a sum has a term of its own sign

pub record SomeBelow (n : ℕ) (f g : ℕ → ℚ) : Type 0 where
  pub place : ℕ
  pub within : place < n
  pub below : f place <ℚ g place

pub below_somewhere : (n : ℕ) (f g : ℕ → ℚ) → sum_to n f <ℚ sum_to n g → SomeBelow n f g
unfolding sum_to
below_somewhere zero f g h = absurd (lt_irrefl h)
below_somewhere (suc n) f g h = by_case (below_somewhere n f g) (lt_or_le (f n) (g n)) (lt_or_le (sum_to n f) (sum_to n g))
  where
    earlier : SomeBelow n f g → SomeBelow (suc n) f g
    earlier s = record { place = s.place; within = (let h = s.within in omega arith); below = s.below }

    by_case : (sum_to n f <ℚ sum_to n g → SomeBelow n f g) → (f n <ℚ g n) ⊎ (g n ≤ℚ f n) → (sum_to n f <ℚ sum_to n g) ⊎ (sum_to n g ≤ℚ sum_to n f) →
        SomeBelow (suc n) f g
    by_case before (inl last) rest = record { place = n; within = omega arith; below = last }
    by_case before (inr last) (inl rest) = earlier (before rest)
    by_case before (inr last) (inr rest) = absurd (lt_not_le h (add-le-add rest last))

pub record SomeNegative (n : ℕ) (f : ℕ → ℚ) : Type 0 where
  pub place : ℕ
  pub within : place < n
  pub negative : f place <ℚ zero_ℚ

pub negative_somewhere : (n : ℕ) (f : ℕ → ℚ) → sum_to n f <ℚ zero_ℚ → SomeNegative n f
negative_somewhere n f h =
    let s = below_somewhere n f (λ k. zero_ℚ) (subst (λ z. sum_to n f <ℚ z) (sym (zero_sum n)) h) in
    record { place = s.place; within = s.within; negative = s.below }

pub record SomePositive (n : ℕ) (f : ℕ → ℚ) : Type 0 where
  pub place : ℕ
  pub within : place < n
  pub positive : zero_ℚ <ℚ f place

pub positive_somewhere : (n : ℕ) (f : ℕ → ℚ) → zero_ℚ <ℚ sum_to n f → SomePositive n f
positive_somewhere n f h =
    let s = below_somewhere n (λ k. zero_ℚ) f (subst (λ z. z <ℚ sum_to n f) (sym (zero_sum n)) h) in
    record { place = s.place; within = s.within; positive = s.below }

-- ---- the indices that pass a test

module _ (test : ℕ → Bool) where
  only-mul : (c : ℚ) (passes : Bool) (x : ℚ) → cond passes (c *ℚ x) zero_ℚ ≡ c *ℚ cond passes x zero_ℚ
  only-mul c true x = refl
  only-mul c false x = sym (mul-zero c)

  -- a factor of each term
  pub sum_to-only_mul : (n : ℕ) (f g : ℕ → ℚ) → sum_to n (only test (λ k. f k *ℚ g k)) ≡ sum_to n (λ k. f k *ℚ only test g k)
  sum_to-only_mul n f g = sum_to-same n _ _ (λ k h. only-mul (f k) (test k) (g k))

  only-same : (passes : Bool) (x y : ℚ) → (passes ≡ true → x ≡ y) → cond passes x zero_ℚ ≡ cond passes y zero_ℚ
  only-same true x y e = e refl
  only-same false x y e = refl

  -- terms that are equal where the test passes
  pub sum_to-only_same : (n : ℕ) (f g : ℕ → ℚ) → ((k : ℕ) → k < n → test k ≡ true → f k ≡ g k) → sum_to n (only test f) ≡ sum_to n (only test g)
  sum_to-only_same n f g same = sum_to-same n _ _ (λ k h. only-same (test k) (f k) (g k) (same k h))

  only-add : (passes : Bool) (x y : ℚ) → cond passes (x +ℚ y) zero_ℚ ≡ cond passes x zero_ℚ +ℚ cond passes y zero_ℚ
  only-add true x y = refl
  only-add false x y = sym (zero-add zero_ℚ)

  pub sum_to-only_add : (n : ℕ) (f g : ℕ → ℚ) → sum_to n (only test (λ k. f k +ℚ g k)) ≡ sum_to n (only test f) +ℚ sum_to n (only test g)
  sum_to-only_add n f g = sum_to-same n _ _ (λ k h. only-add (test k) (f k) (g k)) ∙ sum_to-add n (only test f) (only test g)

  only-zero : (passes : Bool) (x : ℚ) → (passes ≡ false → x ≡ zero_ℚ) → x ≡ cond passes x zero_ℚ
  only-zero true x e = refl
  only-zero false x e = e refl

  -- a sum whose terms are 0 where the test fails is one over the indices that pass
  pub sum_to-is_only : (n : ℕ) (f : ℕ → ℚ) → ((k : ℕ) → k < n → test k ≡ false → f k ≡ zero_ℚ) → sum_to n f ≡ sum_to n (only test f)
  sum_to-is_only n f none = sum_to-same n f _ (λ k h. only-zero (test k) (f k) (none k h))

-- ---- sums of products in two indices

-- the sum over i of x i times the sum over j of a i j times y j, taken the other way round
pub sum_to-bilinear : (m n : ℕ) (x y : ℕ → ℚ) (a : ℕ → ℕ → ℚ) →
    sum_to m (λ i. x i *ℚ sum_to n (λ j. a i j *ℚ y j)) ≡ sum_to n (λ j. sum_to m (λ i. x i *ℚ a i j) *ℚ y j)
sum_to-bilinear m n x y a =
    sum_to-same m _ _ (λ i h. sym (sum_to-mul_left n (x i) (λ j. a i j *ℚ y j)))
    ∙ sum_to-exchange m n (λ i j. x i *ℚ (a i j *ℚ y j))
    ∙ sum_to-same n _ _ (λ j h.
    sum_to-same m _ _ (λ i k. by_ring3 (x i) (a i j) (y j) (λ x a y. x ⊗ (a ⊗ y) ≐ (x ⊗ a) ⊗ y) refl)
    ∙ sum_to-mul_right m (y j) (λ i. x i *ℚ a i j))

-- ---- lists

pub sum_over-zero : (ks : List ℕ) (f : ℕ → ℚ) → All (λ k. f k ≡ zero_ℚ) ks → sum_over ks f ≡ zero_ℚ
unfolding sum_over
sum_over-zero [] f none = refl
sum_over-zero (k ∷ ks) f none = ap₂ ◌+ℚ◌ (none 0 0 (omega arith)) (sum_over-zero ks f (λ i d below. none (suc i) d (omega arith))) ∙ zero-add zero_ℚ

pub sum_over-neg : (ks : List ℕ) (f : ℕ → ℚ) → sum_over ks (λ k. neg_ℚ (f k)) ≡ neg_ℚ (sum_over ks f)
unfolding sum_over
sum_over-neg [] f = by_ring1 zero_ℚ (λ z. number (pos 0) ≐ opposite (number (pos 0))) refl
sum_over-neg (k ∷ ks) f =
    ap (λ s. neg_ℚ (f k) +ℚ s) (sum_over-neg ks f) ∙ by_ring2 (f k) (sum_over ks f) (λ a b. opposite a ⊕ opposite b ≐ opposite (a ⊕ b)) refl

pub sum_over-sub : (ks : List ℕ) (f g : ℕ → ℚ) → sum_over ks (λ k. f k -ℚ g k) ≡ sum_over ks f -ℚ sum_over ks g
sum_over-sub ks f g = sum_over-add ks f (λ k. neg_ℚ (g k)) ∙ ap (λ s. sum_over ks f +ℚ s) (sum_over-neg ks g)

pub sum_over-mul_right : (ks : List ℕ) (c : ℚ) (f : ℕ → ℚ) → sum_over ks (λ k. f k *ℚ c) ≡ sum_over ks f *ℚ c
unfolding sum_over
sum_over-mul_right [] c f = by_ring1 c (λ c. number (pos 0) ≐ number (pos 0) ⊗ c) refl
sum_over-mul_right (k ∷ ks) c f =
    ap (λ s. f k *ℚ c +ℚ s) (sum_over-mul_right ks c f) ∙ by_ring3 c (f k) (sum_over ks f) (λ c a b. a ⊗ c ⊕ b ⊗ c ≐ (a ⊕ b) ⊗ c) refl

pub sum_over-exchange : (ks js : List ℕ) (f : ℕ → ℕ → ℚ) → sum_over ks (λ i. sum_over js (λ j. f i j)) ≡ sum_over js (λ j. sum_over ks (λ i. f i j))
unfolding sum_over
sum_over-exchange [] js f = sym (sum_over-zero js (λ j. zero_ℚ) (λ i d below. refl))
sum_over-exchange (k ∷ ks) js f =
    ap (λ s. sum_over js (λ j. f k j) +ℚ s) (sum_over-exchange ks js f) ∙ sym (sum_over-add js (λ j. f k j) (λ j. sum_over ks (λ i. f i j)))

pub sum_over-le : (ks : List ℕ) (f g : ℕ → ℚ) → All (λ k. f k ≤ℚ g k) ks → sum_over ks f ≤ℚ sum_over ks g
unfolding sum_over
sum_over-le [] f g le = le_refl zero_ℚ
sum_over-le (k ∷ ks) f g le = add-le-add (le 0 0 (omega arith)) (sum_over-le ks f g (λ i d below. le (suc i) d (omega arith)))
