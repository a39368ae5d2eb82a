-- Searches, tests and lists over the variables, which are the numbers from 1 on.
use Rattle.std.proofs.Common.{◌≡◌, ◌≢◌, ℕ, zero, suc, ◌+◌, ◌<◌, ◌≤◌, ◌⊎◌, inl, inr, ◌∷◌, map, Bool, true, false, cond, refl, sym, ap, subst, ◌∙◌, arith, get_or}
use Rattle.std.specs.Prelude.{eqb, Some, None, find, ◌&&◌}
use Rattle.std.specs.List.{list_all}
use Rattle.std.proofs.lemmas.Bool.Decides.{eqb_tells}
use Rattle.lp_definitions.specs.LinearProgram.{numbers_from}

-- what holds of the first number and of those past it holds of all
module _ (P : ℕ → Type 0) where
  pub from_first : (first n : ℕ) → P first → ((k : ℕ) → suc first ≤ k → k < suc first + n → P k) → (k : ℕ) → first ≤ k → k < first + suc n → P k
  from_first first n here past k low high = at (eqb_tells k first)
    where
      at : (((eqb k first ≡ true) × (k ≡ first)) ⊎ ((eqb k first ≡ false) × (k ≢ first))) → P k
      at (inl same) = rw same.1 here
      at (inr other) = past k (omega (arith, other.1)) (omega arith)

module _ (test : ℕ → Bool) where
  -- where nothing is found, no number passes
  pub find_none : (n first : ℕ) → find test (numbers_from first n) ≡ None → (k : ℕ) → first ≤ k → k < first + n → test k ≡ false
  find_none zero first e k low high = absurd (omega arith)
  find_none (suc n) first e k low high = by_test (test first) refl e (find_none n (suc first))
    where
      Rest : Type 0
      Rest = find test (numbers_from (suc first) n) ≡ None → (k : ℕ) → suc first ≤ k → k < suc first + n → test k ≡ false

      by_test : (b : Bool) → test first ≡ b → cond b (Some first) (find test (numbers_from (suc first) n)) ≡ None → Rest → test k ≡ false
      by_test true is e rest = cc
      by_test false is e rest = from_first (λ k. test k ≡ false) first n is (rest e) k low high

  -- what is found is one of the numbers, and passes
  pub record IsFound (n first k : ℕ) : Type 0 where
    pub low : first ≤ k
    pub high : k < first + n
    pub passes : test k ≡ true

  found_later : (n first k : ℕ) → IsFound n (suc first) k → IsFound (suc n) first k
  found_later n first k h = record { low = omega (arith, h.low); high = omega (arith, h.high); passes = h.passes }

  pub find_some : (n first k : ℕ) → find test (numbers_from first n) ≡ Some k → IsFound n first k
  find_some zero first k e = cc
  find_some (suc n) first k e = by_test (test first) refl e (find_some n (suc first) k)
    where
      by_test : (b : Bool) → test first ≡ b → cond b (Some first) (find test (numbers_from (suc first) n)) ≡ Some k →
          (find test (numbers_from (suc first) n) ≡ Some k → IsFound n (suc first) k) → IsFound (suc n) first k
      by_test true is e rest = let same : first ≡ k = cc in subst (IsFound (suc n) first) same (record { low = omega arith; high = omega arith; passes = is })
      by_test false is e rest = found_later n first k (rest e)

  -- every number passes
  pub list_all_true : (n first : ℕ) → list_all test (numbers_from first n) ≡ true → (k : ℕ) → first ≤ k → k < first + n → test k ≡ true
  list_all_true zero first e k low high = absurd (omega arith)
  list_all_true (suc n) first e k low high = by_test (test first) refl e (list_all_true n (suc first))
    where
      Rest : Type 0
      Rest = list_all test (numbers_from (suc first) n) ≡ true → (k : ℕ) → suc first ≤ k → k < suc first + n → test k ≡ true

      by_test : (b : Bool) → test first ≡ b → (b && list_all test (numbers_from (suc first) n)) ≡ true → Rest → test k ≡ true
      by_test true is e rest = from_first (λ k. test k ≡ true) first n is (rest e) k low high
      by_test false is e rest = cc

  pub list_all_from : (n first : ℕ) → ((k : ℕ) → first ≤ k → k < first + n → test k ≡ true) → list_all test (numbers_from first n) ≡ true
  list_all_from zero first h = refl
  list_all_from (suc n) first h = rw (h first (omega arith) (omega arith)) (list_all_from n (suc first) (λ k low high. h k (omega arith) (omega arith)))

-- two tests that agree on the numbers find the same, and pass alike
pub find_same : (test other : ℕ → Bool) (n first : ℕ) → ((k : ℕ) → first ≤ k → k < first + n → test k ≡ other k) →
    find test (numbers_from first n) ≡ find other (numbers_from first n)
find_same test other zero first h = refl
find_same test other (suc n) first h =
    ap (λ b. cond b (Some first) (find test (numbers_from (suc first) n))) (h first (omega arith) (omega arith))
    ∙ ap (λ o. cond (other first) (Some first) o) (find_same test other n (suc first) (λ k low high. h k (omega arith) (omega arith)))

pub list_all_same : (test other : ℕ → Bool) (n first : ℕ) → ((k : ℕ) → first ≤ k → k < first + n → test k ≡ other k) →
    list_all test (numbers_from first n) ≡ list_all other (numbers_from first n)
list_all_same test other zero first h = refl
list_all_same test other (suc n) first h =
    ap (λ b. b && list_all test (numbers_from (suc first) n)) (h first (omega arith) (omega arith))
    ∙ ap (λ o. other first && o) (list_all_same test other n (suc first) (λ k low high. h k (omega arith) (omega arith)))

module _ {X : Type 0} where
  pub map_same : (f g : ℕ → X) (n first : ℕ) → ((k : ℕ) → first ≤ k → k < first + n → f k ≡ g k) → map f (numbers_from first n) ≡ map g (numbers_from first n)
  map_same f g zero first h = refl
  map_same f g (suc n) first h =
      ap (λ x. x ∷ map f (numbers_from (suc first) n)) (h first (omega arith) (omega arith))
      ∙ ap (λ xs. g first ∷ xs) (map_same f g n (suc first) (λ k low high. h k (omega arith) (omega arith)))

  pub get_or-listed : (f : ℕ → X) (n first i : ℕ) (d : X) → i < n → get_or (map f (numbers_from first n)) i d ≡ f (first + i)
  get_or-listed f zero first i d below = absurd (omega arith)
  get_or-listed f (suc n) first zero d below = ap f (omega arith)
  get_or-listed f (suc n) first (suc i) d below = get_or-listed f n (suc first) i d (omega arith) ∙ ap f (omega arith)

module _ (test : ℕ → Bool) where
  -- the first number that passes is found
  pub find_first : (n first k : ℕ) → first ≤ k → k < first + n → test k ≡ true → ((j : ℕ) → first ≤ j → j < k → test j ≡ false) →
      find test (numbers_from first n) ≡ Some k
  find_first zero first k low high passes before = absurd (omega arith)
  find_first (suc n) first k low high passes before = at (eqb_tells k first) (find_first n (suc first) k)
    where
      Rest : Type 0
      Rest =
          suc first ≤ k → k < suc first + n → test k ≡ true → ((j : ℕ) → suc first ≤ j → j < k → test j ≡ false) →
          find test (numbers_from (suc first) n) ≡ Some k

      at : (((eqb k first ≡ true) × (k ≡ first)) ⊎ ((eqb k first ≡ false) × (k ≢ first))) → Rest →
          cond (test first) (Some first) (find test (numbers_from (suc first) n)) ≡ Some k
      at (inl same) rest = let here : test first ≡ true = ap test (sym same.1) ∙ passes in rw here (ap (λ j. Some j) (sym same.1))
      at (inr other) rest =
          let here : test first ≡ false = before first (omega arith) (omega (arith, other.1)) in
          rw here (rest (omega (arith, other.1)) (omega arith) passes (λ j from to. before j (omega arith) to))

  -- and where none passes, none is
  pub find_nothing : (n first : ℕ) → ((k : ℕ) → first ≤ k → k < first + n → test k ≡ false) → find test (numbers_from first n) ≡ None
  find_nothing zero first h = refl
  find_nothing (suc n) first h = rw (h first (omega arith) (omega arith)) (find_nothing n (suc first) (λ k low high. h k (omega arith) (omega arith)))
