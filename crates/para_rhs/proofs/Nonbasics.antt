-- The list of the nonbasics, and sums over its first members.
use Rattle.std.proofs.Common.{◌≡◌, ℕ, zero, suc, ◌+◌, ◌<◌, ◌≤◌, List, [], ◌∷◌, map, take, Bool, true, false, cond, refl, sym, ap, ap₂, ◌∙◌, arith}
use Rattle.std.specs.Prelude.{Some, not, filter, slice_get}
use Rattle.std.proofs.lemmas.Bool.{not-true}
use Rattle.exact_values.specs.Rational.{ℚ, zero_ℚ}
use Rattle.simplex_definitions.specs.Formulas.{nonbasics}
use Rattle.lp_definitions.specs.Basis.{Basics, is_in, IsNonbasic}
use Rattle.lp_definitions.specs.LinearProgram.{Matrix, size, numbers_from}
use Rattle.lp_definitions.specs.RatesEvidence.{sum_from}

record IsFound (test : ℕ → Bool) (first n j : ℕ) : Type 0 where
  low : first ≤ j
  high : j < first + n
  passes : test j ≡ true

found_in : (test : ℕ → Bool) (n first term j : ℕ) → slice_get (filter test (numbers_from first n)) term ≡ Some j → IsFound test first n j
found_in test zero first term j e = cc
found_in test (suc n) first term j e = at (test first) refl term e (λ term. found_in test n (suc first) term j)
  where
    later : IsFound test (suc first) n j → IsFound test first (suc n) j
    later h = record { low = omega (arith, h.low); high = omega (arith, h.high); passes = h.passes }

    some_same : {a b : ℕ} → Some a ≡ Some b → a ≡ b
    some_same e = cc

    at : (b : Bool) → test first ≡ b → (term : ℕ) →
        slice_get (cond b (first ∷ filter test (numbers_from (suc first) n)) (filter test (numbers_from (suc first) n))) term ≡ Some j →
        ((term : ℕ) → slice_get (filter test (numbers_from (suc first) n)) term ≡ Some j → IsFound test (suc first) n j) → IsFound test first (suc n) j
    at false is term e rest = later (rest term e)
    at true is zero e rest =
        let same : first ≡ j = some_same e in record { low = omega (arith, same); high = omega (arith, same); passes = ap test (sym same) ∙ is }
    at true is (suc term) e rest = later (rest term e)

pub nonbasic_at : (a : Matrix) (b : Basics) (term j : ℕ) → slice_get (nonbasics a b) term ≡ Some j → IsNonbasic a b j
nonbasic_at a b term j e =
    let h = found_in (λ k. not (is_in b k)) (size a) 1 term j e in
    ((h.low, omega (arith, h.high)), not-true (is_in b j) h.passes)

-- values that are the same at each member
taken_same : (test : ℕ → Bool) (f g : ℕ → ℚ) (n first m : ℕ) → ((k : ℕ) → first ≤ k → k < first + n → test k ≡ true → f k ≡ g k) →
    map f (take m (filter test (numbers_from first n))) ≡ map g (take m (filter test (numbers_from first n)))
taken_same test f g zero first m same = none m
  where
    none : (m : ℕ) → map f (take m []) ≡ map g (take m [])
    none zero = refl
    none (suc m) = refl
taken_same test f g (suc n) first m same =
    at (test first) refl m (λ m. taken_same test f g n (suc first) m (λ k low high passes. same k (omega (arith, low)) (omega (arith, high)) passes))
  where
    at : (b : Bool) → test first ≡ b → (m : ℕ) →
        ((m : ℕ) → map f (take m (filter test (numbers_from (suc first) n))) ≡ map g (take m (filter test (numbers_from (suc first) n)))) →
        map f (take m (cond b (first ∷ filter test (numbers_from (suc first) n)) (filter test (numbers_from (suc first) n))))
        ≡ map g (take m (cond b (first ∷ filter test (numbers_from (suc first) n)) (filter test (numbers_from (suc first) n))))
    at false is m more = more m
    at true is zero more = refl
    at true is (suc m) more = ap₂ (λ (x : ℚ) (xs : List ℚ). x ∷ xs) (same first (omega arith) (omega arith) is) (more m)

pub sum_same : (a : Matrix) (b : Basics) (f g : ℕ → ℚ) (term : ℕ) → ((k : ℕ) → IsNonbasic a b k → f k ≡ g k) →
    sum_from zero_ℚ (map f (take term (nonbasics a b))) ≡ sum_from zero_ℚ (map g (take term (nonbasics a b)))
sum_same a b f g term same =
    ap (sum_from zero_ℚ)
    (taken_same (λ k. not (is_in b k)) f g (size a) 1 term (λ k low high passes. same k ((low, omega (arith, high)), not-true (is_in b k) passes)))
