-- Where no variable is found to bring a basic back, none may.
use Rattle.std.proofs.Common.{◌≡◌, ℕ, zero, suc, ◌+◌, ◌<◌, ◌≤◌, ◌⊎◌, inl, inr, Bool, true, false, List, refl, sym, ap₂, ◌∙◌, arith}
use Rattle.std.specs.Prelude.{None, not, ◌&&◌, ◌||◌}
use Rattle.std.proofs.lemmas.Bool.{or_right}
use Rattle.exact_values.specs.Rational.{ℚ, ◌≤ℚ◌}
use Rattle.exact_values.specs.Tests.{le_ℚ}
use Rattle.exact_values.proofs.Order.{le_refl, le_trans, le_total}
use Rattle.exact_values.proofs.TestsLaws.{le_from_test, test_from_le}
use Rattle.lp_definitions.specs.LinearProgram.{LinearProgram, size, IsVariable}
use Rattle.lp_definitions.specs.Basis.{Tableau}
use Rattle.lp_definitions.specs.declared.Status.{Status}
use Rattle.lp_laws.proofs.Values.{clash}
use Rattle.simplex_definitions.specs.DualRatio.{restores_feasibility, ratio, is_cheapest, cheapest}
use Rattle.simplex_laws.proofs.Numbered.{from_first, list_all_from}
use Rattle.simplex_laws.proofs.Searches.{none_passes}

-- what is no greater than one number that is no greater than a second one
no_greater : (a : Bool) (x y z : ℚ) → x ≤ℚ y → (not a || le_ℚ y z) ≡ true → (not a || le_ℚ x z) ≡ true
no_greater true x y z less e = test_from_le x z (le_trans less (le_from_test y z e))
no_greater false x y z less e = refl

-- of the numbers that pass a test, one has the least value, if any passes
module _ (passes : ℕ → Bool) (f : ℕ → ℚ) where
  record IsLeastOf (n first k : ℕ) : Type 0 where
    low : first ≤ k
    high : k < first + n
    own : passes k ≡ true
    least : (i : ℕ) → first ≤ i → i < first + n → (not (passes i) || le_ℚ (f k) (f i)) ≡ true

  abbrev NonePasses : ℕ → ℕ → Type 0
  NonePasses n first = (k : ℕ) → first ≤ k → k < first + n → passes k ≡ false

  least_of : (n first : ℕ) → (NonePasses n first) ⊎ ((k : ℕ) × IsLeastOf n first k)
  least_of zero first = inl (λ k low high. absurd (omega arith))
  least_of (suc n) first = by_first (passes first) refl (least_of n (suc first))
    where
      Found : Type 0
      Found = (NonePasses (suc n) first) ⊎ ((k : ℕ) × IsLeastOf (suc n) first k)

      later : (k : ℕ) → IsLeastOf n (suc first) k → (not (passes first) || le_ℚ (f k) (f first)) ≡ true → IsLeastOf (suc n) first k
      later k h here = record {
        low = omega (arith, h.low);
        high = omega (arith, h.high);
        own = h.own;
        least = from_first (λ i. (not (passes i) || le_ℚ (f k) (f i)) ≡ true) first n here h.least;
      }

      itself : (not (passes first) || le_ℚ (f first) (f first)) ≡ true
      itself = or_right (not (passes first)) (le_ℚ (f first) (f first)) (test_from_le (f first) (f first) (le_refl (f first)))

      sooner : passes first ≡ true → ((i : ℕ) → suc first ≤ i → i < suc first + n → (not (passes i) || le_ℚ (f first) (f i)) ≡ true) →
          IsLeastOf (suc n) first first
      sooner is past = record {
        low = omega arith;
        high = omega arith;
        own = is;
        least = from_first (λ i. (not (passes i) || le_ℚ (f first) (f i)) ≡ true) first n itself past;
      }

      by_order : passes first ≡ true → (k : ℕ) → IsLeastOf n (suc first) k → (f first ≤ℚ f k) ⊎ (f k ≤ℚ f first) → Found
      by_order is k h (inl less) = inr (first, sooner is (λ i low high. no_greater (passes i) (f first) (f k) (f i) less (h.least i low high)))
      by_order is k h (inr more) = inr (k, later k h (or_right (not (passes first)) (le_ℚ (f k) (f first)) (test_from_le (f k) (f first) more)))

      by_first : (b : Bool) → passes first ≡ b → ((NonePasses n (suc first)) ⊎ ((k : ℕ) × IsLeastOf n (suc first) k)) → Found
      by_first false is (inl none) = inl (from_first (λ k. passes k ≡ false) first n is none)
      by_first false is (inr one) = inr (one.0, later one.0 one.1 (rw is refl))
      by_first true is (inl none) = inr (first, sooner is (λ i low high. rw (none i low high) refl))
      by_first true is (inr one) = by_order is one.0 one.1 (le_total (f first) (f one.0))

pub cheapest_none : (p : LinearProgram) (s : List Status) (t : Tableau) (r : ℕ) (below : Bool) → cheapest p s t r below ≡ None → (k : ℕ) →
    IsVariable p.matrix k → restores_feasibility p s t r below k ≡ false
cheapest_none p s t r below none k is = by_least (least_of (restores_feasibility p s t r below) (ratio p s t r) (size p.matrix) 1)
  where
    by_least : ((NonePasses (restores_feasibility p s t r below) (ratio p s t r) (size p.matrix) 1) ⊎
        ((k : ℕ) × IsLeastOf (restores_feasibility p s t r below) (ratio p s t r) (size p.matrix) 1 k)) → restores_feasibility p s t r below k ≡ false
    by_least (inl all) = all k is.0 (omega (arith, is.1))
    by_least (inr one) =
        let first : is_cheapest p s t r below one.0 ≡ true =
        list_all_from (λ j. not (restores_feasibility p s t r below j) || le_ℚ (ratio p s t r one.0) (ratio p s t r j)) (size p.matrix) 1 one.1.least in
        let fails =
        none_passes p (λ q. restores_feasibility p s t r below q && is_cheapest p s t r below q) none one.0 (one.1.low, omega (arith, one.1.high)) in
        absurd (clash (sym (ap₂ (λ a b. a && b) one.1.own first) ∙ fails))
