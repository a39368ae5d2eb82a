-- How the search for what stops a motion goes on by one variable, and what it has found at the end.
use Rattle.std.proofs.Common.{◌≡◌, ◌≢◌, ℕ, suc, ◌≤◌, ◌⊎◌, inl, inr, Bool, true, false, cond, refl, sym, subst, arith}
use Rattle.std.specs.Prelude.{Option, Some, None, eqb}
use Rattle.std.proofs.lemmas.Bool.Decides.{eqb_tells}
use Rattle.exact_values.specs.Rational.{ℚ, ◌≤ℚ◌, ◌<ℚ◌}
use Rattle.exact_values.specs.Tests.{le_ℚ}
use Rattle.exact_values.proofs.Order.{le_refl, le_of_lt, lt_of_lt_of_le}
use Rattle.exact_values.proofs.TestsLaws.{le_fails_from_lt, lt_from_le_fails, le_from_test, test_from_le}
use Rattle.lp_definitions.specs.LinearProgram.{LinearProgram, Vector, size}
use Rattle.simplex_definitions.specs.Moves.{is_no_later, step_length, blocking_variable}
use Rattle.simplex_laws.proofs.Searches.{blocking_variable_is, blocking_variable_nothing}
use Rattle.basis_values.specs.Reach.{reach_of, sooner, IsFirst, IsNearest}
use Rattle.basis_values.specs.declared.reach.Reach.{Reach}

-- a fact of each number up to n, and of the next
pub up_to : (P : ℕ → Type 0) (n : ℕ) → ((k : ℕ) → 1 ≤ k → k ≤ n → P k) → P (suc n) → (k : ℕ) → 1 ≤ k → k ≤ suc n → P k
up_to P n before here k low high = at (eqb_tells k (suc n))
  where
    at : (((eqb k (suc n) ≡ true) × (k ≡ suc n)) ⊎ ((eqb k (suc n) ≡ false) × (k ≢ suc n))) → P k
    at (inl same) = subst P (sym same.1) here
    at (inr other) = let apart = other.1 in before k low (omega (arith, high, apart))

module _ (f : ℕ → Option ℚ) (n : ℕ) where
  -- the first to reach a limit at all
  first_ever : (l : ℚ) → f (suc n) ≡ Some l → ((k : ℕ) → 1 ≤ k → k ≤ n → f k ≡ None) → IsFirst f (suc n) (reach_of (suc n) l)
  first_ever l is none = record {
    low = omega arith;
    high = omega arith;
    reaches = is;
    first = up_to (λ i. is_no_later (f (suc n)) (f i) ≡ true) n (λ i low high. rw (is, none i low high) refl) (rw is (test_from_le l l (le_refl l)));
    later = λ j low below. rw (none j low (omega (arith, below))) refl;
  }

  -- what was first stays first
  stays_first : (r : Reach) → IsFirst f n r → is_no_later (f r.p) (f (suc n)) ≡ true → IsFirst f (suc n) r
  stays_first r h here = record {
    low = h.low;
    high = omega (arith, h.high);
    reaches = h.reaches;
    first = up_to (λ i. is_no_later (f r.p) (f i) ≡ true) n h.first here;
    later = h.later;
  }

  -- a value below the least
  below_first : (r : Reach) (l : ℚ) → IsFirst f n r → l <ℚ r.length → (i : ℕ) → 1 ≤ i → i ≤ n → (o : Option ℚ) → f i ≡ o →
      (is_no_later (Some l) o ≡ true) × (is_no_later o (Some l) ≡ false)
  below_first r l h less i low high None is = (refl, refl)
  below_first r l h less i low high (Some x) is =
      let at_most : r.length ≤ℚ x = le_from_test r.length x (rw (h.reaches, is) at (h.first i low high)) in
      let above : l <ℚ x = lt_of_lt_of_le less at_most in
      (test_from_le l x (le_of_lt above), le_fails_from_lt x l above)

  -- one that is sooner
  is_sooner : (r : Reach) (l : ℚ) → IsFirst f n r → f (suc n) ≡ Some l → l <ℚ r.length → IsFirst f (suc n) (reach_of (suc n) l)
  is_sooner r l h is less = record {
    low = omega arith;
    high = omega arith;
    reaches = is;
    first =
        up_to (λ i. is_no_later (f (suc n)) (f i) ≡ true) n (λ i low high. rw is (below_first r l h less i low high (f i) refl).0)
        (rw is (test_from_le l l (le_refl l)));
    later = λ j low below. rw is (below_first r l h less j low (omega (arith, below)) (f j) refl).1;
  }

  pub next_nearest : (nearest : Option Reach) → IsNearest f n nearest → IsNearest f (suc n) (sooner nearest (f (suc n)) (suc n))
  next_nearest None h = at (f (suc n)) refl
    where
      at : (o : Option ℚ) → f (suc n) ≡ o → IsNearest f (suc n) (sooner None o (suc n))
      at None is = up_to (λ k. f k ≡ None) n h is
      at (Some l) is = first_ever l is h
  next_nearest (Some r) h = at (f (suc n)) refl
    where
      by_test : (l : ℚ) → f (suc n) ≡ Some l → (b : Bool) → le_ℚ r.length l ≡ b → IsNearest f (suc n) (cond b (Some r) (Some (reach_of (suc n) l)))
      by_test l is true e = stays_first r h (rw (h.reaches, is) e)
      by_test l is false e = is_sooner r l h is (lt_from_le_fails r.length l e)

      at : (o : Option ℚ) → f (suc n) ≡ o → IsNearest f (suc n) (sooner (Some r) o (suc n))
      at None is = stays_first r h (rw (h.reaches, is) refl)
      at (Some l) is = by_test l is (le_ℚ r.length l) refl

-- at the end it is what the definition finds
module _ (p : LinearProgram) (z v : Vector) where
  pub nearest_stops : (r : Reach) → IsNearest (step_length p z v) (size p.matrix) (Some r) → blocking_variable p z v ≡ Some r.p
  nearest_stops r h = blocking_variable_is p z v r.p (h.low, h.high) (λ i is. h.first i is.0 is.1) h.later

  pub nothing_stops : IsNearest (step_length p z v) (size p.matrix) None → blocking_variable p z v ≡ None
  nothing_stops h = blocking_variable_nothing p z v (λ k is. h k is.0 is.1)

-- it is a variable
pub found_within : (f : ℕ → Option ℚ) (n : ℕ) (found : Option Reach) (r : Reach) → IsNearest f n found → found ≡ Some r → (1 ≤ r.p) × (r.p ≤ n)
found_within f n found r nearest is =
    let h : IsFirst f n r = subst (λ (o : Option Reach). IsNearest f n o) is nearest in (h.low, h.high)
