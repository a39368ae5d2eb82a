-- What stops a motion, and what it means that nothing does.
use Rattle.std.proofs.Common.{◌≡◌, ℕ, zero, suc, ◌+◌, ◌<◌, ◌≤◌, ◌⊎◌, inl, inr, true, false, refl, sym, ◌∙◌, arith}
use Rattle.std.specs.Prelude.{Option, Some, None}
use Rattle.exact_values.specs.Rational.{ℚ, ◌≤ℚ◌}
use Rattle.exact_values.proofs.Order.{le_refl, le_trans, le_total}
use Rattle.exact_values.proofs.TestsLaws.{le_from_test, test_from_le}
use Rattle.lp_definitions.specs.LinearProgram.{LinearProgram, Vector, IsVariable, size}
use Rattle.lp_laws.proofs.Values.{clash}
use Rattle.simplex_definitions.specs.Moves.{is_no_later, reaches_first, step_length, blocking_variable}
use Rattle.simplex_laws.proofs.Numbered.{find_none, find_some, list_all_from, list_all_true, from_first}

no_later-trans : (a b c : Option ℚ) → is_no_later a b ≡ true → is_no_later b c ≡ true → is_no_later a c ≡ true
no_later-trans None b c first second = cc
no_later-trans (Some a) None c first second = cc
no_later-trans (Some a) (Some b) None first second = refl
no_later-trans (Some a) (Some b) (Some c) first second = test_from_le a c (le_trans (le_from_test a b first) (le_from_test b c second))

pub reaches_limit : (a b : Option ℚ) → is_no_later a b ≡ true → (x : ℚ) × (a ≡ Some x)
reaches_limit None b e = cc
reaches_limit (Some a) b e = (a, refl)

module _ (f : ℕ → Option ℚ) where
  -- k reaches its limit, and none of the numbers sooner
  record IsLeastOf (n first k : ℕ) : Type 0 where
    low : first ≤ k
    high : k < first + n
    no_later : (i : ℕ) → first ≤ i → i < first + n → is_no_later (f k) (f i) ≡ true

  NoneReaches : ℕ → ℕ → Type 0
  NoneReaches n first = (k : ℕ) → first ≤ k → k < first + n → f k ≡ None

  -- one of the numbers is first, if any reaches a limit
  least_of : (n first : ℕ) → (NoneReaches n first) ⊎ ((k : ℕ) × IsLeastOf n first k)
  unfolding NoneReaches
  least_of zero first = inl (λ k low high. absurd (omega arith))
  least_of (suc n) first = by_first (f first) refl (least_of n (suc first))
    where
      Found : Type 0
      Found = (NoneReaches (suc n) first) ⊎ ((k : ℕ) × IsLeastOf (suc n) first k)

      later : (k : ℕ) → IsLeastOf n (suc first) k → is_no_later (f k) (f first) ≡ true → IsLeastOf (suc n) first k
      later k h here = record {
        low = omega (arith, h.low);
        high = omega (arith, h.high);
        no_later = from_first (λ i. is_no_later (f k) (f i) ≡ true) first n here h.no_later;
      }

      sooner : (k : ℕ) → IsLeastOf n (suc first) k → is_no_later (f first) (f k) ≡ true → is_no_later (f first) (f first) ≡ true → IsLeastOf (suc n) first first
      sooner k h here itself = record {
        low = omega arith;
        high = omega arith;
        no_later =
            from_first (λ i. is_no_later (f first) (f i) ≡ true) first n itself
            (λ i low high. no_later-trans (f first) (f k) (f i) here (h.no_later i low high));
      }

      alone : (a : ℚ) → f first ≡ Some a → NoneReaches n (suc first) → IsLeastOf (suc n) first first
      alone a is none = record {
        low = omega arith;
        high = omega arith;
        no_later =
            from_first (λ i. is_no_later (f first) (f i) ≡ true) first n (rw is (test_from_le a a (le_refl a))) (λ i low high. rw (is, none i low high) refl);
      }

      value_of : (k : ℕ) → IsLeastOf n (suc first) k → (b : ℚ) × (f k ≡ Some b)
      value_of k h = reaches_limit (f k) (f k) (h.no_later k h.low h.high)

      by_second : (a : ℚ) → f first ≡ Some a → (k : ℕ) → IsLeastOf n (suc first) k → ((b : ℚ) × (f k ≡ Some b)) → Found
      by_second a is k h (b, at) = pick (le_total a b)
        where
          pick : ((a ≤ℚ b) ⊎ (b ≤ℚ a)) → Found
          pick (inl less) = inr (first, sooner k h (rw (is, at) (test_from_le a b less)) (rw is (test_from_le a a (le_refl a))))
          pick (inr more) = inr (k, later k h (rw (is, at) (test_from_le b a more)))

      by_first : (o : Option ℚ) → f first ≡ o → ((NoneReaches n (suc first)) ⊎ ((k : ℕ) × IsLeastOf n (suc first) k)) → Found
      by_first None is (inl none) = inl (from_first (λ k. f k ≡ None) first n is none)
      by_first None is (inr one) = inr (one.0, later one.0 one.1 (rw ((value_of one.0 one.1).1, is) refl))
      by_first (Some a) is (inl none) = inr (first, alone a is none)
      by_first (Some a) is (inr one) = by_second a is one.0 one.1 (value_of one.0 one.1)

-- where nothing stops a motion, no variable has a limit ahead
pub blocking_variable_none : (p : LinearProgram) (z v : Vector) → blocking_variable p z v ≡ None → (k : ℕ) → IsVariable p.matrix k → step_length p z v k ≡ None
unfolding NoneReaches
blocking_variable_none p z v none k is = by_least (least_of (step_length p z v) (size p.matrix) 1)
  where
    by_least : ((NoneReaches (step_length p z v) (size p.matrix) 1) ⊎ ((k : ℕ) × IsLeastOf (step_length p z v) (size p.matrix) 1 k)) →
        step_length p z v k ≡ None
    by_least (inl all_none) = all_none k is.0 (omega (arith, is.1))
    by_least (inr one) =
        let passes : reaches_first p z v one.0 ≡ true =
        list_all_from (λ i. is_no_later (step_length p z v one.0) (step_length p z v i)) (size p.matrix) 1 one.1.no_later in
        let fails : reaches_first p z v one.0 ≡ false = find_none (reaches_first p z v) (size p.matrix) 1 none one.0 one.1.low one.1.high in
        absurd (clash (sym passes ∙ fails))

-- what stops a motion reaches its limit, and no variable reaches one sooner
pub blocking_variable_some : (p : LinearProgram) (z v : Vector) (k : ℕ) → blocking_variable p z v ≡ Some k →
    IsVariable p.matrix k × ((i : ℕ) → IsVariable p.matrix i → is_no_later (step_length p z v k) (step_length p z v i) ≡ true)
blocking_variable_some p z v k e =
    let found = find_some (reaches_first p z v) (size p.matrix) 1 k e in (
      (found.low, omega (arith, found.high)),
      λ i is. list_all_true (λ i. is_no_later (step_length p z v k) (step_length p z v i)) (size p.matrix) 1 found.passes i is.0 (omega (arith, is.1)),
    )
