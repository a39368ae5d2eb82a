-- The limits in a family of right-hand sides: each limit of a row is moved by a multiple of its shift.
use Rattle.std.proofs.Common.{◌≡◌, ℕ, ◌-◌, Bool, true, false, List, refl, sym, ap, ap₂, subst, ◌∙◌, pos, arith, get_or}
use Rattle.std.specs.Prelude.{Option, Some, None, IsSome, nat_le, option_map, if◌then◌else◌}
use Rattle.std.proofs.lemmas.Option.{same_Some}
use Rattle.exact_values.specs.Rational.{ℚ, zero_ℚ, one_ℚ, ◌+ℚ◌, ◌*ℚ◌}
use Rattle.exact_values.specs.Tests.{eq_ℚ}
use Rattle.exact_values.proofs.Ring.{by_ring2, by_ring5, same_by_one, ◌⊕◌, ◌⊖◌, ◌⊗◌, ◌≐◌, number}
use Rattle.exact_values.proofs.TestsLaws.{same_from_test, test_from_same, apart_from_eq_fails, eq_fails_from_apart}
use Rattle.lp_definitions.specs.LinearProgram.{Matrix, LinearProgram, value_at, size, IsRow, IsVariable, HasNoLimits, lower_of, upper_of}
use Rattle.lp_definitions.specs.Basis.{status_of, IsAllowed, IsBasis, IsFixed}
use Rattle.lp_definitions.specs.declared.Status.{Status}
use Rattle.lp_definitions.specs.declared.Status.TheVariants.{Bs, Ll, Ul, Fr}
use Rattle.simplex_definitions.specs.Moves.{is_fixed, on_limits}
use Rattle.simplex_laws.specs.Laws.{IsNonsingularBasis}
use Rattle.simplex_laws.proofs.Numbered.{get_or-listed}
use Rattle.sensitivity_laws.proofs.Tableaus.{row_variable}
use Rattle.simplex_definitions.specs.RhsRun.{shift_of, shifted, rhs_family}

limit_is : (a : Matrix) (shift : List ℚ) (theta : ℚ) (limit : ℕ → Option ℚ) (k : ℕ) → IsVariable a k →
    get_or (shifted a shift theta limit) (k - 1) None ≡ option_map (λ l. l +ℚ theta *ℚ shift_of a shift k) (limit k)
limit_is a shift theta limit k is =
    get_or-listed (λ k. option_map (λ l. l +ℚ theta *ℚ shift_of a shift k) (limit k)) (size a) 1 (k - 1) None (omega (arith, is.0, is.1))
    ∙ ap (λ k. option_map (λ l. l +ℚ theta *ℚ shift_of a shift k) (limit k)) (omega (arith, is.0))

-- a limit moved by theta times its shift
abbrev pub moved : ℚ → ℚ → Option ℚ → Option ℚ
moved theta shift = option_map (λ l. l +ℚ theta *ℚ shift)

pub unmoved : (shift : ℚ) (o : Option ℚ) → moved zero_ℚ shift o ≡ o
unmoved shift None = refl
unmoved shift (Some l) = ap (λ x. Some x) (by_ring2 l shift (λ l s. l ⊕ number (pos 0) ⊗ s ≐ l) refl)

-- ---- a limit is there just where it was there before

module _ (f : ℚ → ℚ) where
  pub none_to : (o : Option ℚ) → o ≡ None → option_map f o ≡ None
  none_to None e = refl
  none_to (Some l) e = cc

  pub none_from : (o : Option ℚ) → option_map f o ≡ None → o ≡ None
  none_from None e = refl
  none_from (Some l) e = cc

  some_to : (o : Option ℚ) → IsSome o → IsSome (option_map f o)
  some_to None e = cc
  some_to (Some l) e = refl

  some_from : (o : Option ℚ) → IsSome (option_map f o) → IsSome o
  some_from None e = cc
  some_from (Some l) e = refl

  pub allowed_to : (st : Status) (low high : Option ℚ) → IsAllowed st low high → IsAllowed st (option_map f low) (option_map f high)
  allowed_to Bs low high e = tt
  allowed_to Ll low high e = some_to low e
  allowed_to Ul low high e = some_to high e
  allowed_to Fr low high e = (none_to low e.0, none_to high e.1)

  allowed_from : (st : Status) (low high : Option ℚ) → IsAllowed st (option_map f low) (option_map f high) → IsAllowed st low high
  allowed_from Bs low high e = tt
  allowed_from Ll low high e = some_from low e
  allowed_from Ul low high e = some_from high e
  allowed_from Fr low high e = (none_from low e.0, none_from high e.1)

module _ (p : LinearProgram) (shift : List ℚ) (theta : ℚ) where
  abbrev by : ℕ → ℚ → ℚ
  by k l = l +ℚ theta *ℚ shift_of p.matrix shift k

  pub lower_is : (k : ℕ) → IsVariable p.matrix k → lower_of (rhs_family p shift theta) k ≡ moved theta (shift_of p.matrix shift k) (lower_of p k)
  lower_is k is = limit_is p.matrix shift theta (lower_of p) k is

  pub upper_is : (k : ℕ) → IsVariable p.matrix k → upper_of (rhs_family p shift theta) k ≡ moved theta (shift_of p.matrix shift k) (upper_of p k)
  upper_is k is = limit_is p.matrix shift theta (upper_of p) k is

  pub free_to : (i : ℕ) → IsRow p.matrix i → HasNoLimits p i → HasNoLimits (rhs_family p shift theta) i
  free_to i row free = (
    lower_is i (row_variable p.matrix i row) ∙ none_to (by i) (lower_of p i) free.0,
    upper_is i (row_variable p.matrix i row) ∙ none_to (by i) (upper_of p i) free.1,
  )

  -- so the two programs have the same bases
  pub basis_to : (s : List Status) → IsBasis p s → IsBasis (rhs_family p shift theta) s
  basis_to s basis = record {
    counted = basis.counted;
    m_basics = basis.m_basics;
    free_rows = λ i row free. basis.free_rows i row (
      none_from (by i) (lower_of p i) (sym (lower_is i (row_variable p.matrix i row)) ∙ free.0),
      none_from (by i) (upper_of p i) (sym (upper_is i (row_variable p.matrix i row)) ∙ free.1),
    );
    allowed = λ k is. subst (λ low. IsAllowed (status_of s k) low (upper_of (rhs_family p shift theta) k)) (sym (lower_is k is))
        (subst (λ high. IsAllowed (status_of s k) (option_map (by k) (lower_of p k)) high) (sym (upper_is k is))
        (allowed_to (by k) (status_of s k) (lower_of p k) (upper_of p k) (basis.allowed k is)));
  }

  pub basis_from : (s : List Status) → IsBasis (rhs_family p shift theta) s → IsBasis p s
  basis_from s basis = record {
    counted = basis.counted;
    m_basics = basis.m_basics;
    free_rows = λ i row free. basis.free_rows i row (free_to i row free);
    allowed = λ k is. allowed_from (by k) (status_of s k) (lower_of p k) (upper_of p k)
        (subst (λ low. IsAllowed (status_of s k) low (option_map (by k) (upper_of p k))) (lower_is k is)
        (subst (λ high. IsAllowed (status_of s k) (lower_of (rhs_family p shift theta) k) high) (upper_is k is) (basis.allowed k is)));
  }

-- ---- a variable that is fixed at one value of the parameter is at every other

same_limit : (l u theta shift v : ℚ) → l +ℚ theta *ℚ shift ≡ v → u +ℚ theta *ℚ shift ≡ v → l ≡ u
same_limit l u theta shift v low high =
    same_by_one one_ℚ (low ∙ sym high)
    (by_ring5 l u theta shift v (λ l u t s v. l ≐ u ⊕ number (pos 1) ⊗ (l ⊕ t ⊗ s ⊖ (u ⊕ t ⊗ s))) refl)

fixed_moves : (low high : Option ℚ) (theta x shift : ℚ) → (v : ℚ) × (moved theta shift low ≡ Some v) × (moved theta shift high ≡ Some v) →
    (v : ℚ) × (moved x shift low ≡ Some v) × (moved x shift high ≡ Some v)
fixed_moves None high theta x shift fixed = let e = fixed.1 in cc
fixed_moves (Some l) None theta x shift fixed = let e = fixed.2 in cc
fixed_moves (Some l) (Some u) theta x shift fixed =
    let same : l ≡ u = same_limit l u theta shift fixed.0 (same_Some _ _ fixed.1) (same_Some _ _ fixed.2) in
    (l +ℚ x *ℚ shift, refl, ap (λ l. Some (l +ℚ x *ℚ shift)) (sym same))

pub fixed_at : (p : LinearProgram) (shift : List ℚ) (theta x : ℚ) (k : ℕ) → IsVariable p.matrix k → IsFixed (rhs_family p shift theta) k →
    IsFixed (rhs_family p shift x) k
fixed_at p shift theta x k is fixed =
    let there = fixed_moves (lower_of p k) (upper_of p k) theta x (shift_of p.matrix shift k)
    (fixed.0, sym (lower_is p shift theta k is) ∙ fixed.1, sym (upper_is p shift theta k is) ∙ fixed.2) in
    (there.0, lower_is p shift x k is ∙ there.1, upper_is p shift x k is ∙ there.2)

-- and the test of it tells the same
pub moved_tests : (low high : Option ℚ) (theta shift : ℚ) → on_limits eq_ℚ (moved theta shift low) (moved theta shift high) ≡ on_limits eq_ℚ low high
moved_tests None high theta shift = refl
moved_tests (Some l) None theta shift = refl
moved_tests (Some l) (Some u) theta shift = by_test (eq_ℚ l u) refl
  where
    by_test : (same : Bool) → eq_ℚ l u ≡ same → eq_ℚ (l +ℚ theta *ℚ shift) (u +ℚ theta *ℚ shift) ≡ same
    by_test true e = test_from_same _ _ (ap (λ l. l +ℚ theta *ℚ shift) (same_from_test l u e))
    by_test false e = eq_fails_from_apart _ _ (λ h. apart_from_eq_fails l u e (same_limit l u theta shift _ h refl))

pub fixed_same : (p : LinearProgram) (shift : List ℚ) (theta : ℚ) (k : ℕ) → IsVariable p.matrix k → is_fixed (rhs_family p shift theta) k ≡ is_fixed p k
fixed_same p shift theta k is =
    ap₂ (on_limits eq_ℚ) (lower_is p shift theta k is) (upper_is p shift theta k is)
    ∙ moved_tests (lower_of p k) (upper_of p k) theta (shift_of p.matrix shift k)

-- ---- a free variable is a column, which has no shift

apart_statuses : Bs ≡ Fr → ⊥
apart_statuses e = cc

pub free_unshifted : (p : LinearProgram) (shift : List ℚ) (s : List Status) (k : ℕ) → IsNonsingularBasis p s → IsVariable p.matrix k → status_of s k ≡ Fr →
    shift_of p.matrix shift k ≡ zero_ℚ
free_unshifted p shift s k at is free = by_row (nat_le k p.rows) refl
  where
    none : HasNoLimits p k
    none = rw free at (at.is_basis.allowed k is)

    by_row : (row : Bool) → nat_le k p.rows ≡ row → (if row then value_at shift k else zero_ℚ) ≡ zero_ℚ
    by_row true row = absurd (apart_statuses (sym (at.is_basis.free_rows k (is.0, grind (arith, row)) none) ∙ free))
    by_row false row = refl
