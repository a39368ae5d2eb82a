-- Status lists: the basics of the opening one, and how a step changes a basis.
use Rattle.std.proofs.Common.{◌≡◌, ◌≢◌, ℕ, ◌-◌, ◌<◌, ◌≤◌, List, length, map, set, refl, sym, ◌∙◌, ap, ap₂, subst, Option, Some, None, Bool, true, false, ◌⊎◌}
use Rattle.std.proofs.Common.{inl, inr, arith}
use Rattle.std.specs.Prelude.{nat_le, count_by, cond, eqb, IsSome}
use Rattle.std.proofs.lemmas.Bool.Decides.{eqb_tells}
use Rattle.std.proofs.lemmas.List.{get_or-map, get_or-set_same, get_or-set_other, length-map, length-set, map-set}
use Rattle.std.proofs.lemmas.List.Recursion.{is_count_by}
use Rattle.std.proofs.lemmas.Simd.{map-map}
use Rattle.std.proofs.Math.Seq.{map-set_same}
use Rattle.exact_values.specs.Rational.{ℚ}
use Rattle.lp_definitions.specs.LinearProgram.{LinearProgram, size, variables, lower_of, upper_of, HasNoLimits, IsRow, IsVariable}
use Rattle.lp_definitions.specs.Basis.{is_basic, basics_of, status_of, with_status, exchanged, row_basics, opening_status_of, opening_at_of, opening_statuses}
use Rattle.lp_definitions.specs.Basis.{IsAllowed, IsBasis, IsBasic, IsNonbasic}
use Rattle.lp_definitions.specs.declared.Status.{Status}
use Rattle.lp_definitions.specs.declared.Status.TheVariants.{Bs, Ll, Ul, Fr}
use Rattle.lp_laws.proofs.Values.{clash}
use Rattle.lp_laws.proofs.Uniqueness.{is_in-basics_of}
use Rattle.lp_laws.proofs.Exchange.{marked, marked_is, marked-exchanged}
use Rattle.lp_laws.proofs.Opening.{length-numbers_from, numbers_from-at, marked-row_basics}

-- ---- statuses and marks

pub basic_from : (st : Status) → is_basic st ≡ true → st ≡ Bs
basic_from Bs e = refl
basic_from Ll e = absurd (clash (sym e))
basic_from Ul e = absurd (clash (sym e))
basic_from Fr e = absurd (clash (sym e))

pub nonbasic_from : (st : Status) → st ≢ Bs → is_basic st ≡ false
nonbasic_from Bs other = absurd (other refl)
nonbasic_from Ll other = refl
nonbasic_from Ul other = refl
nonbasic_from Fr other = refl

-- as many basics are marked as statuses are Bs
pub marked-basics_of : (s : List Status) → count_by (λ m. m) (basics_of s) ≡ count_by is_basic s
marked-basics_of s = sym (marked_is (basics_of s)) ∙ is_count_by (λ s. marked (basics_of s)) is_basic refl (λ st s. refl) s

-- ---- a step

-- the statuses after an exchange have the exchanged basics
pub basics_of-replaced : (s : List Status) (p q : ℕ) (to : Status) → to ≢ Bs → basics_of (with_status (with_status s q Bs) p to) ≡ exchanged (basics_of s) p q
basics_of-replaced s p q to other =
    map-set is_basic (with_status s q Bs) (p - 1) to
    ∙ ap₂ (λ b m. set b (p - 1) m) (map-set is_basic s (q - 1) Bs) (nonbasic_from to other)

-- and those after a change of limit the same ones
pub basics_of-flipped : (s : List Status) (q : ℕ) (to : Status) → status_of s q ≢ Bs → to ≢ Bs → basics_of (with_status s q to) ≡ basics_of s
basics_of-flipped s q to was other = map-set_same is_basic s (q - 1) to Bs (nonbasic_from to other ∙ sym (nonbasic_from (status_of s q) was))

-- ---- the opening basis

pub basics_of-opening : (p : LinearProgram) → basics_of (opening_statuses p) ≡ row_basics p.matrix
basics_of-opening p =
    map-map is_basic (opening_at_of p) (variables p.matrix)
    ∙ ap (λ f. map f (variables p.matrix)) (λ i k. at k (nat_le k p.rows) refl i)
  where
    column : (low high : Option ℚ) → is_basic (opening_status_of low high) ≡ false
    column (Some l) high = refl
    column None (Some u) = refl
    column None None = refl

    at : (k : ℕ) (row : Bool) → nat_le k p.rows ≡ row → is_basic (cond row Bs (opening_status_of (lower_of p k) (upper_of p k))) ≡ row
    at k true e = refl
    at k false e = column (lower_of p k) (upper_of p k)

-- at each variable its own status
pub status_of-opening : (p : LinearProgram) (k : ℕ) → IsVariable p.matrix k → status_of (opening_statuses p) k ≡ opening_at_of p k
status_of-opening p k is =
    let below : k - 1 < length (variables p.matrix) = rw (length-numbers_from 1 (size p.matrix)) (omega (arith, is.0, is.1)) in
    get_or-map (opening_at_of p) (variables p.matrix) (k - 1) 0 Bs below
    ∙ ap (opening_at_of p) (numbers_from-at 1 (size p.matrix) (k - 1) 0 (omega (arith, is.0, is.1)) ∙ omega (arith, is.0))

pub IsBasis-opening : (p : LinearProgram) → IsBasis p (opening_statuses p)
IsBasis-opening p = record {
  counted = rw length-map (length-numbers_from 1 (size p.matrix));
  m_basics = sym (marked-basics_of (opening_statuses p)) ∙ ap (count_by (λ m. m)) (basics_of-opening p) ∙ marked-row_basics p.matrix;
  free_rows = λ i row free. status_of-opening p i (row.0, omega (arith, row.1)) ∙ row_is i row.1;
  allowed = λ k is. subst (λ st. IsAllowed st (lower_of p k) (upper_of p k)) (sym (status_of-opening p k is)) (at k (nat_le k p.rows));
}
  where
    row_is : (i : ℕ) → i ≤ p.rows → opening_at_of p i ≡ Bs
    row_is i low = let is : nat_le i p.rows ≡ true = grind arith in rw is

    column : (low high : Option ℚ) → IsAllowed (opening_status_of low high) low high
    column (Some l) high = refl
    column None (Some u) = refl
    column None None = (refl, refl)

    at : (k : ℕ) (row : Bool) → IsAllowed (cond row Bs (opening_status_of (lower_of p k) (upper_of p k))) (lower_of p k) (upper_of p k)
    at k true = tt
    at k false = column (lower_of p k) (upper_of p k)

-- ---- a basis stays a basis

-- a status at a limit is that of a variable with a limit
pub has_limit : (st : Status) (low high : Option ℚ) → st ≢ Bs → st ≢ Fr → IsAllowed st low high → (low ≡ None) × (high ≡ None) → ⊥
has_limit Bs low high other free allowed none = other refl
has_limit Ll low high other free allowed none = let P : IsSome low → low ≡ None → ⊥ = λ h e. cc in P allowed none.0
has_limit Ul low high other free allowed none = let P : IsSome high → high ≡ None → ⊥ = λ h e. cc in P allowed none.1
has_limit Fr low high other free allowed none = free refl

module _ (p : LinearProgram) (s : List Status) (basis : IsBasis p s) where
  -- basic and nonbasic, by the status
  pub basic_by_status : (k : ℕ) → IsVariable p.matrix k → status_of s k ≡ Bs → IsBasic p.matrix (basics_of s) k
  basic_by_status k is st = (is, is_in-basics_of s k is.0 (omega (arith, is.1, basis.counted)) ∙ ap is_basic st)

  pub nonbasic_by_status : (k : ℕ) → IsVariable p.matrix k → status_of s k ≢ Bs → IsNonbasic p.matrix (basics_of s) k
  nonbasic_by_status k is st = (is, is_in-basics_of s k is.0 (omega (arith, is.1, basis.counted)) ∙ nonbasic_from (status_of s k) st)

  pub status_of_basic : (k : ℕ) → IsBasic p.matrix (basics_of s) k → status_of s k ≡ Bs
  status_of_basic k basic = basic_from (status_of s k) (sym (is_in-basics_of s k basic.0.0 (omega (arith, basic.0.1, basis.counted))) ∙ basic.1)

  pub status_of_nonbasic : (k : ℕ) → IsNonbasic p.matrix (basics_of s) k → is_basic (status_of s k) ≡ false
  status_of_nonbasic k out = sym (is_in-basics_of s k out.0.0 (omega (arith, out.0.1, basis.counted))) ∙ out.1

  -- a status is changed at k alone
  pub changed_own : (k : ℕ) (st : Status) (ss : List Status) → length ss ≡ size p.matrix → IsVariable p.matrix k → status_of (with_status ss k st) k ≡ st
  changed_own k st ss counted is = get_or-set_same ss (k - 1) st Bs (rw counted (omega (arith, is.0, is.1)))

  pub changed_other : (k i : ℕ) (st : Status) (ss : List Status) → IsVariable p.matrix k → IsVariable p.matrix i → i ≢ k →
      status_of (with_status ss k st) i ≡ status_of ss i
  changed_other k i st ss is other apart = get_or-set_other ss (k - 1) (i - 1) st Bs (λ e. apart (omega (arith, e, is.0, other.0)))

  -- the variable r goes to a limit that it has, and q takes its place
  pub IsBasis-replaced : (r q : ℕ) (to : Status) → IsVariable p.matrix r → IsVariable p.matrix q → status_of s r ≡ Bs → status_of s q ≢ Bs
      → to ≢ Bs → to ≢ Fr → IsAllowed to (lower_of p r) (upper_of p r) → IsBasis p (with_status (with_status s q Bs) r to)
  IsBasis-replaced r q to is_r is_q leaves enters other limited allowed = record {
    counted = length_entered_set;
    m_basics = sym (marked-basics_of replaced) ∙ ap (count_by (λ m. m)) (basics_of-replaced s r q to other)
        ∙ marked-exchanged p.matrix (basics_of s) (rw length-map basis.counted) r q (basic_by_status r is_r leaves) (nonbasic_by_status q is_q enters)
        ∙ marked-basics_of s ∙ basis.m_basics;
    free_rows = λ i row free. free_at i row free (eqb_tells i r) (eqb_tells i q);
    allowed = λ k is. allowed_at k is (eqb_tells k r) (eqb_tells k q);
  }
    where
      entered : List Status
      entered = with_status s q Bs

      replaced : List Status
      replaced = with_status (with_status s q Bs) r to

      length_entered : length (with_status s q Bs) ≡ size p.matrix
      length_entered = rw length-set basis.counted

      length_entered_set : length (with_status (with_status s q Bs) r to) ≡ size p.matrix
      length_entered_set = rw (length-set, length-set) basis.counted

      free_at : (i : ℕ) → IsRow p.matrix i → HasNoLimits p i → (((eqb i r ≡ true) × (i ≡ r)) ⊎ ((eqb i r ≡ false) × (i ≢ r)))
          → (((eqb i q ≡ true) × (i ≡ q)) ⊎ ((eqb i q ≡ false) × (i ≢ q))) → status_of (with_status (with_status s q Bs) r to) i ≡ Bs
      free_at i row free (inl same) _ = absurd (has_limit to (lower_of p r) (upper_of p r) other limited allowed (subst (HasNoLimits p) same.1 free))
      free_at i row free (inr apart) (inl same) =
          changed_other r i to (with_status s q Bs) is_r (row.0, omega (arith, row.1)) apart.1 ∙ ap (status_of (with_status s q Bs)) same.1
          ∙ changed_own q Bs s basis.counted is_q
      free_at i row free (inr apart) (inr far) =
          let is : IsVariable p.matrix i = (row.0, omega (arith, row.1)) in
          changed_other r i to (with_status s q Bs) is_r is apart.1 ∙ changed_other q i Bs s is_q is far.1 ∙ basis.free_rows i row free

      allowed_at : (k : ℕ) → IsVariable p.matrix k → (((eqb k r ≡ true) × (k ≡ r)) ⊎ ((eqb k r ≡ false) × (k ≢ r)))
          → (((eqb k q ≡ true) × (k ≡ q)) ⊎ ((eqb k q ≡ false) × (k ≢ q)))
          → IsAllowed (status_of (with_status (with_status s q Bs) r to) k) (lower_of p k) (upper_of p k)
      allowed_at k is (inl same) _ =
          subst (λ i. IsAllowed (status_of (with_status (with_status s q Bs) r to) i) (lower_of p i) (upper_of p i)) (sym same.1)
          (subst (λ st. IsAllowed st (lower_of p r) (upper_of p r)) (sym (changed_own r to (with_status s q Bs) length_entered is_r)) allowed)
      allowed_at k is (inr apart) (inl same) =
          subst (λ st. IsAllowed st (lower_of p k) (upper_of p k))
          (sym (changed_other r k to (with_status s q Bs) is_r is apart.1 ∙ ap (status_of (with_status s q Bs)) same.1
          ∙ changed_own q Bs s basis.counted is_q)) tt
      allowed_at k is (inr apart) (inr far) =
          subst (λ st. IsAllowed st (lower_of p k) (upper_of p k))
          (sym (changed_other r k to (with_status s q Bs) is_r is apart.1 ∙ changed_other q k Bs s is_q is far.1)) (basis.allowed k is)

  -- a nonbasic goes to another limit that it has
  pub IsBasis-flipped : (q : ℕ) (to : Status) → IsVariable p.matrix q → status_of s q ≢ Bs → to ≢ Bs → to ≢ Fr → IsAllowed to (lower_of p q) (upper_of p q) →
      IsBasis p (with_status s q to)
  IsBasis-flipped q to is_q was other limited allowed = record {
    counted = rw length-set basis.counted;
    m_basics = sym (marked-basics_of (with_status s q to)) ∙ ap (count_by (λ m. m)) (basics_of-flipped s q to was other) ∙ marked-basics_of s ∙ basis.m_basics;
    free_rows = λ i row free. free_at i row free (eqb_tells i q);
    allowed = λ k is. allowed_at k is (eqb_tells k q);
  }
    where
      free_at : (i : ℕ) → IsRow p.matrix i → HasNoLimits p i → (((eqb i q ≡ true) × (i ≡ q)) ⊎ ((eqb i q ≡ false) × (i ≢ q))) →
          status_of (with_status s q to) i ≡ Bs
      free_at i row free (inl same) = absurd (has_limit to (lower_of p q) (upper_of p q) other limited allowed (subst (HasNoLimits p) same.1 free))
      free_at i row free (inr apart) = changed_other q i to s is_q (row.0, omega (arith, row.1)) apart.1 ∙ basis.free_rows i row free

      allowed_at : (k : ℕ) → IsVariable p.matrix k → (((eqb k q ≡ true) × (k ≡ q)) ⊎ ((eqb k q ≡ false) × (k ≢ q))) →
          IsAllowed (status_of (with_status s q to) k) (lower_of p k) (upper_of p k)
      allowed_at k is (inl same) =
          subst (λ i. IsAllowed (status_of (with_status s q to) i) (lower_of p i) (upper_of p i)) (sym same.1)
          (subst (λ st. IsAllowed st (lower_of p q) (upper_of p q)) (sym (changed_own q to s basis.counted is_q)) allowed)
      allowed_at k is (inr apart) = subst (λ st. IsAllowed st (lower_of p k) (upper_of p k)) (sym (changed_other q k to s is_q is apart.1)) (basis.allowed k is)
