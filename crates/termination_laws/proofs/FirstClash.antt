-- In the first phase the variable that left last is not the one to come in again, where nothing past it has changed.
use Rattle.std.proofs.Common.{◌≡◌, ◌≢◌, ℕ, suc, ◌-◌, ◌<◌, ◌≤◌, ◌⊎◌, inl, inr, true, false, List, pos, refl, sym, ap, subst, ◌∙◌, arith}
use Rattle.std.specs.Prelude.{IfSome, not, ◌&&◌, if◌then◌else◌, eqb, leb}
use Rattle.std.proofs.lemmas.Bool.Decides.{eqb_tells, leb_tells}
use Rattle.exact_values.specs.Rational.{zero_ℚ, ◌-ℚ◌, ◌*ℚ◌, ◌≤ℚ◌, ◌<ℚ◌}
use Rattle.exact_values.specs.Sums.{sum_to}
use Rattle.exact_values.proofs.Ring.{by_ring2, ◌⊕◌, ◌⊖◌, ◌≐◌, number, opposite}
use Rattle.exact_values.proofs.Order.{le_of_lt, le_by_one, lt_not_le, le_trans}
use Rattle.exact_values.proofs.SumsOrder.{sum_to-positive}
use Rattle.lp_definitions.specs.LinearProgram.{LinearProgram, Vector, size, IsVariable, KeepsEquations, lower_of, upper_of}
use Rattle.lp_definitions.specs.Basis.{is_in, basics_of, status_of, StandsAt, Tableau, IsTableau}
use Rattle.lp_definitions.specs.declared.Status.{Status}
use Rattle.lp_definitions.specs.declared.Status.TheVariants.{Ll, Ul}
use Rattle.lp_laws.specs.Rates.{weight}
use Rattle.lp_laws.proofs.Values.{sub-self}
use Rattle.lp_laws.proofs.Equations.{KeepsEquations-sub}
use Rattle.lp_laws.proofs.Uniqueness.{is_in-basics_of, one_place}
use Rattle.lp_laws.proofs.Combination.{by_nonbasics}
use Rattle.lp_laws.proofs.Statuses.{status_of_nonbasic}
use Rattle.simplex_definitions.specs.Moves.{is_below, is_outside, is_crossed, is_fixed, lowers, signed}
use Rattle.simplex_definitions.specs.Path.{excess_rate}
use Rattle.simplex_laws.specs.Laws.{IsNonsingularBasis}
use Rattle.simplex_laws.proofs.Numbered.{find_none}
use Rattle.simplex_laws.proofs.Turns.{IsFirstPhase}
use Rattle.simplex_laws.proofs.Ends.{right, inside, low_of, high_of, and_true}
use Rattle.simplex_laws.proofs.UnboundedEnds.{lowering_enters, IsEntering}
use Rattle.simplex_laws.proofs.Rays.{Breaks, breaks_lower, breaks_upper, broken_basic, broken_limit}
use Rattle.termination_laws.proofs.Numbers.{find_before, against_product, still_product, weighed, signed_sum}
use Rattle.termination_laws.proofs.Resting.{StopsAt, idle_stops, moving, comes_back}

-- at the first basis t comes in to bring r back, and each nonbasic before t doesn't bring it back, or has one value at both; and at the
-- second t is the first that is outside its limits
module _ (p : LinearProgram) (s₁ s₂ : List Status) (t₁ t₂ : Tableau) (at₁ : IsNonsingularBasis p s₁) (at₂ : IsNonsingularBasis p s₂) (tab₁ : IsTableau p s₁ t₁)
    (tab₂ : IsTableau p s₂ t₂)
    (r t : ℕ) (phase₁ : IsFirstPhase p s₁ t₁ r) (is_t : IsVariable p.matrix t)
    (lowers_it : lowers p s₁ (excess_rate t₁.rate r (is_below p t₁.point r)) t ≡ true)
    (earlier : (k : ℕ) → IsVariable p.matrix k → k < t → is_in (basics_of s₁) k ≡ false →
    (lowers p s₁ (excess_rate t₁.rate r (is_below p t₁.point r)) k ≡ false) ⊎ (t₂.point k ≡ t₁.point k))
    (phase₂ : IsFirstPhase p s₂ t₂ t)
    (left : status_of s₁ t ≡ (if is_below p t₂.point t then Ll else Ul))
    (past : (k : ℕ) → IsVariable p.matrix k → t < k → status_of s₁ k ≡ status_of s₂ k) where
  abbrev x : Vector
  x k = t₂.point k -ℚ t₁.point k

  abbrev e : Vector
  e = excess_rate t₁.rate r (is_below p t₁.point r)

  entered : IsEntering p s₁ e t
  entered = lowering_enters p s₁ e t at₁.is_basis is_t lowers_it

  keeps : KeepsEquations p.matrix x
  keeps = KeepsEquations-sub p.matrix t₂.point t₁.point tab₂.is_point.keeps tab₁.is_point.keeps

  total : signed (not (is_below p t₁.point r)) (x r) ≡ sum_to (size p.matrix) (λ k. weight (basics_of s₁) x (suc k) *ℚ e (suc k))
  total =
      ap (signed (not (is_below p t₁.point r)))
      (by_nonbasics p.matrix (basics_of s₁) t₁.rate tab₁.are_rates at₁.nonsingular x keeps r (broken_basic p s₁ t₁ r phase₁).0)
      ∙ signed_sum (not (is_below p t₁.point r)) (size p.matrix) (λ k. weight (basics_of s₁) x (suc k)) (λ k. t₁.rate r (suc k))

  -- at the second basis all before t are within their limits
  in_limits : (k : ℕ) → IsVariable p.matrix k → k < t → IfSome (lower_of p k) (λ l. l ≤ℚ t₂.point k) × IfSome (upper_of p k) (λ u. t₂.point k ≤ℚ u)
  in_limits k is before =
      inside (status_of s₂ k) (lower_of p k) (upper_of p k) (t₂.point k) (at₂.is_basis.allowed k is) (tab₂.is_point.placed k is)
      (find_none (is_crossed p) (size p.matrix) 1 phase₂.uncrossed k is.0 (omega (arith, is.1)))
      (λ basic.
      let among : is_in (basics_of s₂) k ≡ true = is_in-basics_of s₂ k is.0 (omega (arith, is.1, at₂.is_basis.counted)) ∙ basic in
      and_true (is_in (basics_of s₂) k) (is_outside p t₂.point k)
      (find_before (λ k. is_in (basics_of s₂) k && is_outside p t₂.point k) (size p.matrix) 1 t phase₂.broken k is.0 before) among)

  back : zero_ℚ <ℚ x t *ℚ e t
  back =
      comes_back (status_of s₁ t) (is_fixed p t) (lower_of p t) (upper_of p t) (t₁.point t) (t₂.point t) (e t) (is_below p t₂.point t) left
      (tab₁.is_point.placed t entered.is_variable)
      (moving (status_of s₁ t) (is_fixed p t) (e t) lowers_it) (broken_limit p s₂ t₂ t phase₂)

  before_term : (k : ℕ) → IsVariable p.matrix k → k < t → is_in (basics_of s₁) k ≡ false → zero_ℚ ≤ℚ x k *ℚ e k
  before_term k is before out = by_case (earlier k is before out)
    where
      stops : lowers p s₁ e k ≡ false → StopsAt (lower_of p k) (upper_of p k) (t₁.point k) (e k)
      stops idle =
          idle_stops (status_of s₁ k) (lower_of p k) (upper_of p k) (t₁.point k) (e k) (status_of_nonbasic p s₁ at₁.is_basis k (is, out))
          (at₁.is_basis.allowed k is) (tab₁.is_point.placed k is)
          (right (status_of s₁ k) (lower_of p k) (upper_of p k) (e k) (is_fixed p k) refl idle)

      by_case : (lowers p s₁ e k ≡ false) ⊎ (t₂.point k ≡ t₁.point k) → zero_ℚ ≤ℚ x k *ℚ e k
      by_case (inl idle) =
          against_product (e k) (x k) (record {
            rising =
                λ h. le_by_one (high_of (upper_of p k) (t₂.point k) (t₁.point k) (in_limits k is before).1 ((stops idle).rising h))
                (by_ring2 (t₂.point k) (t₁.point k) (λ y z. number (pos 0) ≐ (y ⊖ z) ⊕ (z ⊖ y)) refl);
            falling =
                λ h. le_by_one (low_of (lower_of p k) (t₂.point k) (t₁.point k) (in_limits k is before).0 ((stops idle).falling h))
                (by_ring2 (t₂.point k) (t₁.point k) (λ y z. y ⊖ z ≐ number (pos 0) ⊕ (y ⊖ z)) refl);
          })
      by_case (inr same) = still_product (e k) (x k) (ap (λ v. v -ℚ t₁.point k) same ∙ sub-self (t₁.point k))

  past_term : (k : ℕ) → IsVariable p.matrix k → t < k → is_in (basics_of s₁) k ≡ false → zero_ℚ ≤ℚ x k *ℚ e k
  past_term k is after out =
      still_product (e k) (x k)
      (ap (λ v. v -ℚ t₁.point k)
      (one_place (status_of s₁ k) (lower_of p k) (upper_of p k) (t₂.point k) (t₁.point k) (status_of_nonbasic p s₁ at₁.is_basis k (is, out))
      (subst (λ st. StandsAt st (lower_of p k) (upper_of p k) (t₂.point k)) (sym (past k is after)) (tab₂.is_point.placed k is)) (tab₁.is_point.placed k is))
      ∙ sub-self (t₁.point k))

  term : (k : ℕ) → IsVariable p.matrix k → zero_ℚ ≤ℚ weight (basics_of s₁) x k *ℚ e k
  term k is = weighed (is_in (basics_of s₁) k) (x k) (e k) (λ out. by_number out (eqb_tells k t) (leb_tells k t))
    where
      by_number : is_in (basics_of s₁) k ≡ false → (((eqb k t ≡ true) × (k ≡ t)) ⊎ ((eqb k t ≡ false) × (k ≢ t))) →
          (((leb k t ≡ true) × (k ≤ t)) ⊎ ((leb k t ≡ false) × (t < k))) → zero_ℚ ≤ℚ x k *ℚ e k
      by_number out (inl same) order = subst (λ j. zero_ℚ ≤ℚ x j *ℚ e j) (sym same.1) (le_of_lt back)
      by_number out (inr other) (inl low) = before_term k is (omega (arith, low.1, other.1)) out
      by_number out (inr other) (inr high) = past_term k is high.1 out

  farther : zero_ℚ <ℚ signed (not (is_below p t₁.point r)) (x r)
  farther =
      subst (λ v. zero_ℚ <ℚ v) (sym total)
      (sum_to-positive (size p.matrix) (t - 1) (λ k. weight (basics_of s₁) x (suc k) *ℚ e (suc k)) (omega (arith, entered.is_variable.0, entered.is_variable.1))
      (λ k below. term (suc k) (omega arith, omega (arith, below)))
      (subst (λ j. zero_ℚ <ℚ weight (basics_of s₁) x j *ℚ e j) own counts))
    where
      own : t ≡ suc (t - 1)
      own = omega (arith, entered.is_variable.0)

      counts : zero_ℚ <ℚ weight (basics_of s₁) x t *ℚ e t
      counts = rw entered.nonbasic.1 back

  pub first_clash : r < t → ⊥
  first_clash before = by_limit (broken_limit p s₁ t₁ r phase₁)
    where
      within : IfSome (lower_of p r) (λ l. l ≤ℚ t₂.point r) × IfSome (upper_of p r) (λ u. t₂.point r ≤ℚ u)
      within = in_limits r (broken_basic p s₁ t₁ r phase₁).0 before

      by_limit : Breaks (lower_of p r) (upper_of p r) (t₁.point r) (is_below p t₁.point r) → ⊥
      by_limit (breaks_lower l is limit broken) =
          let down : zero_ℚ <ℚ signed (not true) (x r) = subst (λ b. zero_ℚ <ℚ signed (not b) (x r)) is farther in
          let lower : t₂.point r ≤ℚ t₁.point r =
          le_by_one (le_of_lt down) (by_ring2 (t₂.point r) (t₁.point r) (λ y z. z ≐ y ⊕ (opposite (y ⊖ z) ⊖ number (pos 0))) refl) in
          lt_not_le broken (le_trans (low_of (lower_of p r) (t₂.point r) l within.0 limit) lower)
      by_limit (breaks_upper u is limit broken) =
          let up : zero_ℚ <ℚ signed (not false) (x r) = subst (λ b. zero_ℚ <ℚ signed (not b) (x r)) is farther in
          let higher : t₁.point r ≤ℚ t₂.point r =
          le_by_one (le_of_lt up) (by_ring2 (t₂.point r) (t₁.point r) (λ y z. y ≐ z ⊕ ((y ⊖ z) ⊖ number (pos 0))) refl) in
          lt_not_le broken (le_trans higher (high_of (upper_of p r) (t₂.point r) u within.1 limit))
