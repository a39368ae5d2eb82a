-- In the second phase, at one point, the variable that was stopped is not the one to come in again, where nothing past it has changed.
use Rattle.std.proofs.Common.{◌≡◌, ◌≢◌, ℕ, suc, ◌<◌, ◌≤◌, ◌⊎◌, inl, inr, true, false, List, refl, sym, ap, subst, ◌∙◌, arith}
use Rattle.std.specs.Prelude.{Some, None, eqb, leb}
use Rattle.std.proofs.lemmas.Bool.Decides.{eqb_tells, leb_tells}
use Rattle.exact_values.specs.Rational.{zero_ℚ, ◌*ℚ◌, ◌≤ℚ◌, ◌<ℚ◌}
use Rattle.exact_values.specs.Sums.{sum_to}
use Rattle.exact_values.proofs.Order.{le_of_lt, lt_not_le, lt_or_le, apart_from_above, apart_from_below}
use Rattle.exact_values.proofs.Sums.{sum_to-nonnegative}
use Rattle.lp_definitions.specs.LinearProgram.{LinearProgram, Vector, size, IsVariable, IsLinearProgram, KeepsEquations, lower_of, upper_of, for_min}
use Rattle.lp_definitions.specs.LinearProgram.{objective_value}
use Rattle.lp_definitions.specs.Basis.{is_in, is_basic, basics_of, status_of, StandsAt, IsNonbasic, Tableau, IsTableau, objective_rate}
use Rattle.lp_definitions.specs.declared.Status.{Status}
use Rattle.lp_laws.specs.Rates.{weight}
use Rattle.lp_laws.proofs.Values.{clash}
use Rattle.lp_laws.proofs.Optimal.{objective_by_nonbasics}
use Rattle.lp_laws.proofs.Statuses.{status_of_nonbasic, nonbasic_by_status}
use Rattle.simplex_definitions.specs.Moves.{is_fixed, is_no_later, lowers, signed, goes_up, step_length, reaches_first, blocking_variable}
use Rattle.simplex_definitions.specs.Path.{worth_rate, entering_variable}
use Rattle.simplex_laws.specs.Laws.{IsNonsingularBasis}
use Rattle.simplex_laws.proofs.Numbered.{find_some, list_all_from}
use Rattle.simplex_laws.proofs.BlockingVariables.{blocking_variable_some}
use Rattle.simplex_laws.proofs.Turns.{improving}
use Rattle.simplex_laws.proofs.Ends.{right}
use Rattle.simplex_laws.proofs.UnboundedEnds.{enters, IsEntering, improving_keeps, improving_improves}
use Rattle.simplex_laws.proofs.Steps.{signed_zero}
use Rattle.termination_laws.proofs.Numbers.{find_before, against_product, still_product, weighed, for_min_sum}
use Rattle.termination_laws.proofs.Resting.{StopsAt, idle_stops, moving, no_step_length, blocked}

-- at the first basis t improves the objective, and at the second t stops q at once
module _ (p : LinearProgram) (lawful : IsLinearProgram p) (s₁ s₂ : List Status) (t₁ t₂ : Tableau) (at₁ : IsNonsingularBasis p s₁)
    (at₂ : IsNonsingularBasis p s₂) (tab₁ : IsTableau p s₁ t₁) (tab₂ : IsTableau p s₂ t₂)
    (same : (k : ℕ) → IsVariable p.matrix k → t₁.point k ≡ t₂.point k) (t q : ℕ) (moves₁ : entering_variable p s₁ t₁ None ≡ Some t)
    (moves₂ : entering_variable p s₂ t₂ None ≡ Some q)
    (stops : blocking_variable p t₂.point (improving p s₂ t₂ q) ≡ Some t) (at_once : step_length p t₂.point (improving p s₂ t₂ q) t ≡ Some zero_ℚ)
    (past : (k : ℕ) → IsVariable p.matrix k → t < k → status_of s₁ k ≡ status_of s₂ k) (before_t : q < t) where
  abbrev w : Vector
  w = worth_rate p s₁ t₁

  abbrev d : Vector
  d = improving p s₂ t₂ q

  entered₁ : IsEntering p s₁ w t
  entered₁ = enters p s₁ w t at₁.is_basis moves₁

  entered₂ : IsEntering p s₂ (worth_rate p s₂ t₂) q
  entered₂ = enters p s₂ (worth_rate p s₂ t₂) q at₂.is_basis moves₂

  keeps : KeepsEquations p.matrix d
  keeps = improving_keeps p s₂ t₂ at₂.is_basis tab₂ q entered₂

  total : for_min p.sense (objective_value p d) ≡ sum_to (size p.matrix) (λ k. weight (basics_of s₁) d (suc k) *ℚ w (suc k))
  total =
      ap (for_min p.sense) (objective_by_nonbasics p lawful (basics_of s₁) at₁.nonsingular t₁.rate tab₁.are_rates d keeps)
      ∙ for_min_sum p.sense (size p.matrix) (λ k. weight (basics_of s₁) d (suc k)) (λ k. objective_rate p t₁.rate (suc k))

  -- at the first basis k stands where the point of the second is
  stands : (k : ℕ) → IsVariable p.matrix k → StandsAt (status_of s₁ k) (lower_of p k) (upper_of p k) (t₂.point k)
  stands k is = subst (StandsAt (status_of s₁ k) (lower_of p k) (upper_of p k)) (same k is) (tab₁.is_point.placed k is)

  -- none before t is stopped at once
  too_early : (k : ℕ) → IsVariable p.matrix k → k < t → step_length p t₂.point d k ≡ Some zero_ℚ → ⊥
  too_early k is before none =
      clash (sym reaches ∙ find_before (reaches_first p t₂.point d) (size p.matrix) 1 t stops k is.0 before)
    where
      reaches : reaches_first p t₂.point d k ≡ true
      reaches =
          list_all_from (λ i. is_no_later (step_length p t₂.point d k) (step_length p t₂.point d i)) (size p.matrix) 1
          (λ i low high. subst (λ o. is_no_later o (step_length p t₂.point d i) ≡ true) (at_once ∙ sym none)
          ((blocking_variable_some p t₂.point d t stops).1 i (low, omega (arith, high))))

  before_term : (k : ℕ) → IsVariable p.matrix k → k < t → is_in (basics_of s₁) k ≡ false → zero_ℚ ≤ℚ d k *ℚ w k
  before_term k is before out =
      against_product (w k) (d k) (record { rising = λ h. not_up h (lt_or_le zero_ℚ (d k)); falling = λ h. not_down h (lt_or_le (d k) zero_ℚ) })
    where
      rests : StopsAt (lower_of p k) (upper_of p k) (t₂.point k) (w k)
      rests =
          idle_stops (status_of s₁ k) (lower_of p k) (upper_of p k) (t₂.point k) (w k) (status_of_nonbasic p s₁ at₁.is_basis k (is, out))
          (at₁.is_basis.allowed k is) (stands k is)
          (right (status_of s₁ k) (lower_of p k) (upper_of p k) (w k) (is_fixed p k) refl
          (find_before (lowers p s₁ w) (size p.matrix) 1 t moves₁ k is.0 before))

      not_up : w k <ℚ zero_ℚ → ((zero_ℚ <ℚ d k) ⊎ (d k ≤ℚ zero_ℚ)) → d k ≤ℚ zero_ℚ
      not_up h (inl up) =
          absurd (too_early k is before
          (no_step_length (lower_of p k) (upper_of p k) (t₂.point k) (d k) (λ g. rests.rising h) (λ g. absurd (lt_not_le up (le_of_lt g)))
          (apart_from_above up)))
      not_up h (inr other) = other

      not_down : zero_ℚ <ℚ w k → ((d k <ℚ zero_ℚ) ⊎ (zero_ℚ ≤ℚ d k)) → zero_ℚ ≤ℚ d k
      not_down h (inl down) =
          absurd (too_early k is before
          (no_step_length (lower_of p k) (upper_of p k) (t₂.point k) (d k) (λ g. absurd (lt_not_le down (le_of_lt g))) (λ g. rests.falling h)
          (apart_from_below down)))
      not_down h (inr other) = other

  own_term : zero_ℚ ≤ℚ d t *ℚ w t
  own_term =
      against_product (w t) (d t)
      (blocked (status_of s₁ t) (lower_of p t) (upper_of p t) (t₂.point t) (w t) (d t) (at₁.is_basis.allowed t entered₁.is_variable)
      (stands t entered₁.is_variable)
      (moving (status_of s₁ t) (is_fixed p t) (w t) (find_some (lowers p s₁ w) (size p.matrix) 1 t moves₁).passes) at_once)

  past_term : (k : ℕ) → IsVariable p.matrix k → t < k → is_in (basics_of s₁) k ≡ false → zero_ℚ ≤ℚ d k *ℚ w k
  past_term k is after out =
      still_product (w k) (d k)
      (ap (signed (goes_up (worth_rate p s₂ t₂) q)) ((tab₂.are_rates q entered₂.nonbasic).others k out₂ (λ e. omega (arith, e, after, before_t)))
      ∙ signed_zero (goes_up (worth_rate p s₂ t₂) q))
    where
      out₂ : IsNonbasic p.matrix (basics_of s₂) k
      out₂ =
          nonbasic_by_status p s₂ at₂.is_basis k is
          (λ basic. clash (sym (ap is_basic (past k is after ∙ basic)) ∙ status_of_nonbasic p s₁ at₁.is_basis k (is, out)))

  term : (k : ℕ) → IsVariable p.matrix k → zero_ℚ ≤ℚ weight (basics_of s₁) d k *ℚ w k
  term k is = weighed (is_in (basics_of s₁) k) (d k) (w k) (λ out. by_number out (eqb_tells k t) (leb_tells k t))
    where
      by_number : is_in (basics_of s₁) k ≡ false → (((eqb k t ≡ true) × (k ≡ t)) ⊎ ((eqb k t ≡ false) × (k ≢ t))) →
          (((leb k t ≡ true) × (k ≤ t)) ⊎ ((leb k t ≡ false) × (t < k))) → zero_ℚ ≤ℚ d k *ℚ w k
      by_number out (inl at_t) order = subst (λ j. zero_ℚ ≤ℚ d j *ℚ w j) (sym at_t.1) own_term
      by_number out (inr other) (inl low) = before_term k is (omega (arith, low.1, other.1)) out
      by_number out (inr other) (inr high) = past_term k is high.1 out

  pub second_clash : ⊥
  second_clash =
      lt_not_le (improving_improves p s₂ t₂ at₂.is_basis tab₂ q entered₂)
      (subst (λ v. zero_ℚ ≤ℚ v) (sym total)
      (sum_to-nonnegative (size p.matrix) (λ k. weight (basics_of s₁) d (suc k) *ℚ w (suc k)) (λ k below. term (suc k) (omega arith, omega (arith, below)))))
