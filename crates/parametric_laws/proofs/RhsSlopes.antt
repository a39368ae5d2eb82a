-- The points of a basis at each value of the parameter are those of the point at 0 and of the slope.
use Rattle.std.proofs.Common.{◌≡◌, ℕ, List, refl, sym, ap₂, subst, subst₂, ◌∙◌, pos, false}
use Rattle.std.specs.Prelude.{Option, Some, None}
use Rattle.std.proofs.lemmas.Option.{same_Some}
use Rattle.exact_values.specs.Rational.{ℚ, zero_ℚ, one_ℚ, ◌+ℚ◌, ◌-ℚ◌, ◌*ℚ◌}
use Rattle.exact_values.proofs.Ring.{by_ring2, ◌⊕◌, ◌⊖◌, ◌⊗◌, ◌≐◌, number}
use Rattle.lp_definitions.specs.LinearProgram.{LinearProgram, Vector, value_at, IsVariable, KeepsEquations, lower_of, upper_of}
use Rattle.lp_definitions.specs.Basis.{is_basic, basics_of, status_of, IsNonbasic, StandsAt, IsPointOf}
use Rattle.lp_definitions.specs.declared.Status.{Status}
use Rattle.lp_definitions.specs.declared.Status.TheVariants.{Bs, Ll, Ul, Fr}
use Rattle.lp_laws.proofs.Equations.{KeepsEquations-same, KeepsEquations-sub}
use Rattle.lp_laws.proofs.Statuses.{status_of_nonbasic}
use Rattle.lp_laws.proofs.Uniqueness.{same_from_nonbasics}
use Rattle.simplex_laws.specs.Laws.{IsNonsingularBasis}
use Rattle.sensitivity_laws.proofs.MovedLimits.{moved, lower_is, upper_is, unmoved, free_unshifted}
use Rattle.simplex_definitions.specs.Chain.{along}
use Rattle.simplex_definitions.specs.RhsRun.{shift_of, rhs_family, IsSlope}

-- a value that stands at its limit moves with it
lines_move : (l s z r : ℚ) → l +ℚ zero_ℚ *ℚ s ≡ z +ℚ zero_ℚ *ℚ r → l +ℚ one_ℚ *ℚ s ≡ z +ℚ one_ℚ *ℚ r → r ≡ s
lines_move l s z r e f =
    by_ring2 z r (λ z r. r ≐ (z ⊕ number (pos 1) ⊗ r) ⊖ (z ⊕ number (pos 0) ⊗ r)) refl
    ∙ ap₂ ◌-ℚ◌ (sym f) (sym e)
    ∙ by_ring2 l s (λ l s. (l ⊕ number (pos 1) ⊗ s) ⊖ (l ⊕ number (pos 0) ⊗ s) ≐ s) refl

moves_with : (low : Option ℚ) (z r s : ℚ) → ((theta : ℚ) → moved theta s low ≡ Some (z +ℚ theta *ℚ r)) → r ≡ s
moves_with None z r s stands = let e = stands zero_ℚ in cc
moves_with (Some l) z r s stands = lines_move l s z r (same_Some _ _ (stands zero_ℚ)) (same_Some _ _ (stands one_ℚ))

stays_with : (z r : ℚ) → ((theta : ℚ) → z +ℚ theta *ℚ r ≡ zero_ℚ) → r ≡ zero_ℚ
stays_with z r stands =
    by_ring2 z r (λ z r. r ≐ (z ⊕ number (pos 1) ⊗ r) ⊖ (z ⊕ number (pos 0) ⊗ r)) refl
    ∙ ap₂ ◌-ℚ◌ (stands one_ℚ) (stands zero_ℚ)
    ∙ by_ring2 z r (λ z r. number (pos 0) ⊖ number (pos 0) ≐ number (pos 0)) refl

moves_by_status : (st : Status) (low high : Option ℚ) (z r s : ℚ) → is_basic st ≡ false → (st ≡ Fr → s ≡ zero_ℚ) →
    ((theta : ℚ) → StandsAt st (moved theta s low) (moved theta s high) (z +ℚ theta *ℚ r)) → r ≡ s
moves_by_status Bs low high z r s out free stands = cc
moves_by_status Ll low high z r s out free stands = moves_with low z r s stands
moves_by_status Ul low high z r s out free stands = moves_with high z r s stands
moves_by_status Fr low high z r s out free stands = stays_with z r stands ∙ sym (free refl)

-- value and rate make the points of the basis at every value of the parameter
module _ (p : LinearProgram) (shift : List ℚ) (s : List Status) (at : IsNonsingularBasis p s) (value rate : List ℚ)
    (points : (theta : ℚ) → IsPointOf (rhs_family p shift theta) s (along theta value rate)) where
  placed : (k : ℕ) → IsVariable p.matrix k → (theta : ℚ) →
      StandsAt (status_of s k) (moved theta (shift_of p.matrix shift k) (lower_of p k)) (moved theta (shift_of p.matrix shift k) (upper_of p k))
      (along theta value rate k)
  placed k is theta =
      subst (λ low. StandsAt (status_of s k) low (moved theta (shift_of p.matrix shift k) (upper_of p k)) (along theta value rate k))
      (lower_is p shift theta k is)
      (subst (λ high. StandsAt (status_of s k) (lower_of (rhs_family p shift theta) k) high (along theta value rate k)) (upper_is p shift theta k is)
      ((points theta).placed k is))

  pub nonbasic_rate : (k : ℕ) → IsNonbasic p.matrix (basics_of s) k → value_at rate k ≡ shift_of p.matrix shift k
  nonbasic_rate k out =
      moves_by_status (status_of s k) (lower_of p k) (upper_of p k) (value_at value k) (value_at rate k) (shift_of p.matrix shift k)
      (status_of_nonbasic p s at.is_basis k out) (free_unshifted p shift s k at out.0) (placed k out.0)

  rate_keeps : KeepsEquations p.matrix (value_at rate)
  rate_keeps =
      KeepsEquations-same p.matrix (λ k. along one_ℚ value rate k -ℚ along zero_ℚ value rate k) (value_at rate)
      (λ k is. by_ring2 (value_at value k) (value_at rate k) (λ z r. (z ⊕ number (pos 1) ⊗ r) ⊖ (z ⊕ number (pos 0) ⊗ r) ≐ r) refl)
      (KeepsEquations-sub p.matrix (along one_ℚ value rate) (along zero_ℚ value rate) (points one_ℚ).keeps (points zero_ℚ).keeps)

  pub slope_is_rate : (v : Vector) → KeepsEquations p.matrix v → ((k : ℕ) → IsNonbasic p.matrix (basics_of s) k → v k ≡ shift_of p.matrix shift k) →
      (k : ℕ) → IsVariable p.matrix k → v k ≡ value_at rate k
  slope_is_rate v keeps there =
      same_from_nonbasics p.matrix (basics_of s) v (value_at rate) at.nonsingular keeps rate_keeps (λ k out. there k out ∙ sym (nonbasic_rate k out))

  pub rate_is_slope : IsSlope p s shift (value_at rate)
  rate_is_slope = record { keeps = rate_keeps; placed = nonbasic_rate }

  -- the point at 0
  pub value_is_point : IsPointOf p s (value_at value)
  value_is_point = record {
    keeps = KeepsEquations-same p.matrix (along zero_ℚ value rate) (value_at value) (λ k is. still k) (points zero_ℚ).keeps;
    placed = λ k is. subst (StandsAt (status_of s k) (lower_of p k) (upper_of p k)) (still k)
        (subst₂ (λ (low high : Option ℚ). StandsAt (status_of s k) low high (along zero_ℚ value rate k)) (unmoved (shift_of p.matrix shift k) (lower_of p k))
        (unmoved (shift_of p.matrix shift k) (upper_of p k)) (placed k is zero_ℚ));
  }
    where
      still : (k : ℕ) → along zero_ℚ value rate k ≡ value_at value k
      still k = by_ring2 (value_at value k) (value_at rate k) (λ z r. z ⊕ number (pos 0) ⊗ r ≐ z) refl
