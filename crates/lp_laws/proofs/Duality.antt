-- What the certificates of the three answers prove: dual certificates, rays and directions.
use Rattle.std.proofs.Common.{◌≡◌, ℕ, suc, ◌+◌, pos, refl, sym, ap, ◌∙◌, subst, subst₂, ◌⊎◌, inl, inr, Option, Some, None, Bool, true, false, Ordering, Less}
use Rattle.std.proofs.Common.{Equal, Greater, arith, [], ◌∷◌}
use Rattle.std.specs.Prelude.{IfSome, IsSome, unwrap_or, cond}
use Rattle.exact_values.specs.Rational.{ℚ, zero_ℚ, one_ℚ, ◌+ℚ◌, ◌*ℚ◌, neg_ℚ, ◌≤ℚ◌, ◌<ℚ◌, compare_ℚ}
use Rattle.exact_values.specs.Tests.{lt_ℚ, is_less}
use Rattle.exact_values.specs.Sums.{sum_to}
use Rattle.exact_values.proofs.Ring.{by_ring2, by_ring3, by_normal, atom, opposite, number, ◌⊕◌, ◌⊖◌, ◌⊗◌, ◌≐◌}
use Rattle.exact_values.proofs.RingLaws.{zero-mul}
use Rattle.exact_values.proofs.Compare.{lt_from_compare, compare_from_lt}
use Rattle.exact_values.proofs.Order.{le_trans, le_of_eq, le_of_lt, le_antisymm, lt_or_le, lt_irrefl, lt_not_le, lt_of_le_of_lt, lt_by_one, le_by_product}
use Rattle.exact_values.proofs.Order.{mul-le-mul_left, mul-le-mul_negative, zero_below_one}
use Rattle.exact_values.proofs.Sums.{sum_to-same, sum_to-zero, sum_to-neg, sum_to-le}
use Rattle.lp_definitions.specs.LinearProgram.{Matrix, LinearProgram, Vector, size, entry, cost, objective_value, with_change_row, for_min, lower_of, upper_of}
use Rattle.lp_definitions.specs.LinearProgram.{IsColumn, IsVariable, KeepsEquations, IsLinearProgram}
use Rattle.lp_definitions.specs.Solutions.{IsFeasible, IsWithinLimits, IsBest, IsDualCertificate, IsCrossed, IsRay, limit_against, ProvesInfeasible}
use Rattle.lp_definitions.specs.Solutions.{ProvesUnbounded, IsInfeasible, IsBettered, IsUnbounded, by_crossed, by_ray}
use Rattle.lp_definitions.specs.declared.Change.{Change}
use Rattle.lp_definitions.specs.declared.Sense.{Sense}
use Rattle.lp_definitions.specs.declared.Sense.TheVariants.{Min, Max}
use Rattle.lp_laws.specs.Vectors.{functional, column_value, along}
use Rattle.lp_laws.proofs.Values.{clash}
use Rattle.lp_laws.proofs.Equations.{KeepsEquations-along}
use Rattle.lp_laws.proofs.Functionals.{functional_by_columns, objective_by_columns}

-- ---- dual certificates

-- prices count each column at its cost, so they value each vector that keeps the equations at its objective
pub objective_by_prices : (p : LinearProgram) → IsLinearProgram p → (y : Vector) → ((j : ℕ) → IsColumn p.matrix j → column_value p.matrix y j ≡ cost p j)
    → (x : Vector) → KeepsEquations p.matrix x → functional p.matrix y x ≡ objective_value p x
objective_by_prices p lawful y priced x keeps =
    functional_by_columns p.matrix y x keeps
    ∙ sum_to-same p.cols _ _ (λ j below. ap (λ s. s *ℚ x (p.rows + suc j)) (priced (suc j) (omega arith, omega (arith, below))))
    ∙ sym (objective_by_columns p lawful x keeps)

pub priced_by_certificate : (p : LinearProgram) (z y : Vector) → IsDualCertificate p z y → (j : ℕ) → IsColumn p.matrix j → column_value p.matrix y j ≡ cost p j
priced_by_certificate p z y certificate j is =
    ap (λ s. s +ℚ sum_to p.rows (λ i. y (suc i) *ℚ entry p.matrix (suc i) j)) (certificate.reduced j is)
    ∙ by_ring2 (cost p j) (sum_to p.rows (λ i. y (suc i) *ℚ entry p.matrix (suc i) j)) (λ c s. c ⊖ s ⊕ s ≐ c) refl

-- a multiple of v by a value at the limit that v meets is at most its multiple by any value within the limits
least_at_limit : (v x u : ℚ) (low high : Option ℚ) → (zero_ℚ <ℚ v → low ≡ Some x) → (v <ℚ zero_ℚ → high ≡ Some x)
    → IfSome low (λ l. l ≤ℚ u) → IfSome high (λ h. u ≤ℚ h) → v *ℚ x ≤ℚ v *ℚ u
least_at_limit v x u low high at_lower at_upper above below = by_sign (lt_or_le v zero_ℚ) (lt_or_le zero_ℚ v)
  where
    low_met : low ≡ Some x → x ≤ℚ u
    low_met e = subst (λ o. IfSome o (λ l. l ≤ℚ u)) e above

    high_met : high ≡ Some x → u ≤ℚ x
    high_met e = subst (λ o. IfSome o (λ h. u ≤ℚ h)) e below

    by_sign : (v <ℚ zero_ℚ) ⊎ (zero_ℚ ≤ℚ v) → (zero_ℚ <ℚ v) ⊎ (v ≤ℚ zero_ℚ) → v *ℚ x ≤ℚ v *ℚ u
    by_sign (inl negative) _ = mul-le-mul_negative (le_of_lt negative) (high_met (at_upper negative))
    by_sign _ (inl positive) = mul-le-mul_left (le_of_lt positive) (low_met (at_lower positive))
    by_sign (inr some) (inr none) =
        let none : v ≡ zero_ℚ = le_antisymm none some in le_of_eq (ap (λ s. s *ℚ x) none ∙ zero-mul x ∙ sym (zero-mul u) ∙ ap (λ s. s *ℚ u) (sym none))

-- a functional, as it counts where less is better
for_min-functional : (s : Sense) (a : Matrix) (y x : Vector) → for_min s (functional a y x) ≡ functional a (λ k. for_min s (y k)) x
for_min-functional Min a y x = refl
for_min-functional Max a y x =
    sym (sum_to-neg (size a) (λ k. y (suc k) *ℚ x (suc k)))
    ∙ sum_to-same (size a) _ _ (λ k _. by_ring2 (y (suc k)) (x (suc k)) (λ y x. opposite (y ⊗ x) ≐ opposite y ⊗ x) refl)

-- weak duality: the point that the prices justify is best
pub best_by_prices : (p : LinearProgram) → IsLinearProgram p → (z y : Vector) → IsFeasible p z → IsDualCertificate p z y → IsBest p z
best_by_prices p lawful z y feasible certificate = record { feasible = feasible; unimproved = unimproved }
  where
    worth : (x : Vector) → KeepsEquations p.matrix x → functional p.matrix (λ k. for_min p.sense (y k)) x ≡ for_min p.sense (objective_value p x)
    worth x keeps =
        sym (for_min-functional p.sense p.matrix y x) ∙ ap (for_min p.sense) (objective_by_prices p lawful y (priced_by_certificate p z y certificate) x keeps)

    unimproved : (w : Vector) → IsFeasible p w → for_min p.sense (objective_value p z) ≤ℚ for_min p.sense (objective_value p w)
    unimproved w other =
        subst₂ ◌≤ℚ◌ (worth z feasible.keeps) (worth w other.keeps)
        (sum_to-le (size p.matrix) _ _ (λ k below.
        let is : IsVariable p.matrix (suc k) = (omega arith, omega (arith, below)) in
        least_at_limit (for_min p.sense (y (suc k))) (z (suc k)) (w (suc k)) (lower_of p (suc k)) (upper_of p (suc k))
        (certificate.at_lower (suc k) is) (certificate.at_upper (suc k) is) (other.within (suc k) is).0 (other.within (suc k) is).1))

-- ---- no feasible vector

pub infeasible_by_crossed : (p : LinearProgram) (k : ℕ) → IsCrossed p k → IsInfeasible p
infeasible_by_crossed p k crossed z feasible =
    lt_not_le crossed.crossed
    (le_trans (subst (λ o. IfSome o (λ l. l ≤ℚ z k)) crossed.lower (feasible.within k crossed.is_variable).0)
    (subst (λ o. IfSome o (λ u. z k ≤ℚ u)) crossed.upper (feasible.within k crossed.is_variable).1))

-- the test of order and the order
pub test_of_below : {x y : ℚ} → x <ℚ y → lt_ℚ x y ≡ true
test_of_below below = ap is_less (compare_from_lt below)

pub below_of_test : {x y : ℚ} → lt_ℚ x y ≡ true → x <ℚ y
below_of_test {x} {y} e = lt_from_compare (less_of (compare_ℚ x y) e)
  where
    less_of : (o : Ordering) → is_less o ≡ true → o ≡ Less
    less_of Less e = refl
    less_of Equal e = absurd (clash (sym e))
    less_of Greater e = absurd (clash (sym e))

-- the multiple of a value within the limits is at most that of the limit which the multiplier meets
most_at_limit : (w x : ℚ) (low high : Option ℚ) (test : Bool) → lt_ℚ zero_ℚ w ≡ test → (zero_ℚ <ℚ w → IsSome high) → (w <ℚ zero_ℚ → IsSome low)
    → IfSome low (λ l. l ≤ℚ x) → IfSome high (λ h. x ≤ℚ h) → w *ℚ x ≤ℚ w *ℚ unwrap_or (cond test high low) zero_ℚ
most_at_limit w x low high test is meets_upper meets_lower above below = by_sign test is (lt_or_le zero_ℚ w) (lt_or_le w zero_ℚ)
  where
    none_is_some : {A : Type 0} → false ≡ true → A
    none_is_some e = cc

    at_high : (o : Option ℚ) → zero_ℚ <ℚ w → IsSome o → IfSome o (λ h. x ≤ℚ h) → w *ℚ x ≤ℚ w *ℚ unwrap_or o zero_ℚ
    at_high (Some h) positive some below = mul-le-mul_left (le_of_lt positive) below
    at_high None positive some below = none_is_some some

    at_low : (o : Option ℚ) → w <ℚ zero_ℚ → IsSome o → IfSome o (λ l. l ≤ℚ x) → w *ℚ x ≤ℚ w *ℚ unwrap_or o zero_ℚ
    at_low (Some l) negative some above = mul-le-mul_negative (le_of_lt negative) above
    at_low None negative some above = none_is_some some

    at_zero : (u : ℚ) → w ≡ zero_ℚ → w *ℚ x ≤ℚ w *ℚ u
    at_zero u none = le_of_eq (ap (λ s. s *ℚ x) none ∙ zero-mul x ∙ sym (zero-mul u) ∙ ap (λ s. s *ℚ u) (sym none))

    by_sign : (test : Bool) → lt_ℚ zero_ℚ w ≡ test → (zero_ℚ <ℚ w) ⊎ (w ≤ℚ zero_ℚ) → (w <ℚ zero_ℚ) ⊎ (zero_ℚ ≤ℚ w) →
        w *ℚ x ≤ℚ w *ℚ unwrap_or (cond test high low) zero_ℚ
    by_sign true is _ _ = let positive : zero_ℚ <ℚ w = below_of_test is in at_high high positive (meets_upper positive) below
    by_sign false is (inl positive) _ = absurd (clash (sym (test_of_below positive) ∙ is))
    by_sign false is (inr none) (inl negative) = at_low low negative (meets_lower negative) above
    by_sign false is (inr none) (inr some) = at_zero (unwrap_or low zero_ℚ) (le_antisymm none some)

-- a functional that counts each column at nothing values each vector that keeps the equations at nothing
pub vanishes_by_columns : (a : Matrix) (w : Vector) → ((j : ℕ) → IsColumn a j → column_value a w j ≡ zero_ℚ) → (x : Vector) → KeepsEquations a x →
    functional a w x ≡ zero_ℚ
vanishes_by_columns a w vanishes x keeps =
    functional_by_columns a w x keeps
    ∙ sum_to-zero a.cols _ (λ j below. ap (λ s. s *ℚ x (a.rows + suc j)) (vanishes (suc j) (omega arith, omega (arith, below))) ∙ zero-mul (x (a.rows + suc j)))

pub infeasible_by_ray : (p : LinearProgram) (w : Vector) → IsRay p w → IsInfeasible p
infeasible_by_ray p w ray z feasible =
    lt_irrefl (lt_of_le_of_lt
    (subst (λ s. s ≤ℚ sum_to (size p.matrix) (λ k. w (suc k) *ℚ unwrap_or (limit_against p w (suc k)) zero_ℚ))
    (vanishes_by_columns p.matrix w ray.vanishes z feasible.keeps)
    (sum_to-le (size p.matrix) _ _ (λ k below.
    let is : IsVariable p.matrix (suc k) = (omega arith, omega (arith, below)) in
    most_at_limit (w (suc k)) (z (suc k)) (lower_of p (suc k)) (upper_of p (suc k)) (lt_ℚ zero_ℚ (w (suc k))) refl
    (ray.meets_upper (suc k) is) (ray.meets_lower (suc k) is) (feasible.within (suc k) is).0 (feasible.within (suc k) is).1)))
    ray.negative)

pub infeasible_by_proof : (p : LinearProgram) → ProvesInfeasible p → IsInfeasible p
infeasible_by_proof p (by_crossed k crossed) = infeasible_by_crossed p k crossed
infeasible_by_proof p (by_ray w ray) = infeasible_by_ray p w ray

-- ---- no best vector

-- the objective at the length t along a direction
pub for_min-along : (p : LinearProgram) (z : Vector) (t : ℚ) (d : Vector)
    → for_min p.sense (objective_value p (along z t d)) ≡ for_min p.sense (objective_value p z) +ℚ t *ℚ for_min p.sense (objective_value p d)
for_min-along p z t d = turned p.sense (objective_value p z) (objective_value p d) (objective_value p (along z t d)) (at p.change)
  where
    at : (c : Option Change) →
        with_change_row c (along z t d) (along z t d p.objective) ≡ with_change_row c z (z p.objective) +ℚ t *ℚ with_change_row c d (d p.objective)
    at None = refl
    at (Some c) =
        by_normal (z p.objective ∷ t ∷ d p.objective ∷ c.theta ∷ z c.row ∷ d c.row ∷ [])
        (atom 0 ⊕ atom 1 ⊗ atom 2 ⊕ atom 3 ⊗ (atom 4 ⊕ atom 1 ⊗ atom 5))
        (atom 0 ⊕ atom 3 ⊗ atom 4 ⊕ atom 1 ⊗ (atom 2 ⊕ atom 3 ⊗ atom 5)) refl

    turned : (s : Sense) (u v x : ℚ) → x ≡ u +ℚ t *ℚ v → for_min s x ≡ for_min s u +ℚ t *ℚ for_min s v
    turned Min u v x e = e
    turned Max u v x e = ap neg_ℚ e ∙ by_ring3 u t v (λ u t v. opposite (u ⊕ t ⊗ v) ≐ opposite u ⊕ t ⊗ opposite v) refl

-- where a direction meets no limit, each vector along it stays within the limits
pub along_within : (p : LinearProgram) (z : Vector) (t : ℚ) (d : Vector) → zero_ℚ ≤ℚ t
    → ((k : ℕ) → IsVariable p.matrix k → d k <ℚ zero_ℚ → lower_of p k ≡ None) → ((k : ℕ) → IsVariable p.matrix k → zero_ℚ <ℚ d k → upper_of p k ≡ None)
    → IsWithinLimits p z → IsWithinLimits p (along z t d)
along_within p z t d some falls rises within k is =
    (above (lower_of p k) (falls k is) (lt_or_le (d k) zero_ℚ) (within k is).0, below (upper_of p k) (rises k is) (lt_or_le zero_ℚ (d k)) (within k is).1)
  where
    above : (low : Option ℚ) → (d k <ℚ zero_ℚ → low ≡ None) → (d k <ℚ zero_ℚ) ⊎ (zero_ℚ ≤ℚ d k) → IfSome low (λ l. l ≤ℚ z k) →
        IfSome low (λ l. l ≤ℚ z k +ℚ t *ℚ d k)
    above None none sign before = tt
    above (Some l) none (inl negative) before = absurd (let P : Some l ≡ None → ⊥ = λ e. cc in P (none negative))
    above (Some l) none (inr rising) before =
        le_trans before (le_by_product some rising (by_ring3 (z k) t (d k) (λ x t d. x ⊕ t ⊗ d ≐ x ⊕ (t ⊖ number (pos 0)) ⊗ (d ⊖ number (pos 0))) refl))

    below : (high : Option ℚ) → (zero_ℚ <ℚ d k → high ≡ None) → (zero_ℚ <ℚ d k) ⊎ (d k ≤ℚ zero_ℚ) → IfSome high (λ u. z k ≤ℚ u) →
        IfSome high (λ u. z k +ℚ t *ℚ d k ≤ℚ u)
    below None none sign before = tt
    below (Some u) none (inl positive) before = absurd (let P : Some u ≡ None → ⊥ = λ e. cc in P (none positive))
    below (Some u) none (inr falling) before =
        le_trans (le_by_product some falling (by_ring3 (z k) t (d k) (λ x t d. x ≐ x ⊕ t ⊗ d ⊕ (t ⊖ number (pos 0)) ⊗ (number (pos 0) ⊖ d)) refl)) before

-- from each feasible vector the direction leads to a better one, at the length 1
pub improved_by_direction : (p : LinearProgram) (z d w : Vector) → ProvesUnbounded p z d → IsFeasible p w → IsBettered p w (along w one_ℚ d)
improved_by_direction p z d w proof feasible = record {
  feasible = record {
    keeps = KeepsEquations-along p.matrix w one_ℚ d feasible.keeps proof.keeps;
    within = along_within p w one_ℚ d (le_of_lt zero_below_one) proof.falls proof.rises feasible.within;
  };
  improve = subst (λ s. s <ℚ worth w) (sym (for_min-along p w one_ℚ d))
      (lt_by_one proof.improves (by_ring2 (worth w) (worth d) (λ u v. u ≐ u ⊕ number (pos 1) ⊗ v ⊕ (number (pos 0) ⊖ v)) refl));
}
  where
    worth : Vector → ℚ
    worth x = for_min p.sense (objective_value p x)

pub unbounded_by_direction : (p : LinearProgram) (z d : Vector) → ProvesUnbounded p z d → IsUnbounded p
unbounded_by_direction p z d proof =
    record { point = z; feasible = proof.feasible; improved = λ w feasible. (along w one_ℚ d, improved_by_direction p z d w proof feasible) }
