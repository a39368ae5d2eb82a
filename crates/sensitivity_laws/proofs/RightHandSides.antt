-- Theta times its shift is added to the limits of each row: the point of the basis moves with its slope, and its rates stand still.
use Rattle.std.proofs.Common.{◌≡◌, ℕ, List, pos, refl, sym, ap, ap₂, subst₂, ◌∙◌}
use Rattle.std.specs.Prelude.{◌↔◌, Option, Some, None, IfSome, not, ◌&&◌}
use Rattle.exact_values.specs.Rational.{ℚ, zero_ℚ, ◌+ℚ◌, ◌-ℚ◌, ◌*ℚ◌, ◌≤ℚ◌}
use Rattle.exact_values.proofs.Order.{le_by_one}
use Rattle.exact_values.proofs.Ring.{by_ring1, by_ring5, number, ◌⊕◌, ◌⊖◌, ◌⊗◌, ◌≐◌}
use Rattle.lp_definitions.specs.LinearProgram.{LinearProgram, Vector, IsVariable, lower_of, upper_of}
use Rattle.lp_definitions.specs.Basis.{basics_of, status_of, StandsAt, IsBasis, IsNonsingular, IsPointOf, IsOptimalBasis, Tableau, IsTableau}
use Rattle.lp_definitions.specs.declared.Status.{Status}
use Rattle.lp_definitions.specs.declared.Status.TheVariants.{Bs, Ll, Ul, Fr}
use Rattle.lp_laws.specs.Vectors.{along}
use Rattle.lp_laws.proofs.Equations.{KeepsEquations-along}
use Rattle.lp_laws.proofs.Statuses.{nonbasic_by_status}
use Rattle.simplex_definitions.specs.Moves.{rises_from, falls_from, lowers}
use Rattle.simplex_definitions.specs.Path.{worth_rate}
use Rattle.simplex_laws.specs.Laws.{IsNonsingularBasis}
use Rattle.simplex_definitions.specs.RhsRun.{shift_of, rhs_family, IsSlope}
use Rattle.sensitivity_laws.specs.Changes.{HasRows, IsRightTableau, SidesHold, shift_sides, ValuesStay}
use Rattle.sensitivity_laws.specs.Laws.{IsDualFeasibleBasis}
use Rattle.simplex_laws.proofs.Booleans.{improves}
use Rattle.sensitivity_laws.proofs.Tableaus.{by_tableau}
use Rattle.sensitivity_laws.proofs.Limits.{IsWithin, sides_of_value}
use Rattle.sensitivity_laws.proofs.MovedLimits.{moved, lower_is, upper_is, basis_to, fixed_same, free_unshifted}

-- limits that move with the parameter, and a value that does
module _ (z v s x : ℚ) where
  low_still : (low : Option ℚ) → IfSome (moved x s low) (λ l. l ≤ℚ z +ℚ x *ℚ v) → IfSome low (λ l. l ≤ℚ z +ℚ x *ℚ (v -ℚ s))
  low_still None h = tt
  low_still (Some l) h = le_by_one h (by_ring5 z v s x l (λ z v s x l. z ⊕ x ⊗ (v ⊖ s) ≐ l ⊕ ((z ⊕ x ⊗ v) ⊖ (l ⊕ x ⊗ s))) refl)

  low_moved : (low : Option ℚ) → IfSome low (λ l. l ≤ℚ z +ℚ x *ℚ (v -ℚ s)) → IfSome (moved x s low) (λ l. l ≤ℚ z +ℚ x *ℚ v)
  low_moved None h = tt
  low_moved (Some l) h = le_by_one h (by_ring5 z v s x l (λ z v s x l. z ⊕ x ⊗ v ≐ (l ⊕ x ⊗ s) ⊕ ((z ⊕ x ⊗ (v ⊖ s)) ⊖ l)) refl)

  high_still : (high : Option ℚ) → IfSome (moved x s high) (λ u. z +ℚ x *ℚ v ≤ℚ u) → IfSome high (λ u. z +ℚ x *ℚ (v -ℚ s) ≤ℚ u)
  high_still None h = tt
  high_still (Some u) h = le_by_one h (by_ring5 z v s x u (λ z v s x u. u ≐ (z ⊕ x ⊗ (v ⊖ s)) ⊕ ((u ⊕ x ⊗ s) ⊖ (z ⊕ x ⊗ v))) refl)

  high_moved : (high : Option ℚ) → IfSome high (λ u. z +ℚ x *ℚ (v -ℚ s) ≤ℚ u) → IfSome (moved x s high) (λ u. z +ℚ x *ℚ v ≤ℚ u)
  high_moved None h = tt
  high_moved (Some u) h = le_by_one h (by_ring5 z v s x u (λ z v s x u. u ⊕ x ⊗ s ≐ (z ⊕ x ⊗ v) ⊕ (u ⊖ (z ⊕ x ⊗ (v ⊖ s)))) refl)

some_moves : (low : Option ℚ) (z v s x : ℚ) → low ≡ Some z → v ≡ s → moved x s low ≡ Some (z +ℚ x *ℚ v)
some_moves low z v s x is same = ap (moved x s) is ∙ ap (λ y. Some (z +ℚ x *ℚ y)) (sym same)

module _ (p : LinearProgram) (shift : List ℚ) (s : List Status) (at : IsNonsingularBasis p s) (z v : Vector) (point : IsPointOf p s z)
    (slope : IsSlope p s shift v) (x : ℚ) where
  stands : (k : ℕ) → IsVariable p.matrix k → (st : Status) → status_of s k ≡ st → StandsAt st (lower_of p k) (upper_of p k) (z k) →
      StandsAt st (moved x (shift_of p.matrix shift k) (lower_of p k)) (moved x (shift_of p.matrix shift k) (upper_of p k)) (along z x v k)
  stands k is Bs e h = tt
  stands k is Ll e h =
      some_moves (lower_of p k) (z k) (v k) (shift_of p.matrix shift k) x h
      (slope.placed k (nonbasic_by_status p s at.is_basis k is (λ f. let g : Ll ≡ Bs = sym e ∙ f in cc)))
  stands k is Ul e h =
      some_moves (upper_of p k) (z k) (v k) (shift_of p.matrix shift k) x h
      (slope.placed k (nonbasic_by_status p s at.is_basis k is (λ f. let g : Ul ≡ Bs = sym e ∙ f in cc)))
  stands k is Fr e h =
      let none : v k ≡ zero_ℚ =
      slope.placed k (nonbasic_by_status p s at.is_basis k is (λ f. let g : Fr ≡ Bs = sym e ∙ f in cc)) ∙ free_unshifted p shift s k at is e in
      ap₂ (λ a b. a +ℚ x *ℚ b) h none ∙ by_ring1 x (λ x. number (pos 0) ⊕ x ⊗ number (pos 0) ≐ number (pos 0)) refl

  -- the point of the basis at x
  pub points : IsPointOf (rhs_family p shift x) s (along z x v)
  points = record {
    keeps = KeepsEquations-along p.matrix z x v point.keeps slope.keeps;
    placed =
        λ k is. subst₂ (λ (low high : Option ℚ). StandsAt (status_of s k) low high (along z x v k)) (sym (lower_is p shift x k is))
        (sym (upper_is p shift x k is))
        (stands k is (status_of s k) refl (point.placed k is));
  }

-- the point's value at k is within its limits at x just where the conditions of k hold
within_is : (p : LinearProgram) (shift : List ℚ) (z v : Vector) (x : ℚ) (k : ℕ) → IsVariable p.matrix k →
    IsWithin (lower_of (rhs_family p shift x) k) (upper_of (rhs_family p shift x) k) (along z x v k) ↔ SidesHold (shift_sides p shift z v k) x
within_is p shift z v x k is = (
  λ h. let own =
      moved_within h in sides.0
      (low_still (z k) (v k) (shift_of p.matrix shift k) x (lower_of p k) own.0, high_still (z k) (v k) (shift_of p.matrix shift k) x (upper_of p k) own.1),
  λ h. let own =
      sides.1 h in family_within
      (low_moved (z k) (v k) (shift_of p.matrix shift k) x (lower_of p k) own.0, high_moved (z k) (v k) (shift_of p.matrix shift k) x (upper_of p k) own.1),
)
  where
    sides : IsWithin (lower_of p k) (upper_of p k) (z k +ℚ x *ℚ (v k -ℚ shift_of p.matrix shift k)) ↔ SidesHold (shift_sides p shift z v k) x
    sides = sides_of_value (lower_of p k) (upper_of p k) (z k +ℚ x *ℚ (v k -ℚ shift_of p.matrix shift k)) (z k) (v k -ℚ shift_of p.matrix shift k) x refl

    moved_within : IsWithin (lower_of (rhs_family p shift x) k) (upper_of (rhs_family p shift x) k) (along z x v k) →
        IsWithin (moved x (shift_of p.matrix shift k) (lower_of p k)) (moved x (shift_of p.matrix shift k) (upper_of p k)) (along z x v k)
    moved_within h = subst₂ (λ (low high : Option ℚ). IsWithin low high (along z x v k)) (lower_is p shift x k is) (upper_is p shift x k is) h

    family_within : IsWithin (moved x (shift_of p.matrix shift k) (lower_of p k)) (moved x (shift_of p.matrix shift k) (upper_of p k)) (along z x v k) →
        IsWithin (lower_of (rhs_family p shift x) k) (upper_of (rhs_family p shift x) k) (along z x v k)
    family_within h = subst₂ (λ (low high : Option ℚ). IsWithin low high (along z x v k)) (sym (lower_is p shift x k is)) (sym (upper_is p shift x k is)) h

-- ---- the rates stand still

module _ (p : LinearProgram) (shift : List ℚ) (x : ℚ) (s : List Status) (rows : HasRows p) where
  rows_there : HasRows (rhs_family p shift x)
  rows_there = record { objective = rows.objective; change = rows.change }

  -- what improves the objective at one value does so at every other
  lowers_same : (f : Vector) (k : ℕ) → IsVariable p.matrix k → lowers (rhs_family p shift x) s f k ≡ lowers p s f k
  lowers_same f k is =
      ap (λ (fixed : _). improves (f k) (rises_from (status_of s k) && not fixed) (falls_from (status_of s k) && not fixed)) (fixed_same p shift x k is)

  pub dual_feasible : (t : Tableau) → IsBasis p s → IsNonsingular p.matrix (basics_of s) → IsTableau p s t → IsOptimalBasis (rhs_family p shift x) s →
      IsDualFeasibleBasis p s t
  dual_feasible t basis one tab optimal = record {
    is_basis = basis;
    nonsingular = one;
    rows = rows;
    is_tableau = tab;
    right = λ k is. sym (lowers_same (worth_rate p s t) k is)
        ∙ ((by_tableau (rhs_family p shift x) s (basis_to p shift x s basis) one rows_there (record { point = optimal.tableau.point; rate = t.rate })
        (record { is_point = optimal.is_tableau.is_point; are_rates = tab.are_rates })).0 optimal).right k is;
  }

-- a dual feasible basis is optimal just where its point lies within its limits
module _ (p : LinearProgram) (s : List Status) (t : Tableau) (h : IsDualFeasibleBasis p s t) (shift : List ℚ) (v : Vector) (slope : IsSlope p s shift v)
    (x : ℚ) where
  abbrev there : Tableau
  there = record { point = along t.point x v; rate = t.rate }

  tableau_there : IsTableau (rhs_family p shift x) s there
  tableau_there = record {
    is_point = points p shift s (record { is_basis = h.is_basis; nonsingular = h.nonsingular }) t.point v h.is_tableau.is_point slope x;
    are_rates = h.is_tableau.are_rates;
  }

  right_there : IsOptimalBasis (rhs_family p shift x) s ↔ IsRightTableau (rhs_family p shift x) s there
  right_there = by_tableau (rhs_family p shift x) s (basis_to p shift x s h.is_basis) h.nonsingular (rows_there p shift x s h.rows) there tableau_there

  pub right_hand_sides : IsOptimalBasis (rhs_family p shift x) s ↔ ValuesStay p shift t.point v x
  right_hand_sides = (
    λ optimal k is. (within_is p shift t.point v x k is).0 ((right_there.0 optimal).feasible.within k is),
    λ hold. right_there.1 (record {
      feasible = record { keeps = tableau_there.is_point.keeps; within = λ k is. (within_is p shift t.point v x k is).1 (hold k is) };
      right = λ k is. lowers_same p shift x s h.rows (worth_rate p s t) k is ∙ h.right k is;
    }),
  )
