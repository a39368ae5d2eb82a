-- The point of a basis: it is a sum of directions, and a step along a direction leads to the next one.
use Rattle.std.proofs.Common.{◌≡◌, ◌≢◌, ℕ, List, length, pos, refl, sym, ◌∙◌, ap, subst, Option, Some, None, true, false, ◌⊎◌, inl, inr}
use Rattle.std.specs.Prelude.{eqb, IsSome, unwrap_or}
use Rattle.std.proofs.lemmas.Bool.Decides.{eqb_tells}
use Rattle.std.proofs.lemmas.List.{length-set}
use Rattle.exact_values.specs.Rational.{ℚ, zero_ℚ, ◌+ℚ◌, ◌*ℚ◌}
use Rattle.exact_values.proofs.Ring.{by_ring2, number, ◌⊕◌, ◌⊗◌, ◌≐◌}
use Rattle.lp_definitions.specs.LinearProgram.{LinearProgram, Vector, size, lower_of, upper_of, IsVariable}
use Rattle.lp_definitions.specs.Basis.{is_basic, basics_of, status_of, with_status, IsAllowed, StandsAt, IsBasis, IsNonbasic, IsNonsingular, IsDirectionOf}
use Rattle.lp_definitions.specs.Basis.{AreRates, IsPointOf}
use Rattle.lp_definitions.specs.declared.Status.{Status}
use Rattle.lp_definitions.specs.declared.Status.TheVariants.{Bs, Ll, Ul, Fr}
use Rattle.lp_laws.specs.Vectors.{along}
use Rattle.lp_laws.specs.Rates.{combination}
use Rattle.lp_laws.specs.Points.{place_of, standing}
use Rattle.lp_laws.proofs.Values.{clash}
use Rattle.lp_laws.proofs.Equations.{KeepsEquations-along}
use Rattle.lp_laws.proofs.Uniqueness.{same_from_nonbasics}
use Rattle.lp_laws.proofs.Combination.{combination_keeps, combination_at}
use Rattle.lp_laws.proofs.Statuses.{nonbasic_by_status, status_of_nonbasic, changed_own, changed_other}

-- a status that its limits allow stands where the place is
stands_at_place : (st : Status) (low high : Option ℚ) (v : ℚ) → IsAllowed st low high → (is_basic st ≡ false → v ≡ place_of st low high) →
    StandsAt st low high v
stands_at_place Bs low high v allowed is = tt
stands_at_place Ll (Some l) high v allowed is = ap Some (sym (is refl))
stands_at_place Ll None high v allowed is = let P : IsSome (let n : Option ℚ = None in n) → ⊥ = λ e. cc in absurd (P allowed)
stands_at_place Ul low (Some u) v allowed is = ap Some (sym (is refl))
stands_at_place Ul low None v allowed is = let P : IsSome (let n : Option ℚ = None in n) → ⊥ = λ e. cc in absurd (P allowed)
stands_at_place Fr low high v allowed is = is refl

-- and a value that stands there is the place
place_is : (st : Status) (low high : Option ℚ) (v : ℚ) → is_basic st ≡ false → StandsAt st low high v → v ≡ place_of st low high
place_is Bs low high v out stands = absurd (clash out)
place_is Ll low high v out stands = sym (ap (λ o. unwrap_or o zero_ℚ) stands)
place_is Ul low high v out stands = sym (ap (λ o. unwrap_or o zero_ℚ) stands)
place_is Fr low high v out stands = stands

module _ (p : LinearProgram) (s : List Status) (basis : IsBasis p s) where
  -- at a nonbasic the point of the basis is the place
  pub placed_at : (z : Vector) → IsPointOf p s z → (k : ℕ) → IsNonbasic p.matrix (basics_of s) k → z k ≡ standing p s k
  placed_at z point k out = place_is (status_of s k) (lower_of p k) (upper_of p k) (z k) (status_of_nonbasic p s basis k out) (point.placed k out.0)

  -- the sum of the directions, each times the place of its nonbasic, is the point
  pub IsPointOf-combination : (rate : ℕ → ℕ → ℚ) → AreRates p.matrix (basics_of s) rate → IsPointOf p s (combination p.matrix (basics_of s) rate (standing p s))
  IsPointOf-combination rate are = record {
    keeps = combination_keeps p.matrix (basics_of s) rate are (standing p s);
    placed =
        λ k is. stands_at_place (status_of s k) (lower_of p k) (upper_of p k) (combination p.matrix (basics_of s) rate (standing p s) k) (basis.allowed k is)
        (λ out. combination_at p.matrix (basics_of s) rate are (standing p s) k (nonbasic_by_status p s basis k is (λ e. clash (ap is_basic (sym e) ∙ out))));
  }

  -- and the only one
  pub point_is_combination : (rate : ℕ → ℕ → ℚ) → AreRates p.matrix (basics_of s) rate → IsNonsingular p.matrix (basics_of s) → (z : Vector) → IsPointOf p s z
      → (k : ℕ) → IsVariable p.matrix k → z k ≡ combination p.matrix (basics_of s) rate (standing p s) k
  point_is_combination rate are one z point =
      same_from_nonbasics p.matrix (basics_of s) z (combination p.matrix (basics_of s) rate (standing p s)) one point.keeps
      (combination_keeps p.matrix (basics_of s) rate are (standing p s))
      (λ k out. placed_at z point k out ∙ sym (combination_at p.matrix (basics_of s) rate are (standing p s) k out))

  -- ---- a step along a direction

  module _ (z : Vector) (point : IsPointOf p s z) (q : ℕ) (is_q : IsVariable p.matrix q) (d : Vector) (direction : IsDirectionOf p.matrix (basics_of s) q d)
      (t : ℚ) where
    -- a variable that is nonbasic, and not the one that moves, stays where it stands
    stays : (k : ℕ) → IsVariable p.matrix k → k ≢ q → StandsAt (status_of s k) (lower_of p k) (upper_of p k) (along z t d k)
    stays k is other = at (status_of s k) refl (point.placed k is)
      where
        same : is_basic (status_of s k) ≡ false → along z t d k ≡ z k
        same out =
            ap (λ x. z k +ℚ t *ℚ x) (direction.others k (nonbasic_by_status p s basis k is (λ e. clash (ap is_basic (sym e) ∙ out))) other)
            ∙ by_ring2 (z k) t (λ z t. z ⊕ t ⊗ number (pos 0) ≐ z) refl

        at : (st : Status) → status_of s k ≡ st → StandsAt st (lower_of p k) (upper_of p k) (z k) → StandsAt st (lower_of p k) (upper_of p k) (along z t d k)
        at Bs e stands = tt
        at Ll e stands = stands ∙ ap Some (sym (same (ap is_basic e)))
        at Ul e stands = stands ∙ ap Some (sym (same (ap is_basic e)))
        at Fr e stands = same (ap is_basic e) ∙ stands

    -- q takes the place of r, which comes to stand at a limit
    pub IsPointOf-replaced : (r : ℕ) (to : Status) → IsVariable p.matrix r → StandsAt to (lower_of p r) (upper_of p r) (along z t d r) →
        IsPointOf p (with_status (with_status s q Bs) r to) (along z t d)
    IsPointOf-replaced r to is_r stands = record {
      keeps = KeepsEquations-along p.matrix z t d point.keeps direction.keeps;
      placed = λ k is. at k is (eqb_tells k r) (eqb_tells k q);
    }
      where
        entered : List Status
        entered = with_status s q Bs

        length_entered : length (with_status s q Bs) ≡ size p.matrix
        length_entered = rw length-set basis.counted

        at : (k : ℕ) → IsVariable p.matrix k → (((eqb k r ≡ true) × (k ≡ r)) ⊎ ((eqb k r ≡ false) × (k ≢ r)))
            → (((eqb k q ≡ true) × (k ≡ q)) ⊎ ((eqb k q ≡ false) × (k ≢ q)))
            → StandsAt (status_of (with_status (with_status s q Bs) r to) k) (lower_of p k) (upper_of p k) (along z t d k)
        at k is (inl same) _ =
            subst (λ i. StandsAt (status_of (with_status (with_status s q Bs) r to) i) (lower_of p i) (upper_of p i) (along z t d i)) (sym same.1)
            (subst (λ st. StandsAt st (lower_of p r) (upper_of p r) (along z t d r))
            (sym (changed_own p s basis r to (with_status s q Bs) length_entered is_r)) stands)
        at k is (inr apart) (inl same) =
            subst (λ st. StandsAt st (lower_of p k) (upper_of p k) (along z t d k))
            (sym (changed_other p s basis r k to (with_status s q Bs) is_r is apart.1 ∙ ap (status_of (with_status s q Bs)) same.1
            ∙ changed_own p s basis q Bs s basis.counted is_q)) tt
        at k is (inr apart) (inr far) =
            subst (λ st. StandsAt st (lower_of p k) (upper_of p k) (along z t d k))
            (sym (changed_other p s basis r k to (with_status s q Bs) is_r is apart.1 ∙ changed_other p s basis q k Bs s is_q is far.1)) (stays k is far.1)

    -- q comes to stand at another limit
    pub IsPointOf-flipped : (to : Status) → StandsAt to (lower_of p q) (upper_of p q) (along z t d q) → IsPointOf p (with_status s q to) (along z t d)
    IsPointOf-flipped to stands = record {
      keeps = KeepsEquations-along p.matrix z t d point.keeps direction.keeps;
      placed = λ k is. at k is (eqb_tells k q);
    }
      where
        at : (k : ℕ) → IsVariable p.matrix k → (((eqb k q ≡ true) × (k ≡ q)) ⊎ ((eqb k q ≡ false) × (k ≢ q))) →
            StandsAt (status_of (with_status s q to) k) (lower_of p k) (upper_of p k) (along z t d k)
        at k is (inl same) =
            subst (λ i. StandsAt (status_of (with_status s q to) i) (lower_of p i) (upper_of p i) (along z t d i)) (sym same.1)
            (subst (λ st. StandsAt st (lower_of p q) (upper_of p q) (along z t d q)) (sym (changed_own p s basis q to s basis.counted is_q)) stands)
        at k is (inr apart) =
            subst (λ st. StandsAt st (lower_of p k) (upper_of p k) (along z t d k)) (sym (changed_other p s basis q k to s is_q is apart.1))
            (stays k is apart.1)
