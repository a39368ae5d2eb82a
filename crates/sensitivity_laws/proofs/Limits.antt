-- The limit at which a nonbasic stands moves.
use Rattle.std.proofs.Common.{◌≡◌, ◌≢◌, ℕ, ◌-◌, List, set, refl, sym, ap, ap₂, subst, subst₂, ◌∙◌, Option, Some, None, Bool, true, false, ◌⊎◌, inl, inr, arith}
use Rattle.std.proofs.Common.{pos}
use Rattle.std.specs.Prelude.{◌↔◌, IfSome, IsSome, cond, eqb}
use Rattle.std.proofs.lemmas.Bool.Decides.{eqb_tells}
use Rattle.std.proofs.lemmas.List.{get_or-set_same, get_or-set_other}
use Rattle.exact_values.specs.Rational.{ℚ, one_ℚ, ◌+ℚ◌, ◌*ℚ◌, ◌≤ℚ◌}
use Rattle.exact_values.proofs.Ring.{by_ring2, by_ring4, number, opposite, ◌⊕◌, ◌⊖◌, ◌⊗◌, ◌≐◌}
use Rattle.exact_values.proofs.RingLaws.{mul-one}
use Rattle.exact_values.proofs.Order.{le_by_one, le_refl}
use Rattle.affine_laws.specs.Conditions.{Holds}
use Rattle.lp_definitions.specs.LinearProgram.{LinearProgram, Vector, IsRow, IsVariable, lower_of, upper_of, HasNoLimits, with_limits}
use Rattle.lp_definitions.specs.Solutions.{IsWithinLimits}
use Rattle.lp_definitions.specs.Basis.{is_in, is_basic, basics_of, status_of, IsAllowed, StandsAt, IsBasis, IsDirectionOf, IsOptimalBasis, Tableau, IsTableau}
use Rattle.lp_definitions.specs.declared.Status.{Status}
use Rattle.lp_definitions.specs.declared.Status.TheVariants.{Bs, Ll, Ul, Fr}
use Rattle.lp_laws.specs.Vectors.{along}
use Rattle.lp_laws.proofs.Values.{clash}
use Rattle.lp_laws.proofs.Equations.{KeepsEquations-along}
use Rattle.lp_laws.proofs.Uniqueness.{is_in-basics_of}
use Rattle.simplex_definitions.specs.Moves.{is_fixed, on_limits, rises_from, falls_from, lowers}
use Rattle.simplex_definitions.specs.Path.{worth_rate}
use Rattle.exact_values.specs.Tests.{eq_ℚ}
use Rattle.simplex_definitions.specs.Ranges.{with_limit, with_limit_at, with_lower, with_upper, stands_at_limit}
use Rattle.sensitivity_laws.specs.Changes.{HasRows, IsRightTableau, SidesHold, value_sides, limit_sides, sides_at, own_sides, LimitStays}
use Rattle.sensitivity_laws.specs.Laws.{IsPresent}
use Rattle.simplex_laws.proofs.Booleans.{fewer_ways, fixed_is}
use Rattle.sensitivity_laws.proofs.Tableaus.{by_tableau}
use Rattle.sensitivity_laws.proofs.Rows.{rows_of, feasible_now}

abbrev pub IsWithin : Option ℚ → Option ℚ → ℚ → Type 0
IsWithin low high y = IfSome low (λ l. l ≤ℚ y) × IfSome high (λ u. y ≤ℚ u)

-- a value that has come to z + x v lies within its limits just where its conditions hold at x
pub sides_of_value : (low high : Option ℚ) (y z v x : ℚ) → y ≡ z +ℚ x *ℚ v → IsWithin low high y ↔ SidesHold (value_sides low high z v) x
sides_of_value low high y z v x is = (λ h. (to_low low h.0, to_high high h.1), λ h. (from_low low h.0, from_high high h.1))
  where
    to_low : (low : Option ℚ) → IfSome low (λ l. l ≤ℚ y) → IfSome ((value_sides low high z v).first) (λ e. Holds e x)
    to_low None h = tt
    to_low (Some l) h = le_by_one (subst (λ y. l ≤ℚ y) is h) (by_ring4 l z v x (λ l z v x. (z ⊖ l) ⊕ x ⊗ v ≐ number (pos 0) ⊕ (z ⊕ x ⊗ v ⊖ l)) refl)

    to_high : (high : Option ℚ) → IfSome high (λ u. y ≤ℚ u) → IfSome ((value_sides low high z v).second) (λ e. Holds e x)
    to_high None h = tt
    to_high (Some u) h = le_by_one (subst (λ y. y ≤ℚ u) is h) (by_ring4 u z v x (λ u z v x. (u ⊖ z) ⊕ x ⊗ opposite v ≐ number (pos 0) ⊕ (u ⊖ (z ⊕ x ⊗ v))) refl)

    from_low : (low : Option ℚ) → IfSome ((value_sides low high z v).first) (λ e. Holds e x) → IfSome low (λ l. l ≤ℚ y)
    from_low None h = tt
    from_low (Some l) h = subst (λ y. l ≤ℚ y) (sym is) (le_by_one h (by_ring4 l z v x (λ l z v x. z ⊕ x ⊗ v ≐ l ⊕ ((z ⊖ l) ⊕ x ⊗ v ⊖ number (pos 0))) refl))

    from_high : (high : Option ℚ) → IfSome ((value_sides low high z v).second) (λ e. Holds e x) → IfSome high (λ u. y ≤ℚ u)
    from_high None h = tt
    from_high (Some u) h =
        subst (λ y. y ≤ℚ u) (sym is) (le_by_one h (by_ring4 u z v x (λ u z v x. u ≐ z ⊕ x ⊗ v ⊕ ((u ⊖ z) ⊕ x ⊗ opposite v ⊖ number (pos 0))) refl))

-- a nonbasic that has not moved stands where it stood
stands_same : (st : Status) (low high : Option ℚ) (y z : ℚ) → (is_basic st ≡ false → y ≡ z) → StandsAt st low high z → StandsAt st low high y
stands_same Bs low high y z same stands = tt
stands_same Ll low high y z same stands = stands ∙ ap Some (sym (same refl))
stands_same Ul low high y z same stands = stands ∙ ap Some (sym (same refl))
stands_same Fr low high y z same stands = same refl ∙ stands

-- a variable with both limits at one value stands there
stands_at_both : (st : Status) (v : ℚ) → stands_at_limit st ≡ true → StandsAt st (Some v) (Some v) v × IsAllowed st (Some v) (Some v)
stands_at_both Bs v e = absurd (clash (sym e))
stands_at_both Ll v e = (refl, refl)
stands_at_both Ul v e = (refl, refl)
stands_at_both Fr v e = absurd (clash (sym e))

pub out_of_basis : (st : Status) → stands_at_limit st ≡ true → is_basic st ≡ false
out_of_basis Bs e = sym e
out_of_basis Ll e = refl
out_of_basis Ul e = refl
out_of_basis Fr e = refl

module _ (p : LinearProgram) (s : List Status) (t : Tableau) (present : IsPresent p s t) (k : ℕ) (is_k : IsVariable p.matrix k)
    (stands_k : stands_at_limit (status_of s k) ≡ true) (x : ℚ) where
  abbrev v : ℚ
  v = t.point k +ℚ x

  abbrev d : Vector
  d i = t.rate i k

  among : (i : ℕ) → IsVariable p.matrix i → is_in (basics_of s) i ≡ is_basic (status_of s i)
  among i is = is_in-basics_of s i is.0 (omega (arith, is.1, present.optimal.is_basis.counted))

  direction : IsDirectionOf p.matrix (basics_of s) k (λ i. t.rate i k)
  direction = present.is_tableau.are_rates k (is_k, among k is_k ∙ out_of_basis (status_of s k) stands_k)

  moved_own : along t.point x (λ i. t.rate i k) k ≡ t.point k +ℚ x
  moved_own = ap (λ r. t.point k +ℚ x *ℚ r) direction.own ∙ ap (λ r. t.point k +ℚ r) (mul-one x)

  moved_other : (i : ℕ) → IsVariable p.matrix i → i ≢ k → is_basic (status_of s i) ≡ false → along t.point x (λ i. t.rate i k) i ≡ t.point i
  moved_other i is other out =
      ap (λ r. t.point i +ℚ x *ℚ r) (direction.others i (is, among i is ∙ out) other)
      ∙ by_ring2 (t.point i) x (λ z x. z ⊕ x ⊗ number (pos 0) ≐ z) refl

  abbrev moved : Tableau
  moved = record { point = along t.point x (λ i. t.rate i k); rate = t.rate }

  -- k stands at v in a program with these limits, which are p's but at k
  record IsMovedTo (low high : List (Option ℚ)) : Type 0 where
    others : (i : ℕ) → IsVariable p.matrix i → i ≢ k →
        (lower_of (with_limits p low high) i ≡ lower_of p i) × (upper_of (with_limits p low high) i ≡ upper_of p i)
    stands : StandsAt (status_of s k) (lower_of (with_limits p low high) k) (upper_of (with_limits p low high) k) (t.point k +ℚ x)
    allowed : IsAllowed (status_of s k) (lower_of (with_limits p low high) k) (upper_of (with_limits p low high) k)
    fixed : is_fixed p k ≡ true → is_fixed (with_limits p low high) k ≡ true
    own : IsWithin (lower_of (with_limits p low high) k) (upper_of (with_limits p low high) k) (t.point k +ℚ x) ↔ SidesHold (own_sides p s t.point k) x

  module _ (low high : List (Option ℚ)) (to : IsMovedTo low high) where
    abbrev q : LinearProgram
    q = with_limits p low high

    -- a fact of k and of each other variable
    each : (P : ℕ → Type 0) → P k → ((i : ℕ) → IsVariable p.matrix i → i ≢ k → P i) → (i : ℕ) → IsVariable p.matrix i → P i
    each P own other i is = at (eqb_tells i k)
      where
        at : (((eqb i k ≡ true) × (i ≡ k)) ⊎ ((eqb i k ≡ false) × (i ≢ k))) → P i
        at (inl same) = subst P (sym same.1) own
        at (inr apart) = other i is apart.1

    basis_there : IsBasis (with_limits p low high) s
    basis_there = record {
      counted = present.optimal.is_basis.counted;
      m_basics = present.optimal.is_basis.m_basics;
      free_rows = λ i is free. free_row i is (eqb_tells i k) free;
      allowed = each (λ i. IsAllowed (status_of s i) (lower_of (with_limits p low high) i) (upper_of (with_limits p low high) i)) to.allowed
          (λ i is other. subst₂ (IsAllowed (status_of s i)) (sym (to.others i is other).0) (sym (to.others i is other).1)
          (present.optimal.is_basis.allowed i is));
    }
      where
        none : (st : Status) (lower upper : Option ℚ) → stands_at_limit st ≡ true → IsAllowed st lower upper → lower ≡ None → upper ≡ None → ⊥
        none Bs lower upper e allowed a b = clash (sym e)
        none Ll lower upper e allowed a b = clash (sym (subst (λ o. IsSome o) a allowed))
        none Ul lower upper e allowed a b = clash (sym (subst (λ o. IsSome o) b allowed))
        none Fr lower upper e allowed a b = clash (sym e)

        free_row : (i : ℕ) → IsRow p.matrix i → (((eqb i k ≡ true) × (i ≡ k)) ⊎ ((eqb i k ≡ false) × (i ≢ k))) → HasNoLimits (with_limits p low high) i →
            status_of s i ≡ Bs
        free_row i is (inl same) free =
            let here : HasNoLimits (with_limits p low high) k = subst (HasNoLimits (with_limits p low high)) same.1 free in
            absurd (none (status_of s k) _ _ stands_k to.allowed here.0 here.1)
        free_row i is (inr apart) free =
            let e = to.others i (is.0, omega (arith, is.1)) apart.1 in
            present.optimal.is_basis.free_rows i is (sym e.0 ∙ free.0, sym e.1 ∙ free.1)

    tableau_there : IsTableau (with_limits p low high) s moved
    tableau_there = record {
      is_point = record {
        keeps = KeepsEquations-along p.matrix t.point x (λ i. t.rate i k) present.is_tableau.is_point.keeps direction.keeps;
        placed =
            each (λ i. StandsAt (status_of s i) (lower_of (with_limits p low high) i) (upper_of (with_limits p low high) i)
            (along t.point x (λ i. t.rate i k) i))
            (subst (StandsAt (status_of s k) (lower_of (with_limits p low high) k) (upper_of (with_limits p low high) k)) (sym moved_own) to.stands)
            (λ i is other. subst₂ (λ a b. StandsAt (status_of s i) a b (along t.point x (λ i. t.rate i k) i)) (sym (to.others i is other).0)
            (sym (to.others i is other).1)
            (stands_same (status_of s i) (lower_of p i) (upper_of p i) _ (t.point i) (moved_other i is other) (present.is_tableau.is_point.placed i is)));
      };
      are_rates = present.is_tableau.are_rates;
    }

    rows_there : HasRows (with_limits p low high)
    rows_there = let h = rows_of p s t present in record { objective = h.objective; change = h.change }

    optimal_there : IsOptimalBasis (with_limits p low high) s ↔ IsRightTableau (with_limits p low high) s moved
    optimal_there = by_tableau (with_limits p low high) s basis_there present.optimal.nonsingular rows_there moved tableau_there

    -- the rates stay right
    right_there : (i : ℕ) → IsVariable p.matrix i → lowers (with_limits p low high) s (worth_rate (with_limits p low high) s moved) i ≡ false
    right_there i is =
        fewer_ways (worth_rate p s t i) (rises_from (status_of s i)) (falls_from (status_of s i)) (is_fixed p i) (is_fixed (with_limits p low high) i)
        (each (λ i. is_fixed p i ≡ true → is_fixed (with_limits p low high) i ≡ true) to.fixed
        (λ i is other e. ap₂ (on_limits eq_ℚ) (to.others i is other).0 (to.others i is other).1 ∙ e) i is)
        (((by_tableau p s present.optimal.is_basis present.optimal.nonsingular (rows_of p s t present) t present.is_tableau).0 present.optimal).right i is)

    limit_there : IsOptimalBasis (with_limits p low high) s ↔ LimitStays p s t k x
    limit_there = (there, back)
      where
        there : IsOptimalBasis (with_limits p low high) s → LimitStays p s t k x
        there optimal = record {
          basics = λ i basic. at i basic (eqb_tells i k);
          own = to.own.0 (subst (IsWithin _ _) moved_own (within k is_k));
        }
          where
            within : IsWithinLimits (with_limits p low high) (along t.point x (λ i. t.rate i k))
            within = (optimal_there.0 optimal).feasible.within

            at : (i : ℕ) → IsVariable p.matrix i × (is_in (basics_of s) i ≡ true) → (((eqb i k ≡ true) × (i ≡ k)) ⊎ ((eqb i k ≡ false) × (i ≢ k))) →
                SidesHold (limit_sides p t.point (λ j. t.rate j k) i) x
            at i basic (inl same) =
                absurd (clash (sym basic.1 ∙ ap (is_in (basics_of s)) same.1 ∙ among k is_k ∙ out_of_basis (status_of s k) stands_k))
            at i basic (inr apart) =
                (sides_of_value (lower_of p i) (upper_of p i) (along t.point x (λ i. t.rate i k) i) (t.point i) (t.rate i k) x refl).0
                (subst₂ (λ a b. IsWithin a b (along t.point x (λ i. t.rate i k) i)) (to.others i basic.0 apart.1).0 (to.others i basic.0 apart.1).1
                (within i basic.0))

        back : LimitStays p s t k x → IsOptimalBasis (with_limits p low high) s
        back stay = optimal_there.1 (record {
          feasible = record {
            keeps = tableau_there.is_point.keeps;
            within = each (λ i. IsWithin (lower_of (with_limits p low high) i) (upper_of (with_limits p low high) i) (along t.point x (λ i. t.rate i k) i))
                (subst (IsWithin _ _) (sym moved_own) (to.own.1 stay.own))
                (λ i is other. subst₂ (λ a b. IsWithin a b (along t.point x (λ i. t.rate i k) i)) (sym (to.others i is other).0) (sym (to.others i is other).1)
                (at i is other (is_basic (status_of s i)) refl));
          };
          right = right_there;
        })
          where
            at : (i : ℕ) → IsVariable p.matrix i → i ≢ k → (mark : Bool) → is_basic (status_of s i) ≡ mark →
                IsWithin (lower_of p i) (upper_of p i) (along t.point x (λ i. t.rate i k) i)
            at i is other true basic =
                (sides_of_value (lower_of p i) (upper_of p i) (along t.point x (λ i. t.rate i k) i) (t.point i) (t.rate i k) x refl).1
                (stay.basics i (is, among i is ∙ basic))
            at i is other false out =
                subst (IsWithin (lower_of p i) (upper_of p i)) (sym (moved_other i is other out)) ((feasible_now p s t present).within i is)

  -- ---- the three ways in which the limit may be moved

  lower_own : lower_of (with_lower p k v) k ≡ Some v
  lower_own = get_or-set_same p.lower (k - 1) (Some v) None (omega (arith, is_k.0, is_k.1, present.lawful.lower_counted))

  upper_own : upper_of (with_upper p k v) k ≡ Some v
  upper_own = get_or-set_same p.upper (k - 1) (Some v) None (omega (arith, is_k.0, is_k.1, present.lawful.upper_counted))

  lower_other : (i : ℕ) → IsVariable p.matrix i → i ≢ k → lower_of (with_lower p k v) i ≡ lower_of p i
  lower_other i is other = get_or-set_other p.lower (k - 1) (i - 1) (Some v) None (λ e. other (omega (arith, e, is.0, is_k.0)))

  upper_other : (i : ℕ) → IsVariable p.matrix i → i ≢ k → upper_of (with_upper p k v) i ≡ upper_of p i
  upper_other i is other = get_or-set_other p.upper (k - 1) (i - 1) (Some v) None (λ e. other (omega (arith, e, is.0, is_k.0)))

  by_one : v ≡ t.point k +ℚ x *ℚ one_ℚ
  by_one = ap (λ r. t.point k +ℚ r) (sym (mul-one x))

  both : is_fixed p k ≡ true → IsMovedTo (set p.lower (k - 1) (Some v)) (set p.upper (k - 1) (Some v))
  both e = record {
    others = λ i is other. (lower_other i is other, upper_other i is other);
    stands = subst₂ (λ a b. StandsAt (status_of s k) a b v) (sym lower_own) (sym upper_own) (stands_at_both (status_of s k) v stands_k).0;
    allowed = subst₂ (IsAllowed (status_of s k)) (sym lower_own) (sym upper_own) (stands_at_both (status_of s k) v stands_k).1;
    fixed = λ _. fixed_is _ _ v lower_own upper_own;
    own = (
      λ _. subst (λ (f : Bool). SidesHold
          (cond f (record { first = None; second = None }) (sides_at (status_of s k) (lower_of p k) (upper_of p k) (t.point k))) x) (sym e) (tt, tt),
      λ _. subst₂ (λ a b. IsWithin a b v) (sym lower_own) (sym upper_own) (le_refl v, le_refl v),
    );
  }

  own_is : (st : Status) → is_fixed p k ≡ false → status_of s k ≡ st → own_sides p s t.point k ≡ sides_at st (lower_of p k) (upper_of p k) (t.point k)
  own_is st e at = ap₂ (λ (f : Bool) (u : Status). cond f (record { first = None; second = None }) (sides_at u (lower_of p k) (upper_of p k) (t.point k))) e at

  at_lower : is_fixed p k ≡ false → status_of s k ≡ Ll → IsMovedTo (set p.lower (k - 1) (Some v)) p.upper
  at_lower e at = record {
    others = λ i is other. (lower_other i is other, refl);
    stands = subst (λ st. StandsAt st (lower_of (with_lower p k v) k) (upper_of p k) v) (sym at) lower_own;
    allowed = subst (λ st. IsAllowed st (lower_of (with_lower p k v) k) (upper_of p k)) (sym at) (subst (λ o. IsSome o) (sym lower_own) refl);
    fixed = λ h. absurd (clash (sym h ∙ e));
    own = subst (λ c. IsWithin (lower_of (with_lower p k v) k) (upper_of p k) v ↔ SidesHold c x) (sym (own_is Ll e at))
        (subst (λ o. IsWithin o (upper_of p k) v ↔ SidesHold (value_sides None (upper_of p k) (t.point k) one_ℚ) x) (sym lower_own)
        (let h = sides_of_value None (upper_of p k) v (t.point k) one_ℚ x by_one in (λ w. h.0 (tt, w.1), λ w. (le_refl v, (h.1 w).1))));
  }

  at_upper : is_fixed p k ≡ false → status_of s k ≡ Ul → IsMovedTo p.lower (set p.upper (k - 1) (Some v))
  at_upper e at = record {
    others = λ i is other. (refl, upper_other i is other);
    stands = subst (λ st. StandsAt st (lower_of p k) (upper_of (with_upper p k v) k) v) (sym at) upper_own;
    allowed = subst (λ st. IsAllowed st (lower_of p k) (upper_of (with_upper p k v) k)) (sym at) (subst (λ o. IsSome o) (sym upper_own) refl);
    fixed = λ h. absurd (clash (sym h ∙ e));
    own = subst (λ c. IsWithin (lower_of p k) (upper_of (with_upper p k v) k) v ↔ SidesHold c x) (sym (own_is Ul e at))
        (subst (λ o. IsWithin (lower_of p k) o v ↔ SidesHold (value_sides (lower_of p k) None (t.point k) one_ℚ) x) (sym upper_own)
        (let h = sides_of_value (lower_of p k) None v (t.point k) one_ℚ x by_one in (λ w. h.0 (w.0, tt), λ w. ((h.1 w).0, le_refl v))));
  }

  pub limit : IsOptimalBasis (with_limit p s k (t.point k +ℚ x)) s ↔ LimitStays p s t k x
  limit = at (is_fixed p k) refl (status_of s k) refl stands_k
    where
      at : (fixed : Bool) → is_fixed p k ≡ fixed → (st : Status) → status_of s k ≡ st → stands_at_limit st ≡ true
          → IsOptimalBasis (cond fixed (with_upper (with_lower p k v) k v) (with_limit_at st p k v)) s ↔ LimitStays p s t k x
      at true e st is stands = limit_there (set p.lower (k - 1) (Some v)) (set p.upper (k - 1) (Some v)) (both e)
      at false e Bs is stands = absurd (clash (sym stands))
      at false e Ll is stands = limit_there (set p.lower (k - 1) (Some v)) p.upper (at_lower e is)
      at false e Ul is stands = limit_there p.lower (set p.upper (k - 1) (Some v)) (at_upper e is)
      at false e Fr is stands = absurd (clash (sym stands))
