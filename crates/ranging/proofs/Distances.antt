-- The bounds that a basic's limits make.
use Rattle.std.proofs.Common.{◌≡◌, ◌≢◌, ℕ, ◌+◌, ◌-◌, ◌<◌, ◌≤◌, ◌⊎◌, inl, inr, List, set, length, get_or, pos, refl, sym, ap, subst, subst₂, ◌∙◌, Bool, true}
use Rattle.std.proofs.Common.{false, Option, Some, None, arith}
use Rattle.std.specs.Prelude.{◌↔◌, IfSome, IsSome, nat_eq, cond, eqb}
use Rattle.std.proofs.lemmas.Bool.Decides.{eqb_tells}
use Rattle.std.proofs.lemmas.List.{get_or-set_same, get_or-set_other, get_or_default}
use Rattle.exact_values.specs.Rational.{ℚ, zero_ℚ, ◌+ℚ◌, ◌-ℚ◌, ◌*ℚ◌, ◌/ℚ◌, ◌≤ℚ◌}
use Rattle.exact_values.proofs.Ring.{by_ring2, by_ring3, number, ◌⊕◌, ◌⊖◌, ◌⊗◌, ◌≐◌}
use Rattle.exact_values.proofs.Order.{le_by_one}
use Rattle.exact_values.proofs.Inverse.{zero_or_not}
use Rattle.affine_laws.specs.Ends.{MeetsBy, IsBetweenEnds, IsTightened, IsRefused}
use Rattle.affine_laws.specs.declared.tightening.ProductBound.{ProductBound}
use Rattle.affine_laws.specs.declared.tightening.Endpoint.{Endpoint}
use Rattle.affine_laws.specs.declared.tightening.Ends.{Ends}
use Rattle.sensitivity_laws.specs.Changes.{SidesHold, value_sides}
use Rattle.sensitivity_laws.proofs.Limits.{sides_of_value}
use Rattle.simplex_definitions.specs.Formulas.{limit_numbered}
use Rattle.frac128.specs.declared.Refused.{Refused}
use Rattle.frac128.specs.declared.Op.TheVariants.{Sub, Div}
use Rattle.lp_definitions.specs.LinearProgram.{LinearProgram, Vector, lower_of, upper_of, IsVariable}
use Rattle.lp_definitions.specs.Basis.{status_of}
use Rattle.lp_definitions.specs.RatesEvidence.{Names}
use Rattle.lp_definitions.specs.declared.Evidence.{Evidence}
use Rattle.lp_definitions.specs.declared.Status.{Status}
use Rattle.simplex_definitions.specs.Ranges.{stands_at_limit}
use Rattle.basis_values.specs.Formulas.{IsRefusal}
use Rattle.basis_values.specs.declared.formula.Formula.{Formula}
use Rattle.basis_values.specs.Reach.{reach_formula}
use Rattle.ranging.specs.LimitEnds.{less_value, distances_of, distance_numbered, IsBasicEnd, IsKeptOr, IsQuotientOf, IsWithDistance, IsFarEnough}
use Rattle.ranging.specs.LimitEnds.{IsWithDistances, IsWithBasic, IsDistanceRefused, IsBasicRefused, no_ends, ends_at, IsLimitEnd, IsMet, IsLimitRefused}
use Rattle.ranging.specs.LimitEnds.{IsRateRefused, AreMet}
use Rattle.ranging.specs.declared.limit_ends.Distances.{Distances}

pub limit_refused : (p : LinearProgram) (value : ℚ) (i which : ℕ) (e : Evidence) (limit : Option ℚ) → limit ≡ limit_numbered p i which → which < 3
    → IfSome limit (λ l. IsRefusal (reach_formula 6 0 i which) Sub l value e) → IsSome limit → IsLimitRefused p value i e
limit_refused p value i which e None is small refused there = let P : IsSome (let n : Option ℚ = None in n) → ⊥ = λ e. cc in absurd (P there)
limit_refused p value i which e (Some l) is small refused there = record { which = which; small = small; limit = l; is_limit = sym is; refused = refused }

-- ---- one limit

either_end : (far : Option ℚ) (n rate : ℚ) (i which : ℕ) → far ≡ Some n → (before now : Option Endpoint)
    → (now ≡ before) ⊎ (now ≡ Some (record { value = n /ℚ rate; by = i; which = which })) → IsKeptOr (IsQuotientOf far rate i which) before now
either_end far n rate i which is before now (inl same) = inl same
either_end far n rate i which is before now (inr new) = inr (_, new, record { distance = n; is_distance = is; is_end = refl })

pub one_distance : (at_most : Bool) (far : Option ℚ) (n rate : ℚ) (i which : ℕ) (ends now : Ends) → far ≡ Some n
    → IsTightened ends (record { at_most = at_most; slope = rate; number = n; by = i; which = which }) now → IsWithDistance at_most far rate i which ends now
one_distance at_most far n rate i which ends now is h = record {
  exact = λ x. subst (λ f. IsBetweenEnds now x ↔ (IsBetweenEnds ends x × IfSome f (λ d. MeetsBy at_most (x *ℚ rate) d))) (sym is) (h.exact x);
  made = record {
    low = either_end far n rate i which is ends.low now.low h.low;
    high = either_end far n rate i which is ends.high now.high h.high;
  };
}

pub refused_quotient : (b : ProductBound) (r : Refused) (e : Evidence) (f : Formula) → Names e f.number f.p f.q f.i f.j f.term → e.way ≡ 0 → e.theta ≡ f.theta
    → e.refused ≡ r → IsRefused b r
    → IsRefusal f Div b.number b.slope e
refused_quotient b r e f names no_way is_theta is h = record {
  names = names;
  no_way = no_way;
  is_theta = is_theta;
  refuses =
      let same : e.refused ≡ record { op = Div; left = b.number; right = b.slope } = is ∙ h.is_quotient in
      record {
        is_op = ap (λ (r : Refused). r.op) same;
        is_left = ap (λ (r : Refused). r.left) same;
        is_right = ap
            (λ (r : Refused). r.right) same;
        refused = h.decided;
      };
}

-- ---- both limits

module _ (far : Distances) (rate : ℚ) (apart : rate ≢ zero_ℚ) (i : ℕ) where
  of_low : (e : Endpoint) → IsQuotientOf far.low rate i 1 e → IsBasicEnd far rate i e
  of_low e h = record {
    distance = h.distance;
    is_distance = ap (λ (e : Endpoint). distance_numbered far e.which) h.is_end ∙ h.is_distance;
    is_i = ap (λ (e : Endpoint). e.by) h.is_end;
    moves = apart;
    is_quotient = ap (λ (e : Endpoint). e.value) h.is_end;
  }

  of_high : (e : Endpoint) → IsQuotientOf far.high rate i 2 e → IsBasicEnd far rate i e
  of_high e h = record {
    distance = h.distance;
    is_distance = ap (λ (e : Endpoint). distance_numbered far e.which) h.is_end ∙ h.is_distance;
    is_i = ap (λ (e : Endpoint). e.by) h.is_end;
    moves = apart;
    is_quotient = ap (λ (e : Endpoint). e.value) h.is_end;
  }

  in_turn : (a b c : Option Endpoint) → IsKeptOr (IsQuotientOf far.low rate i 1) a b → IsKeptOr (IsQuotientOf far.high rate i 2) b c →
      IsKeptOr (IsBasicEnd far rate i) a c
  in_turn a b c _ (inr new) = inr (new.0, new.1, of_high new.0 new.2)
  in_turn a b c (inl same) (inl last) = inl (last ∙ same)
  in_turn a b c (inr new) (inl last) = inr (new.0, last ∙ new.1, of_low new.0 new.2)

  pub both_limits : (ends mid now : Ends) → IsWithDistance false far.low rate i 1 ends mid → IsWithDistance true far.high rate i 2 mid now →
      IsWithDistances far rate i ends now
  both_limits ends mid now first second = record {
    exact = λ x. (
      λ h. let b = (second.exact x).0 h in let a = (first.exact x).0 b.0 in (a.0, (a.1, b.1)),
      λ h. (second.exact x).1 ((first.exact x).1 (h.0, h.1.0), h.1.1),
    );
    made =
        record {
          low = in_turn ends.low mid.low now.low first.made.low second.made.low;
          high = in_turn ends.high mid.high now.high first.made.high
              second.made.high;
        };
  }

  pub low_refused : (k : ℕ) (e : Evidence) → IsDistanceRefused far.low rate i k 1 e → IsBasicRefused far rate i k e
  low_refused k e h = record { which = 1; small = omega arith; distance = h.distance; is_distance = h.is_distance; moves = apart; refused = h.refused }

  pub high_refused : (k : ℕ) (e : Evidence) → IsDistanceRefused far.high rate i k 2 e → IsBasicRefused far rate i k e
  high_refused k e h = record { which = 2; small = omega arith; distance = h.distance; is_distance = h.is_distance; moves = apart; refused = h.refused }

-- ---- in a program

module _ (p : LinearProgram) (z : ℚ) (i : ℕ) where
  from_some : (o : Option ℚ) (d : ℚ) → less_value z o ≡ Some d → (l : ℚ) × (o ≡ Some l) × (d ≡ l -ℚ z)
  from_some None d e = let P : (x : ℚ) → None ≡ Some x → ⊥ = λ x e. cc in absurd (P d e)
  from_some (Some l) d e = let same : d ≡ l -ℚ z = cc in (l, refl, same)

  -- a numbered distance is that of the limit with this number
  limit_of : (which : ℕ) (d : ℚ) → distance_numbered (distances_of p z i) which ≡ Some d → (l : ℚ) × (limit_numbered p i which ≡ Some l) × (d ≡ l -ℚ z)
  limit_of which d = at (nat_eq which 1) (nat_eq which 2)
    where
      at : (one two : Bool) → cond one (less_value z (lower_of p i)) (cond two (less_value z (upper_of p i)) None) ≡ Some d
          → (l : ℚ) × (cond one (lower_of p i) (cond two (upper_of p i) None) ≡ Some l) × (d ≡ l -ℚ z)
      at true two e = from_some (lower_of p i) d e
      at false true e = from_some (upper_of p i) d e
      at false false e = let P : (x : ℚ) → None ≡ Some x → ⊥ = λ x e. cc in absurd (P d e)

  limit_end : (v : ℚ) (e : Endpoint) → IsBasicEnd (distances_of p z i) v i e → IsLimitEnd p z v i e
  limit_end v e h =
      let l = limit_of e.which h.distance h.is_distance in
      record { limit = l.0; is_limit = l.1; is_i = h.is_i; moves = h.moves; is_quotient = h.is_quotient ∙ ap (λ d. d /ℚ v) l.2 }

  kept_limit : (v : ℚ) (a b : Option Endpoint) → IsKeptOr (IsBasicEnd (distances_of p z i) v i) a b → IsKeptOr (IsLimitEnd p z v i) a b
  kept_limit v a b (inl same) = inl same
  kept_limit v a b (inr new) = inr (new.0, new.1, limit_end v new.0 new.2)

  -- the products that are far enough lead to values within the limits
  far_low : (low : Option ℚ) (y w : ℚ) → y ≡ z +ℚ w → IfSome (less_value z low) (λ d. d ≤ℚ w) ↔ IfSome low (λ l. l ≤ℚ y)
  far_low None y w is = (λ h. tt, λ h. tt)
  far_low (Some l) y w is = (
    λ h. subst (λ y. l ≤ℚ y) (sym is) (le_by_one h (by_ring3 l z w (λ l z w. z ⊕ w ≐ l ⊕ (w ⊖ (l ⊖ z))) refl)),
    λ h. le_by_one (subst (λ y. l ≤ℚ y) is h) (by_ring3 l z w (λ l z w. w ≐ (l ⊖ z) ⊕ (z ⊕ w ⊖ l)) refl),
  )

  far_high : (high : Option ℚ) (y w : ℚ) → y ≡ z +ℚ w → IfSome (less_value z high) (λ d. w ≤ℚ d) ↔ IfSome high (λ u. y ≤ℚ u)
  far_high None y w is = (λ h. tt, λ h. tt)
  far_high (Some u) y w is = (
    λ h. subst (λ y. y ≤ℚ u) (sym is) (le_by_one h (by_ring3 u z w (λ u z w. u ≐ z ⊕ w ⊕ ((u ⊖ z) ⊖ w)) refl)),
    λ h. le_by_one (subst (λ y. y ≤ℚ u) is h) (by_ring3 u z w (λ u z w. u ⊖ z ≐ w ⊕ (u ⊖ (z ⊕ w))) refl),
  )

  module _ (low : IfSome (lower_of p i) (λ l. l ≤ℚ z)) (high : IfSome (upper_of p i) (λ u. z ≤ℚ u)) (v : ℚ) where
    -- without a rate it stays where it is
    stays : v ≡ zero_ℚ → (x : ℚ) → SidesHold (value_sides (lower_of p i) (upper_of p i) z v) x
    stays none x =
        (sides_of_value (lower_of p i) (upper_of p i) z z v x (sym (ap (λ v. z +ℚ x *ℚ v) none ∙ by_ring2 z x (λ z x. z ⊕ x ⊗ number (pos 0) ≐ z) refl))).0
        (low, high)

    far_is : (x : ℚ) → IsFarEnough (distances_of p z i) (x *ℚ v) ↔ SidesHold (value_sides (lower_of p i) (upper_of p i) z v) x
    far_is x =
        let sides = sides_of_value (lower_of p i) (upper_of p i) (z +ℚ x *ℚ v) z v x refl in (
          λ h. sides.0 ((far_low (lower_of p i) (z +ℚ x *ℚ v) (x *ℚ v) refl).0 h.0, (far_high (upper_of p i) (z +ℚ x *ℚ v) (x *ℚ v) refl).0 h.1),
          λ h. ((far_low (lower_of p i) (z +ℚ x *ℚ v) (x *ℚ v) refl).1 (sides.1 h).0, (far_high (upper_of p i) (z +ℚ x *ℚ v) (x *ℚ v) refl).1 (sides.1 h).1),
        )

    pub met : (far : Distances) → far ≡ distances_of p z i → (stands : Bool) → stands ≡ true → (ends now : Ends) → IsWithBasic stands far v i ends now →
        IsMet p z v i ends now
    met far far_are stands is ends now with = at (zero_or_not v) (subst (λ (f : Distances). IsWithBasic stands f v i ends now) far_are with)
      where
        at : (v ≡ zero_ℚ) ⊎ (v ≢ zero_ℚ) → IsWithBasic stands (distances_of p z i) v i ends now → IsMet p z v i ends now
        at (inl none) h = record {
          exact =
              λ x. subst (λ (e : Ends). IsBetweenEnds e x ↔ (IsBetweenEnds ends x × SidesHold (value_sides (lower_of p i) (upper_of p i) z v) x))
              (sym (h.still none)) (λ k. (k, stays none x), λ k. k.0);
          made = record { low = kept_limit v ends.low now.low h.made.low; high = kept_limit v ends.high now.high h.made.high };
        }
        at (inr moves) h = record {
          exact = λ x. (
            λ k. let r = (h.exact is moves x).0 k in (r.0, (far_is x).0 r.1),
            λ k. (h.exact is moves x).1 (k.0, (far_is x).1 k.1),
          );
          made = record { low = kept_limit v ends.low now.low h.made.low; high = kept_limit v ends.high now.high h.made.high };
        }

  pub rate_refused : (row : Vector) (k : ℕ) (rate : ℚ) (e : Evidence) (far : Distances) → far ≡ distances_of p z i → IsVariable p.matrix k → row k ≡ rate →
      IsBasicRefused far rate i k e → IsRateRefused p z row i e
  rate_refused row k rate e far far_are is row_is h =
      let l = limit_of h.which h.distance (subst (λ (f : Distances). distance_numbered f h.which ≡ Some h.distance) far_are h.is_distance) in
      record {
        k = k;
        is_variable = is;
        which = h.which;
        small = h.small;
        limit = l.0;
        is_limit = l.1;
        moves = λ e. h.moves (sym row_is ∙ e);
        refused = subst₂ (λ d r. IsRefusal (reach_formula 7 k i h.which) Div d r e) l.2 (sym row_is) h.refused;
      }

-- ---- a list of ends

pub ends_next : (xs : List Ends) (k : ℕ) (e : Ends) → k < length xs → e ≡ get_or xs k e → ends_at xs (k + 1) ≡ e
ends_next xs k e below is =
    let place : k + 1 - 1 ≡ k = omega arith in
    ap (λ i. get_or xs i no_ends) place ∙ sym (is ∙ get_or_default xs k e no_ends below)

pub ends_written : (xs : List Ends) (k : ℕ) (e : Ends) → k < length xs → ends_at (set xs k e) (k + 1) ≡ e
ends_written xs k e below =
    let place : k + 1 - 1 ≡ k = omega arith in
    ap (λ i. get_or (set xs k e) i no_ends) place ∙ get_or-set_same xs k e no_ends below

pub ends_unwritten : (xs : List Ends) (k j : ℕ) (e : Ends) → 1 ≤ j → j ≢ k + 1 → ends_at (set xs k e) j ≡ ends_at xs j
ends_unwritten xs k j e low other = get_or-set_other xs k (j - 1) e no_ends (λ h. other (omega (arith, h, low)))

-- the ends of the first so many are met, and the others are as they were
pub record AreMetTo (p : LinearProgram) (s : List Status) (z : ℚ) (row : Vector) (i n : ℕ) (before now : List Ends) : Type 0 where
  pub met : AreMet p s z row i n before now
  pub rest : (k : ℕ) → n < k → ends_at now k ≡ ends_at before k

module _ (p : LinearProgram) (s : List Status) (z : ℚ) (row : Vector) (i : ℕ) (before : List Ends) where
  pub met_none : AreMetTo p s z row i 0 before before
  met_none = record { met = λ k low high stands. absurd (omega (arith, low, high)); rest = λ k after. refl }

  pub met_next : (n : ℕ) (now : List Ends) (present e : Ends) → n < length now → present ≡ get_or now n present
      → (stands_at_limit (status_of s (n + 1)) ≡ true → IsMet p z (row (n + 1)) i present e)
      → AreMetTo p s z row i n before now → AreMetTo p s z row i (n + 1) before (set now n e)
  met_next n now present e below is own h = record { met = λ k low high stands. at k low high stands (eqb_tells k (n + 1)); rest = rest }
    where
      at : (k : ℕ) → 1 ≤ k → k ≤ n + 1 → stands_at_limit (status_of s k) ≡ true
          → (((eqb k (n + 1) ≡ true) × (k ≡ n + 1)) ⊎ ((eqb k (n + 1) ≡ false) × (k ≢ n + 1)))
          → IsMet p z (row k) i (ends_at before k) (ends_at (set now n e) k)
      at k low high stands (inl same) =
          subst (λ k. IsMet p z (row k) i (ends_at before k) (ends_at (set now n e) k)) (sym same.1)
          (subst₂ (IsMet p z (row (n + 1)) i) (sym (ends_next now n present below is) ∙ h.rest (n + 1) (omega arith)) (sym (ends_written now n e below))
          (own (subst (λ k. stands_at_limit (status_of s k) ≡ true) same.1 stands)))
      at k low high stands (inr apart) =
          let other = apart.1 in
          subst (IsMet p z (row k) i (ends_at before k)) (sym (ends_unwritten now n k e low other)) (h.met k low (omega (arith, high, other)) stands)

      rest : (k : ℕ) → n + 1 < k → ends_at (set now n e) k ≡ ends_at before k
      rest k after = ends_unwritten now n k e (omega (arith, after)) (λ h. absurd (omega (arith, h, after))) ∙ h.rest k (omega (arith, after))

pub ends_read : (xs : List Ends) (k : ℕ) (e : Ends) → k - 1 < length xs → e ≡ get_or xs (k - 1) e → e ≡ ends_at xs k
ends_read xs k e below is = is ∙ get_or_default xs (k - 1) e no_ends below
