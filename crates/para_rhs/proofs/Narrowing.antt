-- What one variable leaves of the values up to an end.
use Rattle.std.proofs.Common.{◌≡◌, ◌≢◌, ℕ, ◌+◌, List, arith, cond, pos, refl, sym, subst, subst₂, ap, ◌∙◌, ◌<◌, ◌⊎◌, inl, inr, Bool, true, false}
use Rattle.std.specs.Prelude.{◌↔◌, Option, Some, None, IfSome, option_map, eqb}
use Rattle.std.proofs.lemmas.Bool.Decides.{eqb_tells}
use Rattle.exact_values.specs.Rational.{ℚ, zero_ℚ, neg_ℚ, ◌+ℚ◌, ◌-ℚ◌, ◌*ℚ◌, ◌≤ℚ◌, ◌<ℚ◌}
use Rattle.exact_values.specs.Tests.{lt_ℚ}
use Rattle.exact_values.proofs.Order.{le_by_one, lt_by_one, le_of_lt, le_refl, le_antisymm, lt_irrefl}
use Rattle.exact_values.proofs.Ring.{by_ring1, by_ring2, by_ring4, number, opposite, ◌⊕◌, ◌⊖◌, ◌⊗◌, ◌≐◌}
use Rattle.exact_values.proofs.TestsLaws.{lt_from_test, le_from_lt_fails}
use Rattle.exact_values.proofs.Signs.{neg_not_below}
use Rattle.affine_laws.specs.Conditions.{Condition, Holds}
use Rattle.affine_laws.specs.Ends.{IsTightened}
use Rattle.affine_laws.specs.declared.tightening.Ends.{Ends}
use Rattle.affine_laws.proofs.Single.{holds_on}
use Rattle.sensitivity_laws.specs.Changes.{SidesHold, condition}
use Rattle.lp_definitions.specs.LinearProgram.{LinearProgram, Vector, size, lower_of, upper_of}
use Rattle.lp_definitions.specs.declared.Evidence.{Evidence}
use Rattle.basis_values.specs.Formulas.{IsRefusal}
use Rattle.frac128.specs.declared.Op.TheVariants.{Sub, Div}
use Rattle.simplex_definitions.specs.RhsRun.{shift_of}
use Rattle.para_rhs.specs.Limits.{limit_on, number_of}
use Rattle.para_rhs.specs.Reach.{side_ahead, bound_of, limit_sides, StaysTo, IsNarrowed, IsReachOf, basic_formula, VariableRefused, of_closing, of_distance}
use Rattle.para_rhs.specs.Reach.{of_quotient, SomeVariableRefused}
use Rattle.para_rhs.specs.declared.limits.Side.{Side}
use Rattle.para_rhs.specs.declared.limits.Side.TheVariants.{Lower, Upper}

-- ---- which limit is ahead

module _ (v by : ℚ) where
  pub comes_lower : side_ahead v by ≡ Some Lower → v <ℚ by
  comes_lower e = at (lt_ℚ v by) refl (lt_ℚ by v) e
    where
      at : (a : Bool) → lt_ℚ v by ≡ a → (b : Bool) → cond a (Some Lower) (cond b (Some Upper) None) ≡ Some Lower → v <ℚ by
      at true is b e = lt_from_test v by is
      at false is true e = cc
      at false is false e = cc

  pub comes_upper : side_ahead v by ≡ Some Upper → by <ℚ v
  comes_upper e = at (lt_ℚ v by) (lt_ℚ by v) refl e
    where
      at : (a b : Bool) → lt_ℚ by v ≡ b → cond a (Some Lower) (cond b (Some Upper) None) ≡ Some Upper → by <ℚ v
      at true b is e = cc
      at false true is e = lt_from_test by v is
      at false false is e = cc

  pub keeps_up : side_ahead v by ≡ None → v ≡ by
  keeps_up e = at (lt_ℚ v by) refl (lt_ℚ by v) refl e
    where
      at : (a : Bool) → lt_ℚ v by ≡ a → (b : Bool) → lt_ℚ by v ≡ b → cond a (Some Lower) (cond b (Some Upper) None) ≡ None → v ≡ by
      at true is b is_b e = cc
      at false is true is_b e = cc
      at false is false is_b e = le_antisymm (le_from_lt_fails by v is_b) (le_from_lt_fails v by is)

  closing_below : v <ℚ by → (v -ℚ by) <ℚ zero_ℚ
  closing_below h = lt_by_one h (by_ring2 v by (λ v s. number (pos 0) ≐ (v ⊖ s) ⊕ (s ⊖ v)) refl)

  closing_above : by <ℚ v → zero_ℚ <ℚ v -ℚ by
  closing_above h = lt_by_one h (by_ring2 v by (λ v s. v ⊖ s ≐ number (pos 0) ⊕ (v ⊖ s)) refl)

  pub apart_if_ahead : (side : Side) → side_ahead v by ≡ Some side → v ≢ by
  apart_if_ahead Lower e same = lt_irrefl (subst (λ x. x <ℚ by) same (comes_lower e))
  apart_if_ahead Upper e same = lt_irrefl (subst (λ x. by <ℚ x) same (comes_upper e))

  pub closing_apart : v ≢ by → v -ℚ by ≢ zero_ℚ
  closing_apart apart e = apart (by_ring2 v by (λ v s. v ≐ s ⊕ (v ⊖ s)) refl ∙ ap (λ x. by +ℚ x) e ∙ by_ring1 by (λ s. s ⊕ number (pos 0) ≐ s) refl)

-- ---- the conditions of one variable

module _ (p : LinearProgram) (shift : List ℚ) (k : ℕ) (z v : ℚ) where
  abbrev by : ℚ
  by = shift_of p.matrix shift k

  abbrev c : ℚ
  c = v -ℚ by

  abbrev first : Option ℚ → Option Condition
  first low = option_map (λ l. condition (z -ℚ l) c) low

  abbrev second : Option ℚ → Option Condition
  second high = option_map (λ u. condition (u -ℚ z) (neg_ℚ c)) high

  first_on : (low : Option ℚ) (from x : ℚ) → zero_ℚ ≤ℚ c → from ≤ℚ x → IfSome (first low) (λ e. Holds e from) → IfSome (first low) (λ e. Holds e x)
  first_on None from x grows forward h = tt
  first_on (Some l) from x grows forward h = holds_on (condition (z -ℚ l) c) grows from x h forward

  second_on : (high : Option ℚ) (from x : ℚ) → c ≤ℚ zero_ℚ → from ≤ℚ x → IfSome (second high) (λ e. Holds e from) → IfSome (second high) (λ e. Holds e x)
  second_on None from x falls forward h = tt
  second_on (Some u) from x falls forward h = holds_on (condition (u -ℚ z) (neg_ℚ c)) (neg_not_below c falls) from x h forward

  none_there : (f : ℚ → Condition) (o : Option ℚ) (x : ℚ) → o ≡ None → IfSome (option_map f o) (λ e. Holds e x)
  none_there f None x e = tt
  none_there f (Some l) x e = cc

  some_same : {a b : ℚ} → Some a ≡ Some b → a ≡ b
  some_same e = cc

  first_is : (low : Option ℚ) (l x : ℚ) → low ≡ Some l → IfSome (first low) (λ e. Holds e x) ↔ ((l -ℚ z) ≤ℚ x *ℚ c)
  first_is None l x e = absurd (let P : None ≡ Some l → ⊥ = λ e. cc in P e)
  first_is (Some y) l x e = (
    λ h. subst (λ y. (y -ℚ z) ≤ℚ x *ℚ c) (some_same e) (le_by_one h (by_ring4 y z x c (λ y z x c. x ⊗ c ≐ (y ⊖ z) ⊕ ((z ⊖ y) ⊕ x ⊗ c ⊖ number (pos 0))) refl)),
    λ h. le_by_one (subst (λ y. (y -ℚ z) ≤ℚ x *ℚ c) (sym (some_same e)) h)
        (by_ring4 y z x c (λ y z x c. (z ⊖ y) ⊕ x ⊗ c ≐ number (pos 0) ⊕ (x ⊗ c ⊖ (y ⊖ z))) refl),
  )

  second_is : (high : Option ℚ) (u x : ℚ) → high ≡ Some u → IfSome (second high) (λ e. Holds e x) ↔ (x *ℚ c ≤ℚ (u -ℚ z))
  second_is None u x e = absurd (let P : None ≡ Some u → ⊥ = λ e. cc in P e)
  second_is (Some y) u x e = (
    λ h. subst (λ y. x *ℚ c ≤ℚ (y -ℚ z)) (some_same e)
        (le_by_one h (by_ring4 y z x c (λ y z x c. y ⊖ z ≐ x ⊗ c ⊕ ((y ⊖ z) ⊕ x ⊗ opposite c ⊖ number (pos 0))) refl)),
    λ h. le_by_one (subst (λ y. x *ℚ c ≤ℚ (y -ℚ z)) (sym (some_same e)) h)
        (by_ring4 y z x c (λ y z x c. (y ⊖ z) ⊕ x ⊗ opposite c ≐ number (pos 0) ⊕ ((y ⊖ z) ⊖ x ⊗ c)) refl),
  )

  abbrev Narrowed : Ends → Ends → Type 0
  Narrowed ends now = IsNarrowed (limit_sides p shift (λ _. z) (λ _. v) k) ends now

  -- it keeps up with its limits
  pub narrowed_still : (ends : Ends) → side_ahead v by ≡ None → Narrowed ends ends
  narrowed_still ends none from h x forward =
      let zero : c ≡ zero_ℚ = ap (λ y. y -ℚ by) (keeps_up v by none) ∙ by_ring1 by (λ s. s ⊖ s ≐ number (pos 0)) refl in
      let grows : zero_ℚ ≤ℚ c = subst (λ y. zero_ℚ ≤ℚ y) (sym zero) (le_refl zero_ℚ) in
      let falls : c ≤ℚ zero_ℚ = subst (λ y. y ≤ℚ zero_ℚ) (sym zero) (le_refl zero_ℚ) in
      (λ b. (b, (first_on (lower_of p k) from x grows forward h.0, second_on (upper_of p k) from x falls forward h.1)), λ both. both.0)

  -- there is no limit ahead
  pub narrowed_free : (ends : Ends) (side : Side) → side_ahead v by ≡ Some side → limit_on p side k ≡ None → Narrowed ends ends
  narrowed_free ends Lower ahead none from h x forward = (
    λ b. (
      b,
      (
        none_there (λ l. condition (z -ℚ l) c) (lower_of p k) x none,
        second_on (upper_of p k) from x
            (le_of_lt (closing_below v by (comes_lower v by ahead))) forward h.1,
      ),
    ),
    λ both. both.0,
  )
  narrowed_free ends Upper ahead none from h x forward = (
    λ b. (
      b,
      (
        first_on (lower_of p k) from x (le_of_lt (closing_above v by (comes_upper v by ahead))) forward h.0,
        none_there
            (λ u. condition (u -ℚ z) (neg_ℚ c)) (upper_of p k) x none,
      ),
    ),
    λ both. both.0,
  )

  -- there is one
  pub narrowed_limit : (ends now : Ends) (side : Side) (l : ℚ) → side_ahead v by ≡ Some side → limit_on p side k ≡ Some l →
      IsTightened ends (bound_of side c (l -ℚ z) k) now → Narrowed ends now
  narrowed_limit ends now Lower l ahead limit tight from h x forward = (
    λ b. let both = (tight.exact x).0 b in (
      both.0,
      (
        (first_is (lower_of p k) l x limit).1 both.1,
        second_on (upper_of p k) from x
            (le_of_lt (closing_below v by (comes_lower v by ahead))) forward h.1,
      ),
    ),
    λ both. (tight.exact x).1 (both.0, (first_is (lower_of p k) l x limit).0 both.1.0),
  )
  narrowed_limit ends now Upper l ahead limit tight from h x forward = (
    λ b. let both = (tight.exact x).0 b in (
      both.0,
      (
        first_on (lower_of p k) from x (le_of_lt (closing_above v by (comes_upper v by ahead))) forward h.0,
        (second_is (upper_of p k) l x limit).1 both.1,
      ),
    ),
    λ both. (tight.exact x).1 (both.0, (second_is (upper_of p k) l x limit).0 both.1.1),
  )

-- ---- one variable more

module _ (p : LinearProgram) (shift : List ℚ) (z v : Vector) (max : ℚ) where
  up_to_next : (n : ℕ) (x : ℚ) → StaysTo p shift z v n x → SidesHold (limit_sides p shift z v (n + 1)) x → StaysTo p shift z v (n + 1) x
  up_to_next n x before next k low high = at (eqb_tells k (n + 1))
    where
      at : (((eqb k (n + 1) ≡ true) × (k ≡ n + 1)) ⊎ ((eqb k (n + 1) ≡ false) × (k ≢ n + 1))) → SidesHold (limit_sides p shift z v k) x
      at (inl same) = subst (λ (k : ℕ). SidesHold (limit_sides p shift z v k) x) (sym same.1) next
      at (inr apart) = let other = apart.1 in before k low (omega (arith, high, other))

  pub no_reach : IsReachOf p shift z v 0 max (record { low = None; high = Some (record { value = max; by = 0; which = 0 }) })
  no_reach from most all x forward = (λ b. (b.1, λ k low high. absurd (omega (arith, low, high))), λ both. (tt, both.0))

  pub next_reach : (n : ℕ) (ends now : Ends) (here rate : ℚ) → z (n + 1) ≡ here → v (n + 1) ≡ rate → IsReachOf p shift z v n max ends →
      IsNarrowed (limit_sides p shift (λ _. here) (λ _. rate) (n + 1)) ends now → IsReachOf p shift z v (n + 1) max now
  next_reach n ends now here rate here_is rate_is before narrowed from most all x forward = (
    λ b. let two = (narrowed from (own from (last from all)) x forward).0 b in
        let one = (before from most (first from all) x forward).0 two.0 in
        (one.0, up_to_next n x one.1 (back x two.1)),
    λ both. (narrowed from (own from (last from all)) x forward).1
        ((before from most (first from all) x forward).1 (both.0, first x both.1), own x (last x both.1)),
  )
    where
      first : (y : ℚ) → StaysTo p shift z v (n + 1) y → StaysTo p shift z v n y
      first y h k low high = h k low (omega (arith, high))

      last : (y : ℚ) → StaysTo p shift z v (n + 1) y → SidesHold (limit_sides p shift z v (n + 1)) y
      last y h = h (n + 1) (omega arith) (omega arith)

      own : (y : ℚ) → SidesHold (limit_sides p shift z v (n + 1)) y → SidesHold (limit_sides p shift (λ _. here) (λ _. rate) (n + 1)) y
      own y h =
          subst (λ b. SidesHold (limit_sides p shift (λ _. here) (λ _. b) (n + 1)) y) rate_is
          (subst (λ a. SidesHold (limit_sides p shift (λ _. a) (λ _. v (n + 1)) (n + 1)) y) here_is h)

      back : (y : ℚ) → SidesHold (limit_sides p shift (λ _. here) (λ _. rate) (n + 1)) y → SidesHold (limit_sides p shift z v (n + 1)) y
      back y h =
          subst (λ a. SidesHold (limit_sides p shift (λ _. a) (λ _. v (n + 1)) (n + 1)) y) (sym here_is)
          (subst (λ b. SidesHold (limit_sides p shift (λ _. here) (λ _. b) (n + 1)) y) (sym rate_is) h)

  -- and a refusal
  pub refused_at : (n : ℕ) (here rate : ℚ) (e : Evidence) → n < size p.matrix → z (n + 1) ≡ here → v (n + 1) ≡ rate → rate ≢ shift_of p.matrix shift (n + 1) →
      VariableRefused p shift (λ _. here) (λ _. rate) (n + 1) e → SomeVariableRefused p shift z v e
  refused_at n here rate e below here_is rate_is moves refused = record {
    k = n + 1;
    is_variable = (omega arith, omega (arith, below));
    moves = λ same. moves (sym rate_is ∙ same);
    refused = back refused;
  }
    where
      back : VariableRefused p shift (λ _. here) (λ _. rate) (n + 1) e → VariableRefused p shift z v (n + 1) e
      back (of_closing r) = of_closing (subst (λ (x : ℚ). IsRefusal (basic_formula 18 (n + 1) 0) Sub x (shift_of p.matrix shift (n + 1)) e) (sym rate_is) r)
      back (of_distance side l limit r) =
          of_distance side l limit (subst (λ (x : ℚ). IsRefusal (basic_formula 6 (n + 1) (number_of side)) Sub l x e) (sym here_is) r)
      back (of_quotient side l limit r) = of_quotient side l limit
          (subst₂ (λ (x y : ℚ). IsRefusal (basic_formula 18 (n + 1) (number_of side)) Div (l -ℚ x) (y -ℚ shift_of p.matrix shift (n + 1)) e) (sym here_is)
          (sym rate_is) r)
