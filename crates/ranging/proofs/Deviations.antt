-- Ends of intervals.
use Rattle.std.proofs.Common.{◌≡◌, ℕ, inl, inr, refl, sym, subst, subst₂, true, false, Option, Some, None}
use Rattle.std.specs.Prelude.{◌↔◌, IfSome, IsSome, option_map}
use Rattle.exact_values.specs.Rational.{ℚ, neg_ℚ, ◌+ℚ◌, ◌-ℚ◌, ◌≤ℚ◌}
use Rattle.exact_values.specs.Tests.{lt_ℚ}
use Rattle.exact_values.proofs.Ring.{by_ring2, by_ring3, opposite as opp, ◌⊕◌, ◌⊖◌, ◌≐◌}
use Rattle.exact_values.proofs.Order.{le_by_one, le_trans, le_of_lt}
use Rattle.exact_values.proofs.TestsLaws.{lt_from_test, le_from_lt_fails}
use Rattle.affine_laws.specs.Ends.{IsBetweenEnds, IsBefore}
use Rattle.affine_laws.specs.declared.tightening.Endpoint.{Endpoint}
use Rattle.affine_laws.specs.declared.tightening.Ends.{Ends}
use Rattle.frac128.specs.declared.Op.TheVariants.{Add, Sub}
use Rattle.lp_definitions.specs.declared.Evidence.{Evidence}
use Rattle.basis_values.specs.Formulas.{IsRefusal}
use Rattle.ranging.specs.Formulas.{end_formula}
use Rattle.ranging.specs.Intervals.{IsAtLeast, IsAtMost, IsIn, less_end, taken_from, opposite_end, opposite, DifferenceRefused, SumRefused}

-- what holds of an end that is there
pub of_end : (o : Option Endpoint) (P : Endpoint → Type 0) → IfSome o P → IsSome o → (e : Endpoint) × (o ≡ Some e) × P e
of_end None P h there = let Q : IsSome (let n : Option Endpoint = None in n) → ⊥ = λ e. cc in absurd (Q there)
of_end (Some e) P h there = (e, refl, h)

pub low_difference : (cost : ℚ) (ends : Ends) (i : ℕ) (e : Evidence) → IfSome ends.low (λ d. IsRefusal (end_formula i d.by 0) Sub cost d.value e) →
    IsSome ends.low → DifferenceRefused cost ends i e
low_difference cost ends i e h there =
    let f = of_end ends.low (λ d. IsRefusal (end_formula i d.by 0) Sub cost d.value e) h there in record { end = f.0; is_end = inl f.1; refused = f.2 }

pub high_difference : (cost : ℚ) (ends : Ends) (i : ℕ) (e : Evidence) → IfSome ends.high (λ d. IsRefusal (end_formula i d.by 0) Sub cost d.value e) →
    IsSome ends.high → DifferenceRefused cost ends i e
high_difference cost ends i e h there =
    let f = of_end ends.high (λ d. IsRefusal (end_formula i d.by 0) Sub cost d.value e) h there in record { end = f.0; is_end = inr f.1; refused = f.2 }

pub low_sum : (stands : ℚ) (ends : Ends) (k : ℕ) (e : Evidence) → IfSome ends.low (λ d. IsRefusal (end_formula d.by k d.which) Add stands d.value e) →
    IsSome ends.low → SumRefused stands ends k e
low_sum stands ends k e h there =
    let f = of_end ends.low (λ d. IsRefusal (end_formula d.by k d.which) Add stands d.value e) h there in record { end = f.0; is_end = inl f.1; refused = f.2 }

pub high_sum : (stands : ℚ) (ends : Ends) (k : ℕ) (e : Evidence) → IfSome ends.high (λ d. IsRefusal (end_formula d.by k d.which) Add stands d.value e) →
    IsSome ends.high → SumRefused stands ends k e
high_sum stands ends k e h there =
    let f = of_end ends.high (λ d. IsRefusal (end_formula d.by k d.which) Add stands d.value e) h there in record { end = f.0; is_end = inr f.1; refused = f.2 }

-- ---- the nearer of two

pub less_is : (first second : Option ℚ) (one other : ℚ) → first ≡ Some one → second ≡ Some other → lt_ℚ other one ≡ true → (t : ℚ) →
    (t ≤ℚ other) ↔ (IsAtMost first t × IsAtMost second t)
less_is first second one other is_one is_other test t =
    subst₂ (λ a b. (t ≤ℚ other) ↔ (IsAtMost a t × IsAtMost b t)) (sym is_one) (sym is_other)
    (λ h. (le_trans h (le_of_lt (lt_from_test other one test)), h), λ h. h.1)

pub not_less_is : (first second : Option ℚ) (one other : ℚ) → first ≡ Some one → second ≡ Some other → lt_ℚ other one ≡ false → (t : ℚ) →
    (t ≤ℚ one) ↔ (IsAtMost first t × IsAtMost second t)
not_less_is first second one other is_one is_other test t =
    subst₂ (λ a b. (t ≤ℚ one) ↔ (IsAtMost a t × IsAtMost b t)) (sym is_one) (sym is_other) (λ h. (h, le_trans h (le_from_lt_fails other one test)), λ h. h.0)

pub greater_is : (first second : Option ℚ) (one other : ℚ) → first ≡ Some one → second ≡ Some other → lt_ℚ one other ≡ true → (t : ℚ) →
    (other ≤ℚ t) ↔ (IsAtLeast first t × IsAtLeast second t)
greater_is first second one other is_one is_other test t =
    subst₂ (λ a b. (other ≤ℚ t) ↔ (IsAtLeast a t × IsAtLeast b t)) (sym is_one) (sym is_other)
    (λ h. (le_trans (le_of_lt (lt_from_test one other test)) h, h), λ h. h.1)

pub not_greater_is : (first second : Option ℚ) (one other : ℚ) → first ≡ Some one → second ≡ Some other → lt_ℚ one other ≡ false → (t : ℚ) →
    (one ≤ℚ t) ↔ (IsAtLeast first t × IsAtLeast second t)
not_greater_is first second one other is_one is_other test t =
    subst₂ (λ a b. (one ≤ℚ t) ↔ (IsAtLeast a t × IsAtLeast b t)) (sym is_one) (sym is_other) (λ h. (h, le_trans (le_from_lt_fails one other test) h), λ h. h.0)

-- ---- values and deviations

less_high : (cost t : ℚ) (end : Option Endpoint) → IsAtLeast (less_end cost end) t ↔ IsBefore true end (cost -ℚ t)
less_high cost t None = (λ h. tt, λ h. tt)
less_high cost t (Some e) = (
  λ h. le_by_one h (by_ring3 cost t e.value (λ c t v. v ≐ (c ⊖ t) ⊕ (t ⊖ (c ⊖ v))) refl),
  λ h. le_by_one h
      (by_ring3 cost t e.value (λ c t v. t ≐ (c ⊖ v) ⊕ (v ⊖ (c ⊖ t))) refl),
)

less_low : (cost t : ℚ) (end : Option Endpoint) → IsAtMost (less_end cost end) t ↔ IsBefore false end (cost -ℚ t)
less_low cost t None = (λ h. tt, λ h. tt)
less_low cost t (Some e) = (
  λ h. le_by_one h (by_ring3 cost t e.value (λ c t v. c ⊖ t ≐ v ⊕ ((c ⊖ v) ⊖ t)) refl),
  λ h. le_by_one h
      (by_ring3 cost t e.value (λ c t v. c ⊖ v ≐ t ⊕ ((c ⊖ t) ⊖ v)) refl),
)

-- a cost lies in its interval where what it lacks lies between the ends
pub taken_is : (cost t : ℚ) (ends : Ends) → IsIn (taken_from cost ends) t ↔ IsBetweenEnds ends (cost -ℚ t)
taken_is cost t ends =
    (λ h. ((less_low cost t ends.low).0 h.1, (less_high cost t ends.high).0 h.0), λ h. ((less_high cost t ends.high).1 h.1, (less_low cost t ends.low).1 h.0))

opposite_high : (t : ℚ) (end : Option Endpoint) → IsAtLeast (opposite_end end) t ↔ IsBefore true end (neg_ℚ t)
opposite_high t None = (λ h. tt, λ h. tt)
opposite_high t (Some e) =
    (λ h. le_by_one h (by_ring2 t e.value (λ t v. v ≐ opp t ⊕ (t ⊖ opp v)) refl), λ h. le_by_one h (by_ring2 t e.value (λ t v. t ≐ opp v ⊕ (v ⊖ opp t)) refl))

opposite_low : (t : ℚ) (end : Option Endpoint) → IsAtMost (opposite_end end) t ↔ IsBefore false end (neg_ℚ t)
opposite_low t None = (λ h. tt, λ h. tt)
opposite_low t (Some e) =
    (λ h. le_by_one h (by_ring2 t e.value (λ t v. opp t ≐ v ⊕ (opp v ⊖ t)) refl), λ h. le_by_one h (by_ring2 t e.value (λ t v. opp v ≐ t ⊕ (opp t ⊖ v)) refl))

pub opposite_is : (t : ℚ) (ends : Ends) → IsIn (opposite ends) t ↔ IsBetweenEnds ends (neg_ℚ t)
opposite_is t ends =
    (λ h. ((opposite_low t ends.low).0 h.1, (opposite_high t ends.high).0 h.0), λ h. ((opposite_high t ends.high).1 h.1, (opposite_low t ends.low).1 h.0))

plus_low : (stands t : ℚ) (end : Option Endpoint) → IsAtLeast (option_map (λ (e : Endpoint). stands +ℚ e.value) end) t ↔ IsBefore false end (t -ℚ stands)
plus_low stands t None = (λ h. tt, λ h. tt)
plus_low stands t (Some e) = (
  λ h. le_by_one h (by_ring3 stands t e.value (λ l t v. t ⊖ l ≐ v ⊕ (t ⊖ (l ⊕ v))) refl),
  λ h. le_by_one h
      (by_ring3 stands t e.value (λ l t v. t ≐ (l ⊕ v) ⊕ ((t ⊖ l) ⊖ v)) refl),
)

plus_high : (stands t : ℚ) (end : Option Endpoint) → IsAtMost (option_map (λ (e : Endpoint). stands +ℚ e.value) end) t ↔ IsBefore true end (t -ℚ stands)
plus_high stands t None = (λ h. tt, λ h. tt)
plus_high stands t (Some e) = (
  λ h. le_by_one h (by_ring3 stands t e.value (λ l t v. v ≐ (t ⊖ l) ⊕ ((l ⊕ v) ⊖ t)) refl),
  λ h. le_by_one h
      (by_ring3 stands t e.value (λ l t v. l ⊕ v ≐ t ⊕ (v ⊖ (t ⊖ l))) refl),
)

-- a limit lies between the moved ends where its way from where it stands lies between the ends, and its own limit holds as it does
pub moved_is : (stands t : ℚ) (ends : Ends) (low high : Option ℚ) (Own In : Type 0) → low ≡ option_map (λ (e : Endpoint). stands +ℚ e.value) ends.low
    → high ≡ option_map (λ (e : Endpoint). stands +ℚ e.value) ends.high
    → In ↔ ((IsAtLeast low t × IsAtMost high t) × Own) → In ↔ (IsBetweenEnds ends (t -ℚ stands) × Own)
moved_is stands t ends low high Own In is_low is_high h = (
  λ a. let b =
      h.0 a in (
        (
          (plus_low stands t ends.low).0 (subst (λ o. IsAtLeast o t) is_low b.0.0),
          (plus_high stands t ends.high).0
              (subst (λ o. IsAtMost o t) is_high b.0.1),
        ),
        b.1,
      ),
  λ b. h.1 (
    (
      subst (λ o. IsAtLeast o t) (sym is_low) ((plus_low stands t ends.low).1 b.0.0),
      subst (λ o. IsAtMost o t) (sym is_high)
          ((plus_high stands t ends.high).1 b.0.1),
    ),
    b.1,
  ),
)
