-- Along an interval of a parametric run a price that isn't 0 is that of a nonbasic, which stands at its limit at every value. So the prices
-- of both ends keep the limits of both, as the test of an interval asks.
--     TiesLimits family a          where both limits of a variable are equal at one value, they are at every value
use Rattle.std.proofs.Common.{◌≡◌, ℕ, true, List, ◌++◌, Option, Some, if◌then◌else◌, refl, sym, ap, subst, ◌∙◌, arith}
use Rattle.std.specs.List.{flat_map}
use Rattle.std.proofs.lemmas.Bool.{and_from}
use Rattle.exact_values.specs.Rational.{ℚ, zero_ℚ, ◌≤ℚ◌, ◌<ℚ◌}
use Rattle.exact_values.proofs.Order.{lt_irrefl, le_refl}
use Rattle.lp_definitions.specs.declared.Sense.{Sense}
use Rattle.lp_definitions.specs.declared.Status.{Status}
use Rattle.lp_definitions.specs.declared.Status.TheVariants.{Bs, Ll, Ul, Fr}
use Rattle.lp_definitions.specs.LinearProgram.{Matrix, LinearProgram, Vector, size, variables, IsVariable, lower_of, upper_of, for_min}
use Rattle.lp_definitions.specs.Basis.{is_in, is_basic, basics_of, status_of, StandsAt, IsAllowed, IsFixed, IsOptimalBasis, objective_rate}
use Rattle.lp_laws.proofs.Optimal.{for_min-zero}
use Rattle.lp_laws.proofs.Uniqueness.{is_in-basics_of}
use Rattle.check_definitions.specs.Steps.{Step, AllHold}
use Rattle.certificate_laws.proofs.Truth.{both_hold, all_hold, stands, sign_holds}
use Rattle.simplex_definitions.specs.Chain.{Part, along, IsPart}
use Rattle.parametric_laws.specs.Truth.{IsTruePart}
use Rattle.walk_definitions.specs.Tests.{keeps_limit}

-- ---- a nonbasic stands at the same limit

lower_kept : (st : Status) (low0 high0 low1 high1 : Option ℚ) (z0 z1 : ℚ) → StandsAt st low0 high0 z0 → StandsAt st low1 high1 z1 → IsAllowed st low0 high0 →
    (st ≡ Bs → ⊥) →
    ((v : ℚ) → low0 ≡ Some v → high0 ≡ Some v → (w : ℚ) × (low1 ≡ Some w) × (high1 ≡ Some w)) → low0 ≡ Some z0 → low1 ≡ Some z1
lower_kept Bs low0 high0 low1 high1 z0 z1 first second allowed out ties e = absurd (out refl)
lower_kept Ll low0 high0 low1 high1 z0 z1 first second allowed out ties e = second
lower_kept Ul low0 high0 low1 high1 z0 z1 first second allowed out ties e = let fixed = ties z0 e first in fixed.1 ∙ sym fixed.2 ∙ second
lower_kept Fr low0 high0 low1 high1 z0 z1 first second allowed out ties e = let none = allowed.0 in absurd (cc (none, e))

upper_kept : (st : Status) (low0 high0 low1 high1 : Option ℚ) (z0 z1 : ℚ) → StandsAt st low0 high0 z0 → StandsAt st low1 high1 z1 → IsAllowed st low0 high0 →
    (st ≡ Bs → ⊥) →
    ((v : ℚ) → low0 ≡ Some v → high0 ≡ Some v → (w : ℚ) × (low1 ≡ Some w) × (high1 ≡ Some w)) → high0 ≡ Some z0 → high1 ≡ Some z1
upper_kept Bs low0 high0 low1 high1 z0 z1 first second allowed out ties e = absurd (out refl)
upper_kept Ul low0 high0 low1 high1 z0 z1 first second allowed out ties e = second
upper_kept Ll low0 high0 low1 high1 z0 z1 first second allowed out ties e = let fixed = ties z0 first e in fixed.2 ∙ sym fixed.1 ∙ second
upper_kept Fr low0 high0 low1 high1 z0 z1 first second allowed out ties e = let none = allowed.1 in absurd (cc (none, e))

abbrev pub TiesLimits : (ℚ → LinearProgram) → Matrix → Type 0
TiesLimits family a = (theta x : ℚ) (k : ℕ) → IsVariable a k → IsFixed (family theta) k → IsFixed (family x) k

module _ (family : ℚ → LinearProgram) (a : Matrix) (sense : Sense) (matrix_is : (theta : ℚ) → (family theta).matrix ≡ a)
    (sense_is : (theta : ℚ) → (family theta).sense ≡ sense) (ties : TiesLimits family a)
    (from max : ℚ) (s : List Status) (part : Part) (is : IsPart family from max s part) (truth : IsTruePart family max part) where
  abbrev z : ℚ → Vector
  z theta = along theta part.value part.value_rate

  abbrev y : ℚ → Vector
  y theta = along theta part.price part.price_rate

  module _ (theta : ℚ) (low : part.from ≤ℚ theta) (high : theta ≤ℚ part.to) (k : ℕ) (var : IsVariable a k) where
    there : (x : ℚ) → IsVariable (family x).matrix k
    there x = subst (λ (m : Matrix). IsVariable m k) (sym (matrix_is x)) var

    optimal : IsOptimalBasis (family theta) s
    optimal = is.reaches.optimal theta (subst (λ (q : ℚ). q ≤ℚ theta) is.begins low) high

    -- the price of a basic is 0
    basic_price : status_of s k ≡ Bs → y theta k ≡ zero_ℚ
    basic_price e =
        let inside : is_in (basics_of s) k ≡ true = is_in-basics_of s k var.0 (omega (arith, (there theta).1, optimal.is_basis.counted)) ∙ ap is_basic e in
        (is.prices theta).prices k (there theta) ∙ ap (λ b. if b then zero_ℚ else objective_rate (family theta) (is.prices theta).rate k) inside

    not_basic : (y theta k ≡ zero_ℚ → ⊥) → status_of s k ≡ Bs → ⊥
    not_basic apart e = apart (basic_price e)

    lower_at_both : (x : ℚ) → zero_ℚ <ℚ for_min sense (y theta k) → (lower_of (family theta) k ≡ Some (z theta k)) × (lower_of (family x) k ≡ Some (z x k))
    lower_at_both x positive =
        let here = (truth.solved theta low high).certificate.at_lower k (there theta)
        (subst (λ (own : Sense). zero_ℚ <ℚ for_min own (y theta k)) (sym (sense_is theta)) positive) in (
          here,
          lower_kept (status_of s k) (lower_of (family theta) k) (upper_of (family theta) k) (lower_of (family x) k) (upper_of (family x) k) (z theta k) (z x k)
              ((is.values theta).placed k (there theta)) ((is.values x).placed k (there x)) (optimal.is_basis.allowed k (there theta))
              (not_basic (λ e. lt_irrefl (subst (λ (v : ℚ). zero_ℚ <ℚ v) (ap (for_min sense) e ∙ for_min-zero sense) positive)))
              (λ v l h. ties theta x k var (v, l, h)) here,
        )

    upper_at_both : (x : ℚ) → for_min sense (y theta k) <ℚ zero_ℚ → (upper_of (family theta) k ≡ Some (z theta k)) × (upper_of (family x) k ≡ Some (z x k))
    upper_at_both x negative =
        let here = (truth.solved theta low high).certificate.at_upper k (there theta)
        (subst (λ (own : Sense). for_min own (y theta k) <ℚ zero_ℚ) (sym (sense_is theta)) negative) in (
          here,
          upper_kept (status_of s k) (lower_of (family theta) k) (upper_of (family theta) k) (lower_of (family x) k) (upper_of (family x) k) (z theta k) (z x k)
              ((is.values theta).placed k (there theta)) ((is.values x).placed k (there x)) (optimal.is_basis.allowed k (there theta))
              (not_basic (λ e. lt_irrefl (subst (λ (v : ℚ). v <ℚ zero_ℚ) (ap (for_min sense) e ∙ for_min-zero sense) negative)))
              (λ v l h. ties theta x k var (v, l, h)) here,
        )

  -- the prices of one end keep the limits of both
  abbrev keeps_at : ℚ → ℕ → List Step
  keeps_at theta k = keeps_limit (family part.from) (family part.to) (z part.from) (z part.to) (y theta k) k

  at_first : (k : ℕ) → IsVariable a k → AllHold (keeps_at part.from k)
  at_first k var = (
    sign_holds (for_min (family part.from).sense (y part.from k)) _ _
        (λ negative. let both = upper_at_both part.from (le_refl part.from) truth.forward k var part.to (own_sense negative) in
        and_from _ _ (stands (upper_of (family part.from) k) (z part.from k) both.0) (stands (upper_of (family part.to) k) (z part.to k) both.1))
        (λ positive. let both = lower_at_both part.from (le_refl part.from) truth.forward k var part.to (own_positive positive) in
        and_from _ _ (stands (lower_of (family part.from) k) (z part.from k) both.0) (stands (lower_of (family part.to) k) (z part.to k) both.1)),
    tt,
  )
    where
      own_sense : for_min (family part.from).sense (y part.from k) <ℚ zero_ℚ → for_min sense (y part.from k) <ℚ zero_ℚ
      own_sense negative = subst (λ (own : Sense). for_min own (y part.from k) <ℚ zero_ℚ) (sense_is part.from) negative

      own_positive : zero_ℚ <ℚ for_min (family part.from).sense (y part.from k) → zero_ℚ <ℚ for_min sense (y part.from k)
      own_positive positive = subst (λ (own : Sense). zero_ℚ <ℚ for_min own (y part.from k)) (sense_is part.from) positive

  at_last : (k : ℕ) → IsVariable a k → AllHold (keeps_at part.to k)
  at_last k var = (
    sign_holds (for_min (family part.from).sense (y part.to k)) _ _
        (λ negative. let both = upper_at_both part.to truth.forward (le_refl part.to) k var part.from (own_sense negative) in
        and_from _ _ (stands (upper_of (family part.from) k) (z part.from k) both.1) (stands (upper_of (family part.to) k) (z part.to k) both.0))
        (λ positive. let both = lower_at_both part.to truth.forward (le_refl part.to) k var part.from (own_positive positive) in
        and_from _ _ (stands (lower_of (family part.from) k) (z part.from k) both.1) (stands (lower_of (family part.to) k) (z part.to k) both.0)),
    tt,
  )
    where
      own_sense : for_min (family part.from).sense (y part.to k) <ℚ zero_ℚ → for_min sense (y part.to k) <ℚ zero_ℚ
      own_sense negative = subst (λ (own : Sense). for_min own (y part.to k) <ℚ zero_ℚ) (sense_is part.from) negative

      own_positive : zero_ℚ <ℚ for_min (family part.from).sense (y part.to k) → zero_ℚ <ℚ for_min sense (y part.to k)
      own_positive positive = subst (λ (own : Sense). zero_ℚ <ℚ for_min own (y part.to k)) (sense_is part.from) positive

  pub keeping_holds : AllHold (flat_map (λ k. keeps_at part.from k ++ keeps_at part.to k) (variables a))
  keeping_holds = all_hold (λ k. keeps_at part.from k ++ keeps_at part.to k) 1 (size a) (λ k low high.
      both_hold (keeps_at part.from k) (keeps_at part.to k) (at_first k (low, omega (arith, high))) (at_last k (low, omega (arith, high))))
