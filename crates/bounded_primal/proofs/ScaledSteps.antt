-- A step over common denominators.
use Rattle.std.proofs.Common.{◌≡◌, ◌≢◌, ℕ, zero, suc, ◌*◌, ◌<◌, ◌/◌, ◌%◌, ◌^◌, ℤ, pos, negsuc, ◌+ℤ◌, ◌*ℤ◌, ◌≤ℤ◌, refl, sym, subst, ap, ap₂, ◌∙◌, arith, mul-pos}
use Rattle.std.specs.Prelude.{nat_abs}
use Rattle.std.proofs.Math.Nat.{div-add-mod}
use Rattle.std.proofs.lemmas.Int.{ints}
use Rattle.exact_values.specs.Rational.{ℚ, whole, fraction, zero_ℚ, ◌+ℚ◌, ◌*ℚ◌}
use Rattle.exact_values.proofs.Fractions.{is_ratio, fraction_ratio, mul_ratio, same_from_ratio, whole_of_positive}
use Rattle.exact_values.proofs.RingLaws.{whole_ratio, whole-add, whole-mul, mul_comm, one-mul}
use Rattle.exact_values.proofs.Ring.{by_ring3, by_ring4, by_ring5, ◌⊗◌, ◌⊕◌, ◌≐◌}
use Rattle.exact_values.proofs.Inverse.{cancel_left, same_wholes}
use Rattle.bounded_primal.specs.declared.scaled_step.ScaledStep.TheInside.{Inside}
use Rattle.bounded_primal.specs.ScaledSteps.{IsScaled}

-- ---- fractions and their terms

numerator_back : (x : ℚ) → x *ℚ whole (pos x.denominator) ≡ whole x.numerator
numerator_back x = same_from_ratio (mul_ratio (is_ratio x) (whole_ratio (pos x.denominator))) (whole_ratio x.numerator) (omega arith)

top_back : (a : ℤ) (d : ℕ) → 0 < d → fraction a d *ℚ whole (pos d) ≡ whole a
top_back a d some = same_from_ratio (mul_ratio (fraction_ratio a d some) (whole_ratio (pos d))) (whole_ratio a) (omega arith)

not_zero : (d : ℕ) → 0 < d → whole (pos d) ≢ zero_ℚ
not_zero d some is = absurd (omega (arith, some, ints, same_wholes (pos d) (pos 0) is))

fraction_from : (x : ℚ) (a : ℤ) (d : ℕ) → 0 < d → whole a ≡ x *ℚ whole (pos d) → fraction a d ≡ x
fraction_from x a d some is =
    cancel_left (whole (pos d)) (fraction a d) x (not_zero d some)
    (mul_comm (whole (pos d)) (fraction a d) ∙ top_back a d some ∙ is ∙ mul_comm x (whole (pos d)))

-- a numerator, as the fraction times its denominator
top_of : (x : ℚ) (num den : ℤ) → fraction num (nat_abs den) ≡ x → pos 1 ≤ℤ den → whole num ≡ x *ℚ whole den
top_of x num den is some =
    let den_is = whole_of_positive den some in
    sym (top_back num (nat_abs den) den_is.1) ∙ ap₂ (λ (y : ℚ) (z : ℤ). y *ℚ whole z) is den_is.0

-- a fraction over its own denominator
pub own_numerator : (x : ℚ) (num den : ℤ) (common : ℕ) → fraction num (nat_abs den) ≡ x → pos 1 ≤ℤ den → den ≡ pos common →
    whole num ≡ x *ℚ whole (pos common)
own_numerator x num den common is some same = top_of x num den is some ∙ ap (λ (z : ℤ). x *ℚ whole z) same

-- a fraction over a multiple of its denominator
pub numerator_is : (x : ℚ) (num den : ℤ) (common low : ℕ) (n : ℤ) → fraction num (nat_abs den) ≡ x → pos 1 ≤ℤ den → den ≡ pos low →
    common % low ≡ 0 → n ≡ num *ℤ pos (common / low) → whole n ≡ x *ℚ whole (pos common)
numerator_is x num den common low n is some same none n_is =
    let parts : common ≡ low * (common / low) = omega (arith, sym (div-add-mod common low), none) in
    ap whole n_is ∙ whole-mul num (pos (common / low))
    ∙ ap (λ t. t *ℚ whole (pos (common / low))) (own_numerator x num den low is some same)
    ∙ by_ring3 x (whole (pos low)) (whole (pos (common / low))) (λ x d k. (x ⊗ d) ⊗ k ≐ x ⊗ (d ⊗ k)) refl
    ∙ ap (λ t. x *ℚ t) (sym (whole-mul (pos low) (pos (common / low)))) ∙ ap (λ m. x *ℚ whole (pos m)) (sym parts)

-- ---- the value after the step

module _ (s : Inside) (scaled : IsScaled s) (value rate : ℚ) (v r : ℤ) (value_is : whole v ≡ value *ℚ whole (pos s.value_denominator))
    (rate_is : whole r ≡ rate *ℚ whole (pos s.rate_denominator)) (total : ℤ) (is : total ≡ v *ℤ s.value_factor +ℤ r *ℤ s.rate_factor) where
  abbrev after : ℚ
  after = value +ℚ s.step *ℚ rate

  total_is : whole total ≡ after *ℚ (whole s.shared *ℚ whole s.rest)
  total_is =
      ap whole is ∙ whole-add (v *ℤ s.value_factor) (r *ℤ s.rate_factor)
      ∙ ap₂ (λ x y. x +ℚ y)
      (whole-mul v s.value_factor ∙ ap (λ t. t *ℚ whole s.value_factor) value_is
      ∙ by_ring3 value (whole (pos s.value_denominator)) (whole s.value_factor) (λ x d f. (x ⊗ d) ⊗ f ≐ x ⊗ (f ⊗ d)) refl
      ∙ ap (λ t. value *ℚ t) scaled.value_factor)
      (whole-mul r s.rate_factor ∙ ap (λ t. t *ℚ whole s.rate_factor) rate_is
      ∙ by_ring3 rate (whole (pos s.rate_denominator)) (whole s.rate_factor) (λ x d f. (x ⊗ d) ⊗ f ≐ x ⊗ (f ⊗ d)) refl
      ∙ ap (λ t. rate *ℚ t) scaled.rate_factor)
      ∙ by_ring4 value s.step rate (whole s.shared *ℚ whole s.rest) (λ x t y l. x ⊗ l ⊕ y ⊗ (t ⊗ l) ≐ (x ⊕ t ⊗ y) ⊗ l) refl

  -- where what was shared last is shared again
  pub cancelled_is : (part : ℤ) → part *ℤ s.shared ≡ total → fraction part (nat_abs s.rest) ≡ value +ℚ s.step *ℚ rate
  cancelled_is part same =
      let shared_is = whole_of_positive s.shared scaled.some_shared in
      let rest_is = whole_of_positive s.rest scaled.some_rest in
      fraction_from after part (nat_abs s.rest) rest_is.1
      (cancel_left (whole s.shared) (whole part) (after *ℚ whole (pos (nat_abs s.rest)))
      (subst (λ (z : ℤ). whole z ≢ zero_ℚ) shared_is.0 (not_zero (nat_abs s.shared) shared_is.1))
      (mul_comm (whole s.shared) (whole part) ∙ sym (whole-mul part s.shared) ∙ ap whole same ∙ total_is
      ∙ by_ring3 after (whole s.shared) (whole s.rest) (λ x s r. x ⊗ (s ⊗ r) ≐ s ⊗ (x ⊗ r)) refl
      ∙ ap (λ (z : ℤ). whole s.shared *ℚ (after *ℚ whole z)) (sym rest_is.0)))

  -- where less is shared from now on
  pub lessened_is : (left : ℚ) → left ≡ fraction total (nat_abs s.shared) → (num more rest : ℤ) → num ≡ left.numerator →
      more ≡ pos left.denominator → rest ≡ s.rest *ℤ more → pos 1 ≤ℤ rest → fraction num (nat_abs rest) ≡ value +ℚ s.step *ℚ rate
  lessened_is left left_is num more rest num_is more_is rest_is some =
      let shared_is = whole_of_positive s.shared scaled.some_shared in
      let some_rest = whole_of_positive rest some in
      let at : left ≡ after *ℚ whole s.rest =
      cancel_left (whole s.shared) left (after *ℚ whole s.rest)
      (subst (λ (z : ℤ). whole z ≢ zero_ℚ) shared_is.0 (not_zero (nat_abs s.shared) shared_is.1))
      (mul_comm (whole s.shared) left ∙ ap (λ (z : ℤ). left *ℚ whole z) (sym shared_is.0)
      ∙ ap (λ (x : ℚ). x *ℚ whole (pos (nat_abs s.shared))) left_is ∙ top_back total (nat_abs s.shared) shared_is.1 ∙ total_is
      ∙ by_ring3 after (whole s.shared) (whole s.rest) (λ x s r. x ⊗ (s ⊗ r) ≐ s ⊗ (x ⊗ r)) refl) in
      fraction_from after num (nat_abs rest) some_rest.1
      (ap whole num_is ∙ sym (numerator_back left) ∙ ap (λ (z : ℤ). left *ℚ whole z) (sym more_is) ∙ ap (λ (x : ℚ). x *ℚ whole more) at
      ∙ by_ring3 after (whole s.rest) (whole more) (λ x r m. (x ⊗ r) ⊗ m ≐ x ⊗ (r ⊗ m)) refl
      ∙ ap (λ t. after *ℚ t) (sym (whole-mul s.rest more)) ∙ ap (λ (z : ℤ). after *ℚ whole z) (sym rest_is)
      ∙ ap (λ (z : ℤ). after *ℚ whole z) (sym some_rest.0))

pub some_product : (a b : ℤ) → pos 1 ≤ℤ a → pos 1 ≤ℤ b → pos 1 ≤ℤ (a *ℤ b)
some_product a b some_a some_b =
    let a_is = whole_of_positive a some_a in
    let b_is = whole_of_positive b some_b in
    subst (λ (z : ℤ). pos 1 ≤ℤ (z *ℤ b)) a_is.0 (subst (λ (z : ℤ). pos 1 ≤ℤ (pos (nat_abs a) *ℤ z)) b_is.0 (product_of (nat_abs a) (nat_abs b) a_is.1 b_is.1))
  where
    product_of : (m n : ℕ) → 0 < m → 0 < n → pos 1 ≤ℤ (pos m *ℤ pos n)
    product_of m n some more = omega (arith, ints, mul-pos some more)

factor_is_some : (a : ℤ) (b : ℕ) (c : ℤ) → a *ℤ pos b ≡ c → pos 1 ≤ℤ c → pos 1 ≤ℤ a
factor_is_some (pos zero) b c same some = absurd (omega (arith, ints, same, some))
factor_is_some (pos (suc a)) b c same some = omega (arith, ints)
factor_is_some (negsuc a) b c same some = absurd (omega (arith, ints, same, some))

-- of what is shared a factor goes over to the rest
pub lessened : (s : Inside) → IsScaled s → (more shared rest : ℤ) → pos 1 ≤ℤ more → shared *ℤ more ≡ s.shared → rest ≡ s.rest *ℤ more →
    IsScaled (record {
      step = s.step;
      value_denominator = s.value_denominator;
      rate_denominator = s.rate_denominator;
      value_factor = s.value_factor;
      rate_factor = s.rate_factor;
      shared = shared;
      rest = rest;
    })
lessened s scaled more shared rest some back rest_is =
    let product : whole shared *ℚ whole rest ≡ whole s.shared *ℚ whole s.rest =
    ap (λ (z : ℤ). whole shared *ℚ whole z) rest_is ∙ ap (λ t. whole shared *ℚ t) (whole-mul s.rest more)
    ∙ by_ring3 (whole shared) (whole s.rest) (whole more) (λ x r m. x ⊗ (r ⊗ m) ≐ (x ⊗ m) ⊗ r) refl
    ∙ ap (λ t. t *ℚ whole s.rest) (sym (whole-mul shared more) ∙ ap whole back) in
    record {
      value_factor = scaled.value_factor ∙ sym product;
      rate_factor = scaled.rate_factor ∙ ap (λ t. s.step *ℚ t) (sym product);
      some_values = scaled.some_values;
      some_rates = scaled.some_rates;
      some_shared =
          factor_is_some shared (nat_abs more) s.shared (ap (λ (z : ℤ). shared *ℤ z) (whole_of_positive more some).0 ∙ back) scaled.some_shared;
      some_rest = subst (λ (z : ℤ). pos 1 ≤ℤ z) (sym rest_is) (some_product s.rest more scaled.some_rest some);
    }

-- the factors for these denominators
pub scaled_by : (step of_one across : ℚ) (values rates : ℕ) (value_factor rate_factor rest : ℤ) → 0 < values → 0 < rates →
    of_one ≡ step *ℚ fraction (pos 1) rates → across ≡ fraction (pos of_one.denominator) values →
    value_factor ≡ across.numerator → rate_factor ≡ of_one.numerator *ℤ pos across.denominator → rest ≡ pos of_one.denominator *ℤ pos across.denominator →
    IsScaled (record {
      step = step;
      value_denominator = values;
      rate_denominator = rates;
      value_factor = value_factor;
      rate_factor = rate_factor;
      shared = rest;
      rest = pos 1;
    })
scaled_by step of_one across values rates value_factor rate_factor rest some_values some_rates one_is across_is value_is rate_is rest_is =
    let s : ℚ = whole (pos of_one.denominator) in
    let e : ℚ = whole (pos across.denominator) in
    let product : whole rest ≡ s *ℚ e = ap whole rest_is ∙ whole-mul (pos of_one.denominator) (pos across.denominator) in
    record {
      value_factor =
          ap (λ (z : ℤ). whole z *ℚ whole (pos values)) value_is ∙ ap (λ t. t *ℚ whole (pos values)) (sym (numerator_back across))
          ∙ by_ring3 across e (whole (pos values)) (λ x e v. (x ⊗ e) ⊗ v ≐ (x ⊗ v) ⊗ e) refl
          ∙ ap (λ (x : ℚ). x *ℚ whole (pos values) *ℚ e) across_is ∙ ap (λ t. t *ℚ e) (top_back (pos of_one.denominator) values some_values)
          ∙ sym product ∙ sym (one-mul (whole rest)) ∙ mul_comm (whole (pos 1)) (whole rest);
      rate_factor =
          ap (λ (z : ℤ). whole z *ℚ whole (pos rates)) rate_is
          ∙ ap (λ t. t *ℚ whole (pos rates)) (whole-mul of_one.numerator (pos across.denominator) ∙ ap (λ t. t *ℚ e) (sym (numerator_back of_one)))
          ∙ ap (λ (x : ℚ). x *ℚ s *ℚ e *ℚ whole (pos rates)) one_is
          ∙ by_ring5 step (fraction (pos 1) rates) s e (whole (pos rates)) (λ t f s e r. ((t ⊗ f) ⊗ s) ⊗ e ⊗ r ≐ t ⊗ ((f ⊗ r) ⊗ (s ⊗ e))) refl
          ∙ ap (λ t. step *ℚ t) (ap₂ (λ x y. x *ℚ y) (top_back (pos 1) rates some_rates) (sym product) ∙ mul_comm (whole (pos 1)) (whole rest));
      some_values = some_values;
      some_rates = some_rates;
      some_rest = omega (arith, ints);
      some_shared =
          subst (λ (z : ℤ). pos 1 ≤ℤ z) (sym rest_is)
          (some_product (pos of_one.denominator) (pos across.denominator) (omega (arith, ints, of_one.positive)) (omega (arith, ints, across.positive)));
    }

-- a factor of a number that fits does
pub factor_fits : (a b c : ℤ) → a *ℤ b ≡ c → pos 1 ≤ℤ b → nat_abs c < 2 ^ 127 → nat_abs a < 2 ^ 127
factor_fits a b c same some fits =
    let b_is = whole_of_positive b some in
    at a (nat_abs b) b_is.1 (ap (λ (z : ℤ). a *ℤ z) b_is.0 ∙ same)
  where
    at : (a : ℤ) (n : ℕ) → 0 < n → a *ℤ pos n ≡ c → nat_abs a < 2 ^ 127
    at a zero some is = absurd (omega (arith, some))
    at (pos a) (suc n) some is = omega (arith, ints, is, fits)
    at (negsuc a) (suc n) some is = omega (arith, ints, is, fits)

-- the factors for whole numbers
pub scaled_by_one : (step : ℚ) (value_factor rate_factor rest : ℤ) → value_factor ≡ pos step.denominator → rate_factor ≡ step.numerator →
    rest ≡ pos step.denominator →
    IsScaled (record {
      step = step;
      value_denominator = 1;
      rate_denominator = 1;
      value_factor = value_factor;
      rate_factor = rate_factor;
      shared = rest;
      rest = pos 1;
    })
scaled_by_one step value_factor rate_factor rest value_is rate_is rest_is = record {
  value_factor = ap (λ (z : ℤ). whole z *ℚ whole (pos 1)) (value_is ∙ sym rest_is);
  rate_factor =
      ap (λ (z : ℤ). whole z *ℚ whole (pos 1)) rate_is ∙ ap (λ t. t *ℚ whole (pos 1)) (sym (numerator_back step))
      ∙ by_ring3 step (whole (pos step.denominator)) (whole (pos 1)) (λ t d o. (t ⊗ d) ⊗ o ≐ t ⊗ (d ⊗ o)) refl
      ∙ ap (λ (z : ℤ). step *ℚ (whole z *ℚ whole (pos 1))) (sym rest_is);
  some_values = omega arith;
  some_rates = omega arith;
  some_rest = omega (arith, ints);
  some_shared = subst (λ (z : ℤ). pos 1 ≤ℤ z) (sym rest_is) (omega (arith, ints, step.positive));
}
