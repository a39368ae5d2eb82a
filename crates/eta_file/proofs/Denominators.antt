-- Numbers over a denominator that isn't the least one: their products with it, and directions that are kept so.
use Rattle.std.proofs.Common.{◌≡◌, ◌≢◌, ℕ, zero, suc, ◌-◌, ℤ, pos, neg_ℤ, List, [], ◌∷◌, map, get_or, refl, sym, ◌∙◌, ap, arith}
use Rattle.std.specs.Prelude.{◌≤ℤ◌, unsigned_abs}
use Rattle.std.proofs.lemmas.Int.{ints}
use Rattle.exact_values.specs.Rational.{ℚ, whole, fraction, zero_ℚ, neg_ℚ, inverse_ℚ, ◌*ℚ◌, ◌/ℚ◌}
use Rattle.exact_values.proofs.Ring.{by_ring2, ◌⊗◌, ◌≐◌, opposite}
use Rattle.exact_values.proofs.Inverse.{div-mul_cancel, numerator_of_zero, whole_numerator}
use Rattle.exact_values.proofs.RingLaws.{zero-mul, whole-neg, fraction-one}
use Rattle.lp_definitions.specs.LinearProgram.{Matrix, value_at}
use Rattle.lp_definitions.specs.Basis.{Basics, IsNonbasic, IsDirectionOf}
use Rattle.lp_laws.proofs.Alike.{direction_same}
use Rattle.lp_model.specs.Sparse.{over}
use Rattle.whole_vectors.specs.Quotients.{quotients, IsSameOver, Represent}
use Rattle.whole_vectors.proofs.Over.{value_at-quotients, over_whole}
use Rattle.whole_vectors.proofs.Words.{is_whole}

whole_denominator : (z : ℤ) → (whole z).denominator ≡ 1
unfolding whole
whole_denominator z = refl

module _ (e : ℚ) (n : ℤ) (one : e.denominator ≡ 1) (is : e.numerator ≡ n) (low : pos 1 ≤ℤ n) where
  apart_from_zero : e ≢ zero_ℚ
  apart_from_zero none = absurd (omega (arith, ints, low, sym is ∙ numerator_of_zero e none))

  number_over : (z : ℤ) → fraction z (unsigned_abs n) ≡ whole z /ℚ e
  number_over z = sym (ap (λ m. fraction m (unsigned_abs n)) (whole_numerator z)) ∙ over_whole (whole z) e n (whole_denominator z) one low is

  -- a fraction times its denominator
  pub times_denominator : (z : ℤ) (x : ℚ) → fraction z (unsigned_abs n) ≡ x → fraction z 1 ≡ x *ℚ e
  times_denominator z x value =
      fraction-one z ∙ sym (div-mul_cancel (whole z) e apart_from_zero) ∙ ap (λ y. y *ℚ e) (sym (number_over z) ∙ value)

  -- each of the numbers over a denominator that is a whole number
  numbers_over : (zs : List ℤ) (k : ℕ) → value_at (over n zs) k ≡ value_at (map whole zs) k /ℚ e
  numbers_over zs k = at zs (k - 1)
    where
      at : (zs : List ℤ) (i : ℕ) → get_or (over n zs) i zero_ℚ ≡ get_or (map whole zs) i zero_ℚ /ℚ e
      at [] i = sym (zero-mul (inverse_ℚ e))
      at (z ∷ zs) zero = number_over z
      at (z ∷ zs) (suc i) = at zs i

  -- the numbers of a direction, brought to a denominator that is a whole number
  pub direction_over : (a : Matrix) (marks : Basics) (j : ℕ) (d : ℚ) (old new : List ℚ) (zs : List ℤ) → IsNonbasic a marks j →
      Represent (λ xs. IsDirectionOf a marks j (value_at xs)) d old → IsSameOver d old e new → map whole zs ≡ new →
      IsDirectionOf a marks j (value_at (over n zs))
  direction_over a marks j d old new zs out h same are =
      direction_same a marks j (value_at (quotients d old)) (value_at (over n zs)) out.0
      (λ k var. numbers_over zs k ∙ ap (λ xs. value_at xs k /ℚ e) are ∙ same.each k ∙ sym (value_at-quotients d old k)) h.holds

-- a fraction times the opposite of its denominator
pub times_opposite : (e : ℚ) (n z : ℤ) (x : ℚ) → e.denominator ≡ 1 → e.numerator ≡ neg_ℤ n → pos 1 ≤ℤ n → fraction z (unsigned_abs n) ≡ x →
    fraction (neg_ℤ z) 1 ≡ x *ℚ e
times_opposite e n z x one is low value =
    fraction-one (neg_ℤ z) ∙ whole-neg z
    ∙ ap neg_ℚ (sym (fraction-one z) ∙ times_denominator (whole n) n (whole_denominator n) (whole_numerator n) low z x value)
    ∙ by_ring2 x (whole n) (λ x t. opposite (x ⊗ t) ≐ x ⊗ opposite t) refl
    ∙ ap (λ t. x *ℚ t) (sym (whole-neg n) ∙ ap whole (sym is) ∙ is_whole e one)
