-- No product with an operand 0 is refused, and no sum with the operand 0.
use Rattle.std.proofs.Common.{◌≡◌, ℕ, ◌*◌, ◌/◌, sym, ap, ◌∙◌, arith, false, ℤ, pos}
use Rattle.std.specs.Prelude.{not, ◌+ℤ◌, ◌*ℤ◌, unsigned_abs}
use Rattle.std.proofs.Math.IntN.{*ℤ-one, zero-*ℤ, +ℤ_idr}
use Rattle.std.proofs.Math.Nat.{div-one, mul-one}
use Rattle.exact_values.specs.Gcd.{gcd}
use Rattle.exact_values.specs.GcdLaws.{gcd-one_right}
use Rattle.exact_values.specs.Rational.{ℚ, whole, zero_ℚ, ◌*ℚ◌}
use Rattle.exact_values.proofs.RingLaws.{zero-mul, mul-zero}
use Rattle.frac128.specs.declared.Op.TheVariants.{Add, Mul}
use Rattle.frac128.specs.Operations.{TermsFit, SumFits, terms_fit, refuses, shared_factor, raised_numerator, raised_sum, sum_denominator}
use Rattle.frac128.proofs.RefusalLemmas.{add_taken}

pub mul_taken_left : (x y : ℚ) → x ≡ zero_ℚ → refuses Mul x y ≡ false
unfolding refuses whole
mul_taken_left x y is = ap (λ s. not (terms_fit (s *ℚ y))) is ∙ ap (λ s. not (terms_fit s)) (zero-mul y)

pub mul_taken_right : (x y : ℚ) → y ≡ zero_ℚ → refuses Mul x y ≡ false
unfolding refuses whole
mul_taken_right x y is = ap (λ s. not (terms_fit (x *ℚ s))) is ∙ ap (λ s. not (terms_fit s)) (mul-zero x)

-- ---- the numbers on the way to the sum of x and 0

times_one : (z : ℤ) → z *ℤ pos (1 / 1) ≡ z
unfolding lib.IntN.one
times_one z = ap (λ (n : ℕ). z *ℤ pos n) (div-one 1) ∙ *ℤ-one z

left_raised : (x : ℚ) → raised_numerator x zero_ℚ ≡ x.numerator
unfolding raised_numerator shared_factor whole
left_raised x = ap (λ (g : ℕ). x.numerator *ℤ pos (1 / g)) (gcd-one_right x.denominator) ∙ times_one x.numerator

right_raised : (x : ℚ) → raised_numerator zero_ℚ x ≡ pos 0
unfolding raised_numerator shared_factor whole
right_raised x = zero-*ℤ (pos (x.denominator / gcd 1 x.denominator))

both_raised : (x : ℚ) → raised_sum x zero_ℚ ≡ x.numerator
unfolding raised_sum
both_raised x = ap (λ s. s +ℤ raised_numerator zero_ℚ x) (left_raised x) ∙ ap (λ s. x.numerator +ℤ s) (right_raised x) ∙ +ℤ_idr x.numerator

denominator_kept : (x : ℚ) → sum_denominator x zero_ℚ ≡ x.denominator
unfolding sum_denominator shared_factor whole
denominator_kept x =
    ap (λ (g : ℕ). x.denominator / g * (1 / gcd (unsigned_abs (raised_sum x zero_ℚ)) g)) (gcd-one_right x.denominator)
    ∙ ap (λ (g : ℕ). x.denominator / 1 * (1 / g)) (gcd-one_right (unsigned_abs (raised_sum x zero_ℚ)))
    ∙ mul-one (x.denominator / 1) ∙ div-one x.denominator

pub add_zero_taken : (x y : ℚ) → y ≡ zero_ℚ → TermsFit x → refuses Add x y ≡ false
add_zero_taken x y is h = ap (λ s. refuses Add x s) is ∙ sym (add_taken x zero_ℚ fits)
  where
    fits : SumFits x zero_ℚ
    fits = record {
      left_fits = rw (left_raised x) h.numerator_fits;
      right_fits = rw (right_raised x) (grind arith);
      sum_fits = rw (both_raised x) h.numerator_fits;
      denominator_fits = rw (denominator_kept x) h.denominator_fits;
    }
