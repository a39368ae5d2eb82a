-- A fraction whose terms are words.
--     AreTermsOf x w    the numerator of x, which isn't negative, and its denominator
--     MakeUp x w        two words of which x is the quotient
use Rattle.std.specs.Prelude.{◌≡◌, ◌<◌, pos}
use Rattle.exact_values.specs.Rational.{ℚ, fraction}
use Rattle.basis_values.specs.declared.word_terms.Words.{Words}

pub record AreTermsOf (x : ℚ) (w : Words) : Type 0 where
  pub is_top : x.numerator ≡ pos w.top
  pub is_bottom : x.denominator ≡ w.bottom

-- they may have a common divisor
pub record MakeUp (x : ℚ) (w : Words) : Type 0 where
  pub some : 0 < w.bottom
  pub is : fraction (pos w.top) w.bottom ≡ x
