-- Fractions that need not be in lowest terms.
--     number_of f                  the number that is kept so
--     IsForm f                     the terms are those of a fraction
use Rattle.std.specs.Prelude.{ℤ, pos, ◌≤ℤ◌, unsigned_abs}
use Rattle.exact_values.specs.Rational.{ℚ, fraction}
use Rattle.frac128.specs.Terms.{Fits}
use Rattle.lp_model.specs.declared.ratio.Form.{Form}
use Rattle.lp_model.specs.declared.ratio.Form.TheVariants.{Lowest, Terms}

-- the terms of a fraction, which may have a common divisor
pub record AreTerms (n : ℤ) (d : ℤ) : Type 0 where
  pub at_least_one : pos 1 ≤ℤ d
  pub num_fits : Fits n
  pub den_fits : Fits d

-- the number that is kept so
abbrev pub number_of : Form → ℚ
number_of (Lowest x) = x
number_of (Terms num den) = fraction num (unsigned_abs den)

-- a fraction in lowest terms is one; terms are those of a fraction
abbrev pub IsForm : Form → Type 0
IsForm (Lowest x) = Unit {0}
IsForm (Terms num den) = AreTerms num den
