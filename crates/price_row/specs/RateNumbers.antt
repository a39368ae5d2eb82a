-- Rates as numbers over the denominator of the multipliers of the rows.
--     IsNumberAt f k xs n          in each row whose multipliers are xs over a denominator, n over it is the rate at k, if k isn't basic
--     up_over up d                 what up is for the signs of numbers over d: the opposite where d isn't above 0
use Rattle.std.specs.Prelude.{◌≡◌, ℕ, Bool, false, List, not, if◌then◌else◌}
use Rattle.exact_values.specs.Rational.{ℚ, zero_ℚ, ◌/ℚ◌}
use Rattle.exact_values.specs.Tests.{lt_ℚ}
use Rattle.lp_definitions.specs.LinearProgram.{size}
use Rattle.lp_definitions.specs.Basis.{is_in, IsBasic}
use Rattle.whole_vectors.specs.Quotients.{Represent}
use Rattle.eta_file.specs.Inverse.{Inverse}
use Rattle.price_row.specs.Known.{HasMultipliers, IsRateOf}

pub record IsNumberAt (f : Inverse) (k : ℕ) (xs : List ℚ) (n : ℚ) : Type 0 where
  pub over : (r : ℕ) (d : ℚ) → IsBasic f.matrix f.basics r → is_in f.basics k ≡ false → Represent (HasMultipliers f (size f.matrix) r) d xs →
      IsRateOf f r k (n /ℚ d)

abbrev pub up_over : Bool → ℚ → Bool
up_over up d = if lt_ℚ zero_ℚ d then up else not up
