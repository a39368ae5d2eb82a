-- Numbers, and the parameter, as whole numbers over one denominator.
--     IsSpread values theta spread     the values and theta are the whole numbers over the denominator
use Rattle.std.specs.Prelude.{◌≡◌, List}
use Rattle.exact_values.specs.Rational.{ℚ, whole, ◌*ℚ◌}
use Rattle.long_vectors.specs.Vectors.{IsOver}
use Rattle.long_programs.specs.declared.spreads.Spread.{Spread}

pub record IsSpread (values : List ℚ) (theta : ℚ) (spread : Spread) : Type 0 where
  pub is_over : IsOver values spread.column
  pub moves : whole spread.moved ≡ theta *ℚ whole spread.column.bottom
