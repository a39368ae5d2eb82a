-- Where a basis puts its nonbasics.
--     place_of st low high         the value of a variable with this status and these limits, if it is not basic
--     standing p s                 the same for each variable of a status list
use Rattle.std.specs.Prelude.{List, Option, unwrap_or}
use Rattle.exact_values.specs.Rational.{ℚ, zero_ℚ}
use Rattle.lp_definitions.specs.LinearProgram.{LinearProgram, Vector, lower_of, upper_of}
use Rattle.lp_definitions.specs.Basis.{status_of}
use Rattle.lp_definitions.specs.declared.Status.{Status}
use Rattle.lp_definitions.specs.declared.Status.TheVariants.{Bs, Ll, Ul, Fr}

abbrev pub place_of : Status → Option ℚ → Option ℚ → ℚ
place_of Bs low high = zero_ℚ
place_of Ll low high = unwrap_or low zero_ℚ
place_of Ul low high = unwrap_or high zero_ℚ
place_of Fr low high = zero_ℚ

abbrev pub standing : LinearProgram → List Status → Vector
standing p s k = place_of (status_of s k) (lower_of p k) (upper_of p k)
