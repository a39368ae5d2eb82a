-- Whole numbers, as fractions.
--     wholes ns                    each of the numbers
use Rattle.std.specs.Prelude.{ℤ, List, map}
use Rattle.exact_values.specs.Rational.{ℚ, whole}

abbrev pub wholes : List ℤ → List ℚ
wholes ns = map whole ns
