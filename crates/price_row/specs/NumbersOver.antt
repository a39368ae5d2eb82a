-- Numbers that are kept of values over a denominator.
--     AreNumbersOver d xs ns       each number that isn't 0 is, over d, the value at its place; there are as many as values
use Rattle.std.specs.Prelude.{◌≡◌, ◌≢◌, ℕ, List, length}
use Rattle.exact_values.specs.Rational.{ℚ, zero_ℚ, ◌*ℚ◌}
use Rattle.lp_definitions.specs.LinearProgram.{value_at}

pub record AreNumbersOver (d : ℚ) (xs ns : List ℚ) : Type 0 where
  pub apart : d ≢ zero_ℚ
  pub counted : length ns ≡ length xs
  pub each : (k : ℕ) → value_at ns k ≢ zero_ℚ → value_at ns k ≡ value_at xs k *ℚ d
