-- Steps with a common denominator of values and one of rates.
use Rattle.std.specs.Prelude.{◌≡◌, pos, ◌≤ℤ◌, ◌<◌}
use Rattle.exact_values.specs.Rational.{whole, ◌*ℚ◌}
use Rattle.bounded_primal.specs.declared.scaled_step.ScaledStep.TheInside.{Inside}

-- a value over the one denominator times its factor, and the step times a rate over the other one, are numbers over a third denominator
pub record IsScaled (s : Inside) : Type 0 where
  pub value_factor : whole s.value_factor *ℚ whole (pos s.value_denominator) ≡ whole s.shared *ℚ whole s.rest
  pub rate_factor : whole s.rate_factor *ℚ whole (pos s.rate_denominator) ≡ s.step *ℚ (whole s.shared *ℚ whole s.rest)
  pub some_values : 0 < s.value_denominator
  pub some_rates : 0 < s.rate_denominator
  pub some_shared : pos 1 ≤ℤ s.shared
  pub some_rest : pos 1 ≤ℤ s.rest
