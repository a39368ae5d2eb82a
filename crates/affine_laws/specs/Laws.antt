-- What is proved of conditions that all hold at a number, as the function of src/lib.rt promises it.
use Rattle.std.specs.Prelude.{◌≢◌, ◌↔◌, List}
use Rattle.exact_values.specs.Rational.{ℚ, zero_ℚ, ◌≤ℚ◌, ◌<ℚ◌}
use Rattle.affine_laws.specs.Conditions.{Condition, value, zero_of, AllHold, Falling, Rising, reach_of, IsReach}

-- x lies between the zeros of the rising functions and those of the falling ones
pub record IsBetweenZeros (cs : List Condition) (x : ℚ) : Type 0 where
  pub above : Rising cs (λ c. zero_of c ≤ℚ x)
  pub below : Falling cs (λ c. x ≤ℚ zero_of c)

pub record ConditionLaws : Type 0 where
  -- from a number at which they hold, upward, they hold up to the least zero of a falling function
  pub stays : (cs : List Condition) (from x : ℚ) → AllHold cs from → from ≤ℚ x → Falling cs (λ c. x ≤ℚ zero_of c) → AllHold cs x
  -- and no further
  pub greatest : (cs : List Condition) (x : ℚ) → AllHold cs x → Falling cs (λ c. x ≤ℚ zero_of c)
  -- where they hold somewhere, they hold just between the zeros
  pub both_sides : (cs : List Condition) (from x : ℚ) → AllHold cs from → AllHold cs x ↔ IsBetweenZeros cs x
  -- no zero of a falling function lies before, and none lies there if none of these functions is 0 there
  pub ahead : (cs : List Condition) (from : ℚ) → AllHold cs from → Falling cs (λ c. from ≤ℚ zero_of c)
  pub strictly : (cs : List Condition) (from : ℚ) → AllHold cs from → Falling cs (λ c. value c from ≢ zero_ℚ) → Falling cs (λ c. from <ℚ zero_of c)
  -- the greatest number up to max at which they hold
  pub reach : (cs : List Condition) (from max : ℚ) → AllHold cs from → from ≤ℚ max → IsReach cs from max (reach_of max cs)
