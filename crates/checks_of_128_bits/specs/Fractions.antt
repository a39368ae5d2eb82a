-- What a listing has in numbers, in fractions.
--     HasPair, HasColumns          they have a number for each variable
--     pair_verdict p objective     the test of a point and a direction
--     AreFractions                 the same lines of an interval
use Rattle.std.specs.Prelude.{◌≡◌, [], ◌∷◌, length}
use Rattle.exact_values.specs.Rational.{ℚ}
use Rattle.exact_values.specs.Tests.{eq_ℚ}
use Rattle.lp_definitions.specs.LinearProgram.{LinearProgram, size, value_at}
use Rattle.check_definitions.specs.declared.Verdict.{Verdict}
use Rattle.check_definitions.specs.Steps.{in_turn}
use Rattle.check_definitions.specs.Checks.{unbounded_check}
use Rattle.walk_definitions.specs.Tests.{asked}
use Rattle.listing_claims.specs.declared.claims.Columns.{Columns}
use Rattle.checks_of_128_bits.specs.declared.fractions.FractionPair.{FractionPair}
use Rattle.checks_of_128_bits.specs.declared.fractions.FractionColumns.{FractionColumns}

-- a point and a direction have a value for each variable
abbrev pub HasPair : LinearProgram → FractionPair → Type 0
HasPair p pair = (length pair.point.items ≡ size p.matrix) × (length pair.direction.items ≡ size p.matrix)

-- they show that there is no best point, and the point has this objective
abbrev pub pair_verdict : LinearProgram → ℚ → FractionPair → Verdict
pair_verdict p objective pair =
    in_turn (unbounded_check p (value_at pair.point.items) (value_at pair.direction.items) ∷ asked
    (eq_ℚ objective (value_at pair.point.items p.objective)) ∷ [])

-- the same lines
pub record AreFractions (columns : Columns) (made : FractionColumns) : Type 0 where
  pub value : made.value.items ≡ columns.value.items
  pub value_rate : made.value_rate.items ≡ columns.value_rate.items
  pub price : made.price.items ≡ columns.price.items
  pub price_rate : made.price_rate.items ≡ columns.price_rate.items

-- a value, a price and their rates for each variable
pub record HasColumns (p : LinearProgram) (columns : FractionColumns) : Type 0 where
  pub value : length columns.value.items ≡ size p.matrix
  pub value_rate : length columns.value_rate.items ≡ size p.matrix
  pub price : length columns.price.items ≡ size p.matrix
  pub price_rate : length columns.price_rate.items ≡ size p.matrix
